use Rattle.cg_types.proofs.WordLemmas.{value_more, digit_kept, value_past}
use Rattle.std.proofs.Common.{rules, ◌+◌, ◌∙◌}
use Rattle.cg_types.proofs.words.value_of.Goals as goal

pub returns-in_default : goal.returns-in_default
returns-in_default c =
    let i = c.loop-byte.invariant in
    let more = value_more _ _ _ _ _ c.loop-byte-test.true i.0 i.1 (search rules) (search rules) c.from.ensures in
    value_past c.args.text.now (c.loop-byte.byte-index + 1) _ _ _ c.with_digit.ensures c.in_default.is more.1

pub loop-byte-preserved : goal.loop-byte-preserved
loop-byte-preserved c =
    let i = c.loop-byte.invariant in
    let more = value_more _ _ _ _ _ c.loop-byte-test.true i.0 i.1 (search rules) (search rules) c.from.ensures in
    let kept = digit_kept _ _ _ _ c.with_digit.ensures c.in-Some.is in
    (more.0, kept.0 ∙ more.1, kept.1)
