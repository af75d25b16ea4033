use Rattle.std.proofs.Common.{◌≡◌, ℕ, ◌+◌, ◌≤◌, Bool, true, false, List, Some, bytes_eq, ap, sym, ◌∙◌, arith}
use Rattle.cg_types.specs.declared.limits.TheConstants.{STATE_LIMIT}
use Rattle.cg_types.specs.Key.{key_name}
use Rattle.cg_http.proofs.KeyLemmas.{begins, named_so, found, passed, ended}
use Rattle.cg_http.proofs.paths.key_named.Goals as goal

pub loop-number-init : goal.loop-number-init
loop-number-init c = begins c.args.name.now

pub returns-then-is_word : goal.returns-then-is_word
returns-then-is_word c =
    let within : c.loop-number.number ≤ STATE_LIMIT = omega (arith, c.loop-number-test.true) in
    let is = named_so c.args.name.now _ _ _ _ c.in_ok-key.ensures.value c.name.ensures (sym c.is_word.ensures ∙ c.if-is_word.true) in
    ap Some c.in_ok-key.ensures.value ∙ sym (c.loop-number.invariant ∙ found c.loop-number.number c.args.name.now within is)

pub loop-number-preserved : goal.loop-number-preserved
loop-number-preserved c =
    let within : c.loop-number.number ≤ STATE_LIMIT = omega (arith, c.loop-number-test.true) in
    let other = named_so c.args.name.now _ _ _ _ c.in_ok-key.ensures.value c.name.ensures (sym c.is_word.ensures ∙ c.if-is_word.false) in
    c.loop-number.invariant ∙ passed c.loop-number.number c.args.name.now within other

pub returns : goal.returns
returns c =
    let past : STATE_LIMIT + 1 ≤ c.loop-number.number = omega (arith, c.loop-number-test.false) in
    sym (c.loop-number.invariant ∙ ended c.loop-number.number c.args.name.now past)
