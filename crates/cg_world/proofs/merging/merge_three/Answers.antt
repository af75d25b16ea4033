use Rattle.std.proofs.Common.{◌≡◌, subst, sym, ◌∙◌, ap, Result, Ok}
use Rattle.cg_types.specs.declared.fault.Fault.{Fault}
use Rattle.cg_types.specs.Answer.{Answers}
use Rattle.cg_table.specs.Values.{TableValue}
use Rattle.cg_table.specs.Merge.{merge_of, merging}
use Rattle.cg_world.specs.Merging.{merged_three}
use Rattle.cg_world.proofs.MergingLemmas.{merge_done, same_answer}
use Rattle.cg_world.proofs.merging.merge_three.Goals as goal

pub returns : goal.returns
returns c =
    let one = c.args.one.now in
    let two = c.args.two.now in
    let both : TableValue = record { own = one.own; entries = merge_of one.entries two.entries } in
    let made : c.in_ok-both.both ≡ both = same_answer c.in_ok-both.both both (sym c.in_ok-both.ensures.due ∙ merge_done one two c.requires.both) in
    let all : merging c.in_ok-both.both c.args.three.now ≡ Ok (merged_three one two c.args.three.now) =
    ap (λ (t : TableValue). merging t c.args.three.now) made ∙ merge_done both c.args.three.now c.requires.all in
    subst (λ (due : Result TableValue Fault). Answers (λ t. t) due c.merge-2.result) all c.merge-2.ensures.due
