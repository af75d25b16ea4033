use Rattle.std.specs.Prelude.{nat_lt}
use Rattle.std.proofs.Common.{rules}
use Rattle.std.proofs.lemmas.List.Sorted.{answers_always}
use Rattle.cg_types.proofs.NeighbourLemmas.{neighbours_rise}
use Rattle.cg_audit.specs.Items.{generation_of}
use Rattle.cg_audit.proofs.lives.rise.Goals as goal

pub returns : goal.returns
returns c =
    neighbours_rise generation_of c.args.histories.now c.is_sorted_by.result
    (c.is_sorted_by.ensures.cases (λ x y. nat_lt (generation_of x) (generation_of y)) (answers_always _ _ _ (λ f a r g called. search rules)))
