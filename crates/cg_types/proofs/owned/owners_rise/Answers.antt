use Rattle.std.specs.Prelude.{nat_lt}
use Rattle.std.proofs.Common.{rules}
use Rattle.std.proofs.lemmas.List.Sorted.{answers_always}
use Rattle.cg_types.proofs.NeighbourLemmas.{neighbours_rise}
use Rattle.cg_types.proofs.owned.owners_rise.Goals as goal

pub returns : goal.returns
returns g c =
    neighbours_rise g.M.Owned.owner_of c.args.members.now c.is_sorted_by.result
    (c.is_sorted_by.ensures.cases (λ x y. nat_lt (g.M.Owned.owner_of x) (g.M.Owned.owner_of y)) (answers_always _ _ _ (λ f a r g called. search rules)))
