use Rattle.std.specs.Prelude.{nat_lt}
use Rattle.std.proofs.Common.{rules}
use Rattle.std.proofs.lemmas.List.Sorted.{answers_always}
use Rattle.cg_types.proofs.NeighbourLemmas.{neighbours_rise}
use Rattle.cg_entry.specs.declared.state.State.{State}
use Rattle.cg_entry.proofs.states.keys_rise.Goals as goal

pub returns : goal.returns
returns c =
    neighbours_rise (λ (s : State). s.key) c.args.items.now c.is_sorted_by.result (c.is_sorted_by.ensures.cases (λ x y. nat_lt x.key y.key) (answers_always _ _ _ (λ f a r g called. search rules)))
