use Rattle.std.specs.Prelude.{nat_le}
use Rattle.std.proofs.Common.{rules}
use Rattle.std.proofs.lemmas.List.Sorted.{answers_always}
use Rattle.cg_entry.proofs.OrderLemmas.{versions_stay}
use Rattle.cg_entry.proofs.states.versions_rise.Goals as goal

pub returns : goal.returns
returns c = λ yes.
    versions_stay c.args.items.now c.is_sorted_by.result (c.is_sorted_by.ensures.cases (λ x y. nat_le x.version y.version) (answers_always _ _ _ (λ f a r g called. search rules))) yes
