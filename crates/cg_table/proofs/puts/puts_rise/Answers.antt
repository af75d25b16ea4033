use Rattle.std.specs.Prelude.{nat_lt}
use Rattle.std.proofs.Common.{rules}
use Rattle.std.proofs.lemmas.List.Sorted.{answers_always}
use Rattle.cg_types.proofs.NeighbourLemmas.{neighbours_rise}
use Rattle.cg_table.specs.Puts.{Put}
use Rattle.cg_table.proofs.puts.puts_rise.Goals as goal

pub returns : goal.returns
returns c =
    neighbours_rise (λ (p : Put). p.0) c.args.puts.now c.is_sorted_by.result
    (c.is_sorted_by.ensures.cases (λ x y. nat_lt x.0 y.0) (answers_always _ _ _ (λ f a r g called. search rules)))
