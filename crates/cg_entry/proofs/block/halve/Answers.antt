use Rattle.std.proofs.Common.{rules}
use Rattle.std.proofs.lemmas.Fn.{always_returns_same}
use Rattle.cg_entry.specs.Block.{state_at}
use Rattle.cg_entry.proofs.BlockLemmas.{searched_rows}
use Rattle.cg_entry.proofs.block.halve.Goals as goal

pub returns-clause-found : goal.returns-clause-found
returns-clause-found c =
    let by_key = c.binary_search_by_key.ensures.position (λ p. (state_at c.args.items.now p).key) (always_returns_same _ _ _ (λ a r f called. search rules)) in
    (searched_rows c.args.items.now c.args.key c.args.places.now c.requires c.get.result c.binary_search_by_key.result c.get.ensures.value c.binary_search_by_key.ensures.bound by_key).found

pub returns-clause-absent : goal.returns-clause-absent
returns-clause-absent c =
    let by_key = c.binary_search_by_key.ensures.position (λ p. (state_at c.args.items.now p).key) (always_returns_same _ _ _ (λ a r f called. search rules)) in
    (searched_rows c.args.items.now c.args.key c.args.places.now c.requires c.get.result c.binary_search_by_key.result c.get.ensures.value c.binary_search_by_key.ensures.bound by_key).absent
