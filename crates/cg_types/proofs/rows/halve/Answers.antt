use Rattle.std.proofs.Common.{rules}
use Rattle.std.proofs.lemmas.List.Sorted.{answers_always}
use Rattle.cg_types.proofs.RowLemmas.{searched}
use Rattle.cg_types.proofs.rows.halve.Goals as goal

-- the closure gives a row's endpoint
pub returns : goal.returns
returns g c =
    let facts = c.binary_search_by_key.ensures in
    let by_key = facts.position (λ row. row.0) (answers_always _ _ _ (λ f a r g called. search rules)) in
    searched c.args.endpoint c.args.rows.now c.requires _ facts.bound by_key
