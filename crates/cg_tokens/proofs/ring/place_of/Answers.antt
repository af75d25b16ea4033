use Rattle.std.proofs.Common.{rules}
use Rattle.std.specs.Prelude.{nat_lt, nat_le}
use Rattle.std.proofs.lemmas.List.Sorted.{IsPartitionPoint-from_clause}
use Rattle.cg_tokens.proofs.RingLemmas.{parted_at, not_before, front-filter, back-filter}
use Rattle.cg_tokens.proofs.ring.place_of.Goals as goal

pub returns-clause-before : goal.returns-clause-before
returns-clause-before c =
    let ps = c.args.positions.now in
    let point = IsPartitionPoint-from_clause (λ p. nat_lt p.0 c.args.token) ps c.partition_point.result c.partition_point.ensures.partitioned (parted_at c.args.token ps c.requires) (λ a r f called. search rules) in
    front-filter (λ p. nat_lt p.0 c.args.token) (λ p. nat_le c.args.token p.0) (λ p. not_before c.args.token p.0) ps c.partition_point.result point.0 point.1

pub returns-clause-from : goal.returns-clause-from
returns-clause-from c =
    let ps = c.args.positions.now in
    let point = IsPartitionPoint-from_clause (λ p. nat_lt p.0 c.args.token) ps c.partition_point.result c.partition_point.ensures.partitioned (parted_at c.args.token ps c.requires) (λ a r f called. search rules) in
    back-filter (λ p. nat_lt p.0 c.args.token) (λ p. nat_le c.args.token p.0) (λ p. not_before c.args.token p.0) ps c.partition_point.result c.partition_point.ensures.bound point.0 point.1
