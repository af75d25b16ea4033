use Rattle.std.specs.Prelude.{nat_lt}
use Rattle.std.proofs.Common.{◌∙◌, rules}
use Rattle.std.proofs.lemmas.List.Sorted.{IsPartitionPoint-from_clause}
use Rattle.cg_exchange.proofs.WalkLemmas.{from_point, parted_at, rest_from}
use Rattle.cg_exchange.proofs.walking.rising_from.Goals as goal

pub returns : goal.returns
returns g c =
    let members = c.args.members.now in
    let point = IsPartitionPoint-from_clause (λ x. nat_lt (g.M.Owned.owner_of x) c.args.owner) members c.partition_point.result c.partition_point.ensures.partitioned (parted_at g.M.Owned.owner_of c.args.owner members c.requires) (λ a r f called. search rules) in
    rest_from members c.partition_point.result ∙ from_point g.M.Owned.owner_of c.args.owner members c.partition_point.result c.partition_point.ensures.bound point
