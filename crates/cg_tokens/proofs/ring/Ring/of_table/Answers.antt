use Rattle.std.specs.List.Sorted.{IsPermutation}
use Rattle.cg_tokens.specs.Claims.{claims}
use Rattle.cg_tokens.proofs.ClaimLemmas.{permuted}
use Rattle.cg_tokens.proofs.MovingLemmas.{ring_made}
use Rattle.cg_tokens.proofs.ring.Ring.of_table.Goals as goal

pub returns : goal.returns
returns c =
    let moved : IsPermutation (claims c.args.table.now.entries) c.in_ok-claims.claims.items = rw (← c.owners.ensures.value) c.in_ok-claims.ensures.permutation in
    ring_made c.args.table.now.entries c.in_ok-claims.claims.items c.in_ok-claims.ensures.sorted (permuted (claims c.args.table.now.entries) c.in_ok-claims.claims.items moved) c.of_claims.result c.of_claims.ensures
