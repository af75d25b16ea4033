use Rattle.std.proofs.Common.{◌≡◌, ◌==◌, ◌∙◌, true, length, sym, subst, eqb-true}
use Rattle.std.specs.List.Sorted.{IsSorted}
use Rattle.std.proofs.lemmas.List.{nil_from_length}
use Rattle.cg_tokens.specs.Claims.{rank}
use Rattle.cg_tokens.proofs.MovingLemmas.{ring_shared, ring_moved_each, moved_sorted}
use Rattle.cg_types.specs.Rows.{keys_of}
use Rattle.cg_tokens.proofs.ring.Ring.moved_each.Goals as goal

pub returns-then-is_empty : goal.returns-then-is_empty
returns-then-is_empty c =
    let rows = c.args.rows.now in
    let none : (length rows == 0) ≡ true = sym c.is_empty.ensures ∙ c.if-is_empty.true in
    let here = c.claims-claims.ensures.value in
    ring_shared c.args.self.now (subst (IsSorted rank) here c.claims-claims.ensures.sorted) c.claims-claims.ensures.won rows (nil_from_length rows (eqb-true (length rows) 0 none)) c.copy.result c.copy.ensures

pub merged-requires : goal.merged-requires
merged-requires c = rw (c.deref.ensures.value, c.in_ok-owners.ensures) c.requires.rise

pub of_claims-requires : goal.of_claims-requires
of_claims-requires c =
    rw (c.in_ok-claims.ensures, c.deref.ensures.value, c.deref-2.ensures.value, c.in_ok-owners.ensures)
    (moved_sorted (keys_of c.args.rows.now) c.claims-claims.result.now c.in_ok-fresh.fresh.items c.claims-claims.ensures.sorted c.in_ok-fresh.ensures.sorted)

pub returns : goal.returns
returns c =
    ring_moved_each c.args.self.now c.claims-claims.result.now c.in_ok-fresh.fresh.items (sym c.claims-claims.ensures.value) c.claims-claims.ensures.sorted c.in_ok-fresh.ensures.sorted c.args.rows.now c.requires.rise c.in_ok-fresh.ensures.permutation c.of_claims.result
    (rw (c.in_ok-claims.ensures, c.deref.ensures.value, c.deref-2.ensures.value, c.in_ok-owners.ensures) at c.of_claims.ensures)
