use Rattle.std.proofs.Common.{◌∙◌, [], ◌∷◌, sym}
use Rattle.std.specs.Prelude.{option_copied}
use Rattle.cg_tokens.proofs.MovingLemmas.{ring_kept, ring_moved, moved_sorted}
use Rattle.cg_tokens.proofs.ring.Ring.moved.Goals as goal

pub returns-then-keeps_claims : goal.returns-then-keeps_claims
returns-then-keeps_claims c =
    ring_kept c.args.owner (option_copied c.args.old) c.args.new.now c.args.self.now (sym c.keeps_claims.ensures ∙ c.if-keeps_claims.true) c.copy.result c.copy.ensures

pub of_claims-requires : goal.of_claims-requires
of_claims-requires c =
    rw (c.in_ok-claims.ensures, c.deref.ensures.value)
    (moved_sorted (c.args.owner ∷ []) c.claims.result.now c.in_ok-fresh.fresh.items c.claims.ensures.sorted c.in_ok-fresh.ensures.sorted)

pub returns : goal.returns
returns c =
    ring_moved c.args.self.now c.claims.result.now c.in_ok-fresh.fresh.items (sym c.claims.ensures.value) c.claims.ensures.sorted c.in_ok-fresh.ensures.sorted c.args.owner (option_copied c.args.old) c.args.new.now c.in_ok-fresh.ensures.permutation c.of_claims.result
    (rw (c.in_ok-claims.ensures, c.deref.ensures.value) at c.of_claims.ensures)
