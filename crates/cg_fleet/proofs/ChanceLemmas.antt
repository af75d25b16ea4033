-- Lemmas on draws.
use Rattle.std.proofs.Common.{ℕ, suc, ◌-◌, ◌≡◌, Bool, true, false, nat_lt, if◌then◌else◌, ap, ◌∙◌}
use Rattle.rand_core.specs.Stream.{Stream}
use Rattle.cg_fleet.specs.Chance.{below_of, arriving_of, one_more}

-- the first is lost
pub arriving_lost : (most loss : ℕ) (s : Stream) → most ≡ suc (most - 1) → nat_lt (below_of 100 s).0 loss ≡ true
    → arriving_of most loss s ≡ (0, (below_of 100 s).1)
arriving_lost most loss s is lost =
    ap (λ (n : ℕ). arriving_of n loss s) is
    ∙ ap (λ (b : Bool). if b then (0, (below_of 100 s).1) else one_more (arriving_of (most - 1) loss (below_of 100 s).1)) lost

-- the first arrives
pub arriving_on : (most loss : ℕ) (s : Stream) → most ≡ suc (most - 1) → nat_lt (below_of 100 s).0 loss ≡ false
    → arriving_of most loss s ≡ one_more (arriving_of (most - 1) loss (below_of 100 s).1)
arriving_on most loss s is lost =
    ap (λ (n : ℕ). arriving_of n loss s) is
    ∙ ap (λ (b : Bool). if b then (0, (below_of 100 s).1) else one_more (arriving_of (most - 1) loss (below_of 100 s).1)) lost
