-- Turns find an order that is one run exactly if there is one.
use Rattle.std.specs.Prelude.{ℕ, ◌≡◌, ◌++◌, false, List, []}
use Rattle.std.specs.List.{AllByRecursion}
use Rattle.cg_audit.specs.Items.{RunItem, LivesValue, items_at}
use Rattle.cg_audit.specs.OneRun.{EachWasSent, GenerationsRise, IsOneRun, items_by}
use Rattle.cg_audit.specs.Turns.{Order, Stuck, can_go, heads, order_of, endpoints_of}

abbrev pub OrdersAreRuns : Type 0
OrdersAreRuns =
    (lives : List LivesValue) (order : List RunItem) → GenerationsRise lives → order_of lives ≡ Order order
    → IsOneRun lives order

abbrev pub StuckLivesAreNoRun : Type 0
StuckLivesAreNoRun =
    (lives : List LivesValue) (left order : List RunItem) → order_of lives ≡ Stuck left → IsOneRun lives order → ⊥

-- Some items have gone, in an order as a run has it, and the others of each endpoint are left. The heads are the next
-- item of each endpoint that has any left, and there are some. No item gone sent what one of the heads handles.
pub record AreStuck (lives : List LivesValue) (stuck : List RunItem) : Type 0 where
  pub gone : List RunItem
  pub left : ℕ → List RunItem
  pub parted : (endpoint : ℕ) → items_by endpoint gone ++ left endpoint ≡ items_at lives endpoint
  pub sent : EachWasSent [] gone
  pub some : stuck ≡ [] → ⊥
  pub heads : stuck ≡ heads (endpoints_of lives) left
  pub stay : AllByRecursion (λ (i : RunItem). can_go gone i.handled ≡ false) stuck

abbrev pub HeadsCanNotGo : Type 0
HeadsCanNotGo =
    (lives : List LivesValue) (stuck : List RunItem) → order_of lives ≡ Stuck stuck → AreStuck lives stuck
