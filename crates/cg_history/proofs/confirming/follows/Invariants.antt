use Rattle.std.proofs.Common.{◌≡◌, ◌≢◌, ◌≤◌, ℕ, length, Some}
use Rattle.std.specs.Prelude.{slice_get}
use Rattle.cg_history.specs.declared.item.Receipt.{Receipt}
use Rattle.cg_history.proofs.confirming.follows.Given as goal

abbrev pub invariant-loop-place : goal.invariant-loop-place
invariant-loop-place l = record {
  within : l.place ≤ length l.before;
  others : (i : ℕ) (q : Receipt) → l.place ≤ i → slice_get l.before i ≡ Some q → q.caller ≢ l.receipt.caller;
}

abbrev pub decreases-loop-place : goal.decreases-loop-place
decreases-loop-place l = l.place
