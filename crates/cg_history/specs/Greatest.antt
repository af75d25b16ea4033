-- The greatest number so far of each group of callers.
use Rattle.std.specs.Prelude.{ℕ, ◌%◌, ◌≤◌, List, get_or}
use Rattle.std.specs.List.{All}
use Rattle.cg_history.specs.declared.item.Receipt.{Receipt}
use Rattle.cg_history.specs.declared.greatest.Greatest.{Greatest}
use Rattle.cg_history.specs.declared.greatest.TheConstants.{GROUPS}

-- the greatest number so far of a caller's group
abbrev pub greatest_of_caller : Greatest → ℕ → ℕ
greatest_of_caller m caller = get_or m.numbers (caller % GROUPS) 0

-- No receipt has a greater number than its caller's group.
abbrev pub AreAtMost : Greatest → List Receipt → Type 0
AreAtMost m receipts = All (λ r. r.number ≤ greatest_of_caller m r.caller) receipts
