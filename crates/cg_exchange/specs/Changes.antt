-- The changes that the deltas of a message make in a table, if each is about another owner.
use Rattle.std.specs.Prelude.{ℕ, Option, Some}
use Rattle.std.specs.Option.{option_map}
use Rattle.cg_entry.specs.Values.{EntryValue}
use Rattle.cg_table.specs.Taking.{Change, change_at, change_of}
use Rattle.cg_table.specs.Values.{TableValue}
use Rattle.cg_messages.specs.declared.owner_delta.OwnerDelta.{OwnerDelta}
use Rattle.cg_messages.specs.declared.outcome.Outcome.{Outcome}

-- the row that a delta changes, if it changes one
abbrev pub row_changed : TableValue → OwnerDelta → Option (ℕ × EntryValue)
row_changed t d = (change_of t d.endpoint d.delta).0

-- the change that a delta makes, by the row of its endpoint
abbrev pub changed_by : TableValue → OwnerDelta → Option (ℕ × EntryValue) → Change
changed_by t d row = change_at t.own d.endpoint (option_map (λ r. r.1) row) d.delta

-- the row that a delta changes, by the row of its endpoint
abbrev pub row_by : TableValue → OwnerDelta → Option (ℕ × EntryValue) → Option (ℕ × EntryValue)
row_by t d row = (changed_by t d row).0

-- the outcome of a delta, by the row of its endpoint
abbrev pub outcome_by : TableValue → OwnerDelta → Option (ℕ × EntryValue) → Option Outcome
outcome_by t d row = Some (record { endpoint = d.endpoint; took = (changed_by t d row).1 })
