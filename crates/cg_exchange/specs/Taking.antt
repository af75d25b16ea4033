-- Taking the deltas of a message, and answering its requests.
use Rattle.std.specs.Prelude.{ℕ, ◌+◌, ◌==◌, nat_lt, List, [], ◌∷◌, count_by, Option, Some, None, Result, Ok, Err, if◌then◌else◌}
use Rattle.std.specs.List.{filter_map}
use Rattle.std.specs.Option.{option_map}
use Rattle.std.specs.FinMap as table
use Rattle.cg_types.specs.declared.fault.Fault.{Fault}
use Rattle.cg_types.specs.declared.fault.Fault.TheVariants.{TableFull}
use Rattle.cg_types.specs.declared.limits.TheConstants.{MEMBER_LIMIT}
use Rattle.cg_entry.specs.Values.{EntryValue, DeltaValue}
use Rattle.cg_entry.specs.Entry.{delta_above}
use Rattle.cg_table.specs.Values.{TableValue, Entries}
use Rattle.cg_table.specs.Taking.{take_one, needs_room}
use Rattle.cg_messages.specs.declared.owner_delta.OwnerDelta.{OwnerDelta}
use Rattle.cg_messages.specs.declared.outcome.Outcome.{Outcome}
use Rattle.cg_messages.specs.Values.{RequestValue, AckValue, Ack2Value}
use Rattle.cg_messages.specs.Members.{about}

-- the table after deltas, one after the other
abbrev pub table_after : TableValue → List OwnerDelta → TableValue
table_after t [] = t
table_after t (d ∷ ds) = table_after (take_one t d.endpoint d.delta).0 ds

-- the outcome of a delta
abbrev pub outcome_of : TableValue → OwnerDelta → Outcome
outcome_of t d = record { endpoint = d.endpoint; took = (take_one t d.endpoint d.delta).1 }

-- the outcome of each delta, in the order of the deltas
abbrev pub outcomes_of : TableValue → List OwnerDelta → List Outcome
outcomes_of t [] = []
outcomes_of t (d ∷ ds) = outcome_of t d ∷ outcomes_of (take_one t d.endpoint d.delta).0 ds

-- The number of endpoints that would be held: those that are, and those that are not held and that whole deltas are
-- about. The own endpoint is always held.
abbrev pub held_after : TableValue → List OwnerDelta → ℕ
held_after t ds = table.len t.entries + count_by (λ d. needs_room t.entries d.endpoint d.delta) ds

-- the delta that answers a request, from an entry or from none
abbrev pub grant_of : RequestValue → Option EntryValue → Option DeltaValue
grant_of r None = None
grant_of r (Some e) =
    if nat_lt e.generation r.generation then None
    else if e.generation == r.generation then delta_above r.version e
    else delta_above 0 e

-- the delta that answers a request, from a table
abbrev pub delta_granted : Entries → RequestValue → Option OwnerDelta
delta_granted entries r = option_map (about r.endpoint) (grant_of r (table.get entries r.endpoint))

-- the deltas that answer requests, from a table
abbrev pub deltas_granted : Entries → List RequestValue → List OwnerDelta
deltas_granted entries requests = filter_map (delta_granted entries) requests

-- The table, the answer and the outcomes after an ACK. Its deltas are taken first, and its requests are answered from
-- the table that they make.
abbrev pub taking_ack : TableValue → AckValue → Result (TableValue × Ack2Value × List Outcome) Fault
taking_ack t ack =
    if nat_lt MEMBER_LIMIT (held_after t ack.deltas) then Err TableFull
    else Ok (
      table_after t ack.deltas,
      record { deltas = deltas_granted (table_after t ack.deltas).entries ack.requests },
      outcomes_of t ack.deltas,
    )

-- the table and the outcomes after an ACK2
abbrev pub taking_ack2 : TableValue → Ack2Value → Result (TableValue × List Outcome) Fault
taking_ack2 t ack2 =
    if nat_lt MEMBER_LIMIT (held_after t ack2.deltas) then Err TableFull
    else Ok (table_after t ack2.deltas, outcomes_of t ack2.deltas)
