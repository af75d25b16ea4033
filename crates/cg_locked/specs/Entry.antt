-- The answer of a board to an event: a receipt, and the puts that it published.
use Rattle.std.specs.Prelude.{ℕ, ◌≡◌, ◌≤◌, true, List, [], ◌∷◌, ◌++◌, length, Option, Some, None, Result, Ok, IfOk, IfSome, MatchResult}
use mathlib.Core.List.{IsPrefix}
use Rattle.cg_types.specs.Answer.{Answers}
use Rattle.cg_types.specs.declared.fault.Fault.{Fault}
use Rattle.cg_table.specs.Values.{TableValue}
use Rattle.cg_table.specs.Puts.{Put, with_puts, keep_order}
use Rattle.cg_core.specs.declared.event.Event.{Event}
use Rattle.cg_core.specs.declared.event.Event.TheVariants as event
use Rattle.cg_core.specs.declared.reply.Reply.{Reply}
use Rattle.cg_core.specs.declared.reply.Reply.TheVariants as reply
use Rattle.cg_core.specs.SettingsValues.{settings_of_parts}
use Rattle.cg_core.specs.Values.{NodeValue}
use Rattle.cg_core.specs.Step.{starting_node}
use Rattle.cg_history.specs.declared.item.Receipt.{Receipt}
use Rattle.cg_history.specs.declared.item.Item.{Item}
use Rattle.cg_history.specs.Confirming.{AreConfirmed}
use Rattle.cg_history.specs.Items.{puts_of}
use Rattle.cg_history.specs.History.{HistoryValue, IsReplayed, apply}
use Rattle.cg_views.specs.Lists.{StartsWith}
use Rattle.cg_views.specs.Reading.{HasState, OwnHasFrom}
use Rattle.cg_locked.specs.Seat.{SeatState}

-- a start, chosen arbitrarily, for a name that gives none
abbrev pub any_start : NodeValue
any_start =
    starting_node 0 0
    (settings_of_parts (record { name = []; partitioner = 1 }) []
    (record { window = 0; initial_gap = 0; max_gap = 0; threshold = 0 }))

-- The puts have an own one with the key's text, or its tombstone, at the version that the reply has.
abbrev pub ShowsState : List Put → ℕ → ℕ → Option (List ℕ) → Reply → Type 0
ShowsState puts own key text answer =
    (version : ℕ) × (answer ≡ reply.Done version) × HasState puts own key text version

-- If the event is a Set or a Remove, the puts show the key's text or its tombstone.
abbrev pub ShowsChange : List Put → ℕ → Event → Reply → Type 0
ShowsChange puts own (event.Set key text) answer = ShowsState puts own key (Some text) answer
ShowsChange puts own (event.Remove key) answer = ShowsState puts own key None answer
ShowsChange puts own e answer = Unit {0}

-- If the puts show a Set or a Remove of the opening table's owner, a read that begins with them has the key at that
-- version or a later one, as a text or a tombstone.
abbrev pub ShownChangesAreRead : Type 0
ShownChangesAreRead =
    (opening : TableValue) (told read : List Put) (key version : ℕ) (text : Option (List ℕ))
    → ShowsState told opening.own key text (reply.Done version)
    → StartsWith read told → keep_order opening read ≡ true → OwnHasFrom (with_puts opening read) key version

-- a receipt, and the puts published with it
abbrev pub Answer : Type 0
Answer = Receipt × Option (List Put)

-- The event was entered for the seat's caller into the history of a node, as it is with no record folded: it replays
-- from the start, begins with all records that the seat has seen, and has as many as the seat counted, or more. The seat
-- has then seen all its records, with that of the event as the last one; if the event was refused, there is none. If puts
-- were published, they are those of the history after the event.
pub record IsEntered (start : NodeValue) (seat : SeatState) (e : Event) (seen : List Item) (result : Result Answer Fault)
    : Type 0 where
  pub before : HistoryValue
  pub after : HistoryValue
  pub whole : before.folded ≡ 0
  pub starts : before.base ≡ start
  pub replayed : IsReplayed before
  pub begins : IsPrefix seat.seen before.records
  pub long : seat.amount ≤ length before.records
  pub entered : Answers (λ (r : Answer). (after, r.0)) (apply before seat.caller e) result
  pub seen_are : MatchResult result (λ _. seen ≡ after.records) (λ _. seen ≡ before.records)
  pub told : IfOk result (λ r. IfSome r.1 (λ t. t ≡ puts_of after.records))

-- The records that a seat has seen confirm the receipts of its events.
abbrev pub EntriesAreConfirmed : Type 0
EntriesAreConfirmed =
    (start : NodeValue) (seat : SeatState) (e : Event) (seen : List Item) (q : Receipt) (told : Option (List Put))
    (receipts : List Receipt)
    → AreConfirmed 0 seat.seen receipts → IsEntered start seat e seen (Ok (q, told))
    → AreConfirmed 0 seen (receipts ++ q ∷ [])

-- Records confirm all receipts that a prefix of them confirms.
abbrev pub ConfirmedStay : Type 0
ConfirmedStay =
    (folded : ℕ) (seen records : List Item) (receipts : List Receipt)
    → IsPrefix seen records → AreConfirmed folded seen receipts → AreConfirmed folded records receipts
