-- Properties of every history.
use Rattle.std.specs.Prelude.{ℕ, suc, ◌+◌, ◌-◌, ◌≡◌, ◌≢◌, ◌<◌, ◌≤◌, true, List, [], ◌∷◌, ◌++◌, length, map, Result, Ok, Err, Some, slice_get}
use Rattle.cg_types.specs.declared.fault.Fault.{Fault}
use Rattle.cg_table.specs.Puts.{puts, with_puts, keep_order}
use Rattle.cg_core.specs.declared.event.Event.{Event}
use Rattle.cg_core.specs.declared.reply.Reply.{Reply}
use Rattle.cg_core.specs.Values.{NodeValue, IsSmall}
use Rattle.cg_core.specs.Step.{node_step, replay}
use Rattle.cg_places.specs.PlaceWorld.{PlaceWorld, after_action}
use Rattle.cg_places.specs.Laws.{IsWorld}
use Rattle.cg_places.specs.Step.{handed_message, action_at, span_handed, IsPlaced, IsSentBefore, IsStepAt}
use Rattle.cg_history.specs.declared.item.Item.{Item}
use Rattle.cg_history.specs.declared.item.Receipt.{Receipt}
use Rattle.cg_history.specs.Confirming.{AreConfirmed}
use Rattle.cg_history.specs.Items.{puts_of, events_of, replies_of}
use Rattle.cg_history.specs.History.{HistoryValue, Replays, IsFoldOf, apply, count_of, unfolded, with_folded}

-- The events of the records, done one after the other, lead to the node with their replies.
abbrev pub RecordsReplay : Type 0
RecordsReplay =
    (base : NodeValue) (records : List Item) (node : NodeValue) → Replays base records node
    → replay base (events_of records) ≡ Ok (node, replies_of records)

-- The puts of the records lead from the first table to the second, each later than what was held.
pub record PutsLead (base : NodeValue) (records : List Item) (node : NodeValue) : Type 0 where
  pub lead : with_puts base.table (puts_of records) ≡ node.table
  pub order : keep_order base.table (puts_of records) ≡ true
  pub small : IsSmall node

abbrev pub PutsOfRecordsLead : Type 0
PutsOfRecordsLead =
    (base : NodeValue) (records : List Item) (node : NodeValue) → IsSmall base → Replays base records node
    → PutsLead base records node

-- A step of the node was done, its record is the last, and the receipt is the record's.
pub record HasOneMore (h : HistoryValue) (caller : ℕ) (e : Event) (after : HistoryValue) (q : Receipt) : Type 0 where
  pub node : NodeValue
  pub answer : Reply
  pub step : node_step h.node e ≡ Ok (node, answer)
  pub start : after.start ≡ h.start
  pub base : after.base ≡ h.base
  pub folded : after.folded ≡ h.folded
  pub led : after.node ≡ node
  pub records : after.records
      ≡ h.records ++ record { caller = caller; event = e; reply = answer; puts = puts h.node.table node.table } ∷ []
  pub receipt : q ≡ record { caller = caller; number = count_of h + 1; event = e; reply = answer }

abbrev pub EachEventMakesOneRecord : Type 0
EachEventMakesOneRecord =
    (h : HistoryValue) (caller : ℕ) (e : Event) (after : HistoryValue) (q : Receipt) → apply h caller e ≡ Ok (after, q)
    → HasOneMore h caller e after q

-- An event is one step of a world for a node, if the node's table spells its places there. A message that the event
-- hands over, if any, has to say one that was sent there. The receipt's reply has the message and the outcomes.
abbrev pub RecordsAreStepsByPlaces : Type 0
RecordsAreStepsByPlaces =
    (w : PlaceWorld) (node number : ℕ) (h : HistoryValue) (caller : ℕ) (e : Event) (after : HistoryValue) (q : Receipt)
    → IsWorld w → IsPlaced w node h.node → IsSentBefore w number (handed_message e) → apply h caller e ≡ Ok (after, q)
    → IsStepAt w (after_action w (action_at node number e)) (span_handed w (action_at node number e)) node h.node
    (after.node, q.reply)

-- No two confirmed receipts are of one record.
abbrev pub ConfirmedStandOnce : Type 0
ConfirmedStandOnce =
    (folded : ℕ) (records : List Item) (receipts : List Receipt) (i j : ℕ) (q r : Receipt)
    → AreConfirmed folded records receipts
    → slice_get receipts i ≡ Some q → slice_get receipts j ≡ Some r → i < j → q.number ≢ r.number

-- Each record that is kept has a confirmed receipt if these are as many as those records.
abbrev pub EachRecordHasItsReceipt : Type 0
EachRecordHasItsReceipt =
    (folded : ℕ) (records : List Item) (receipts : List Receipt) (n : ℕ) → AreConfirmed folded records receipts
    → length receipts ≡ length records → n < length records
    → (place : ℕ) × (r : Receipt) × (slice_get receipts place ≡ Some r) × (r.number ≡ folded + suc n)

-- ---- folding

-- Nothing is folded if the confirmed receipts are as many as all records.
abbrev pub AllConfirmedAreKept : Type 0
AllConfirmedAreKept =
    (h : HistoryValue) (receipts : List Receipt) → AreConfirmed h.folded h.records receipts
    → length receipts ≡ count_of h → h.folded ≡ 0

-- an answer to an event, with the first n records of its history folded
abbrev pub with_answer_folded : ℕ → Result (HistoryValue × Receipt) Fault → Result (HistoryValue × Receipt) Fault
with_answer_folded n (Ok x) = Ok (with_folded n x.0, x.1)
with_answer_folded n (Err fault) = Err fault

-- An event has the same answer after a fold: its receipt and number, or its fault. Its history is the one without the
-- fold, with those records folded.
abbrev pub FoldingChangesNoAnswer : Type 0
FoldingChangesNoAnswer =
    (h : HistoryValue) (n caller : ℕ) (e : Event) → n ≤ length h.records
    → apply (with_folded n h) caller e ≡ with_answer_folded n (apply h caller e)

-- Folding m records and then n is folding m + n.
abbrev pub FoldsAddUp : Type 0
FoldsAddUp = (h : HistoryValue) (m n : ℕ) → with_folded n (with_folded m h) ≡ with_folded (m + n) h

-- Receipts stay confirmed by a fold if their numbers are past the folded records.
abbrev pub ConfirmedPastAFold : Type 0
ConfirmedPastAFold =
    (h : HistoryValue) (n : ℕ) (receipts : List Receipt) → AreConfirmed h.folded h.records receipts
    → ((place : ℕ) (r : Receipt) → slice_get receipts place ≡ Some r → h.folded + n < r.number)
    → AreConfirmed (with_folded n h).folded (with_folded n h).records receipts

-- Receipts that are confirmed after a fold were confirmed before.
abbrev pub ConfirmedBeforeAFold : Type 0
ConfirmedBeforeAFold =
    (h : HistoryValue) (n : ℕ) (receipts : List Receipt)
    → AreConfirmed (with_folded n h).folded (with_folded n h).records receipts
    → AreConfirmed h.folded h.records receipts

-- a receipt whose number does not count the folded records
abbrev pub uncounted : ℕ → Receipt → Receipt
uncounted folded r = record { caller = r.caller; number = r.number - folded; event = r.event; reply = r.reply }

-- Confirmed receipts are confirmed by the records that are kept alone if the folded records are not counted.
abbrev pub ConfirmedUncounted : Type 0
ConfirmedUncounted =
    (folded : ℕ) (records : List Item) (receipts : List Receipt) → AreConfirmed folded records receipts
    → AreConfirmed 0 records (map (uncounted folded) receipts)

-- The list of all records of a history goes on with it: the record of an event is its next one, and the event is done
-- as where none was folded; a fold leaves the list as it is.
pub record GoesOnFolded (all : List Item) (h : HistoryValue) : Type 0 where
  pub event : (caller : ℕ) (e : Event) (after : HistoryValue) (q : Receipt) → apply h caller e ≡ Ok (after, q)
      → (r : Item) × IsFoldOf (all ++ r ∷ []) after
      × (apply (unfolded all h) caller e ≡ Ok (unfolded (all ++ r ∷ []) after, q))
  pub fold : (n : ℕ) → n ≤ length h.records → IsFoldOf all (with_folded n h)

abbrev pub FoldedHistoriesGoOn : Type 0
FoldedHistoriesGoOn = (all : List Item) (h : HistoryValue) → IsFoldOf all h → GoesOnFolded all h
