-- A history: a node, and records that lead to it.
use Rattle.std.specs.Prelude.{ℕ, ◌+◌, ◌^◌, ◌-◌, ◌==◌, ◌≡◌, ◌≤◌, List, [], ◌∷◌, ◌++◌, length, take, drop, Result, Ok, Err, if◌then◌else◌, refl}
use Rattle.std.specs.Coded.{Coded, code_by, coded×, coded_ℕ, coded_list}
use Rattle.cg_types.specs.declared.fault.Fault.{Fault}
use Rattle.cg_types.specs.declared.fault.Fault.TheVariants.{VersionsSpent}
use Rattle.cg_types.specs.Numbers.{IsGeneration}
use Rattle.cg_table.specs.Puts.{puts}
use Rattle.cg_core.specs.declared.event.Event.{Event}
use Rattle.cg_core.specs.declared.reply.Reply.{Reply}
use Rattle.cg_core.specs.SettingsValues.{SettingsValue}
use Rattle.cg_core.specs.Values.{NodeValue, node_code}
use Rattle.cg_core.specs.Step.{Step, node_step, starting_node, after_event}
use Rattle.cg_history.specs.declared.item.Item.{Item}
use Rattle.cg_history.specs.declared.item.Receipt.{Receipt}
use Rattle.cg_history.specs.Items.{item_code}

-- the record of a step from a node, which led to another with a reply
abbrev pub record_of : ℕ → Event → NodeValue → NodeValue × Reply → Item
record_of caller e n x = record { caller = caller; event = e; reply = x.1; puts = puts n.table x.0.table }

-- The node that started, the node before the records that are kept, these records, and the node to which they lead. The
-- folded records led from the start to the base, and are no longer kept: this is their number.
pub record HistoryValue : Type 0 where
  pub start : NodeValue
  pub base : NodeValue
  pub folded : ℕ
  pub records : List Item
  pub node : NodeValue

-- the code that a model of such a value requires
abbrev pub history_code : Coded HistoryValue
history_code =
    code_by (NodeValue × (NodeValue × (ℕ × (List Item × NodeValue))))
    (coded× node_code (coded× node_code (coded× coded_ℕ (coded× (coded_list item_code) node_code))))
    (λ h. (h.start, (h.base, (h.folded, (h.records, h.node)))))
    (λ p. record { start = p.0; base = p.1.0; folded = p.1.1.0; records = p.1.1.1.0; node = p.1.1.1.1 })
    (λ _. refl)

-- The records lead from one node to another: each event by one step, with its reply and its puts.
abbrev pub Replays : NodeValue → List Item → NodeValue → Type 0
Replays b [] n = b ≡ n
Replays b (r ∷ rs) n =
    (x : NodeValue × Reply) × (node_step b r.event ≡ Ok x) × (r ≡ record_of r.caller r.event b x) × Replays x.0 rs n

-- the number of all records, those folded and those kept
abbrev pub count_of : HistoryValue → ℕ
count_of h = h.folded + length h.records

-- the number of the last record that there can be
abbrev pub LAST_NUMBER : ℕ
LAST_NUMBER = 2 ^ 64 - 1

-- A node that started: an endpoint's, in a generation, with settings.
pub record IsStart (n : NodeValue) : Type 0 where
  pub own : ℕ
  pub generation : ℕ
  pub settings : SettingsValue
  pub in_range : IsGeneration generation
  pub is : n ≡ starting_node own generation settings

-- It began with a node that started. As many records as are folded led from there to its base, and those kept lead on
-- to its node. There are numbers for all of them.
pub record IsReplayed (h : HistoryValue) : Type 0 where
  pub begun : IsStart h.start
  pub front : List Item
  pub came : Replays h.start front h.base
  pub gone : length front ≡ h.folded
  pub replays : Replays h.base h.records h.node
  pub few : count_of h ≤ LAST_NUMBER

-- the history of a node that starts
abbrev pub new_history : ℕ → ℕ → SettingsValue → HistoryValue
new_history own generation settings =
    record {
      start = starting_node own generation settings;
      base = starting_node own generation settings;
      folded = 0;
      records = [];
      node = starting_node own generation settings;
    }

-- the history with one more record, which led to this node
abbrev pub with_record : HistoryValue → NodeValue → Item → HistoryValue
with_record h n r = record {
  start = h.start;
  base = h.base;
  folded = h.folded;
  records = h.records ++ r ∷ [];
  node = n;
}

-- the receipt of the next record
abbrev pub receipt_of : HistoryValue → ℕ → Event → Reply → Receipt
receipt_of h caller e answer =
    record { caller = caller; number = count_of h + 1; event = e; reply = answer }

-- the outcome of a step: the history with its record, and the receipt; or the fault with which the event is refused
abbrev pub with_step : HistoryValue → ℕ → Event → Step → Result (HistoryValue × Receipt) Fault
with_step h caller e (Ok x) = Ok (with_record h x.0 (record_of caller e h.node x), receipt_of h caller e x.1)
with_step h caller e (Err fault) = Err fault

-- the expected outcome of an event: one step of the node with its record; or VersionsSpent, if numbers are spent
abbrev pub apply : HistoryValue → ℕ → Event → Result (HistoryValue × Receipt) Fault
apply h caller e =
    if count_of h == LAST_NUMBER then Err VersionsSpent
    else with_step h caller e (node_step h.node e)

-- ---- folding

-- the node after the events of records, one after the other
abbrev pub node_after : NodeValue → List Item → NodeValue
node_after b [] = b
node_after b (r ∷ rs) = node_after (after_event b r.event) rs

-- the history with its first n records folded: its base is the node after them, and they are no longer kept
abbrev pub with_folded : ℕ → HistoryValue → HistoryValue
with_folded n h = record {
  start = h.start;
  base = node_after h.base (take n h.records);
  folded = h.folded + n;
  records = drop n h.records;
  node = h.node;
}

-- the history before any of its records was folded, if these are all of them
abbrev pub unfolded : List Item → HistoryValue → HistoryValue
unfolded all h = record { start = h.start; base = h.start; folded = 0; records = all; node = h.node }

-- These are all records of the history, of which the first were folded.
abbrev pub IsFoldOf : List Item → HistoryValue → Type 0
IsFoldOf all h = (h.folded ≤ length all) × (h ≡ with_folded h.folded (unfolded all h))
