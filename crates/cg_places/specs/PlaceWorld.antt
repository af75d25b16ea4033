-- All nodes, by the places that each holds, after a list of actions.
use Rattle.std.specs.Prelude.{ℕ, ◌+◌, Bool, List, [], ◌∷◌, ◌++◌, length, Option, Some, None, ◌==◌, nat_lt, if◌then◌else◌}
use Rattle.cg_entry.specs.Values.{EntryValue}
use Rattle.cg_entry.specs.Entry.{starting_entry, entry_after_beat, with_state, has_text}
use Rattle.cg_entry.specs.History.{at_place, generation_at}
use Rattle.cg_entry.specs.Place.{Span}
use Rattle.cg_entry.specs.declared.took.Took.{Took}
use Rattle.cg_entry.specs.declared.took.Took.TheVariants as took
use Rattle.cg_places.specs.Places.{Ask, took_for}
use Rattle.cg_places.specs.PlaceMessages.{PlaceMessage, Syn, Ack, Ack2, answer_at, places_after, grants_at}

-- Nodes and owners are numbers. A node is the owner of its own entry.
pub data PlaceAction : Type 0 where
  Start : (node generation : ℕ) → PlaceAction
  Beat : (node : ℕ) → PlaceAction
  Set : (node key : ℕ) (text : List ℕ) → PlaceAction
  Remove : (node key : ℕ) → PlaceAction
  -- the node sends a SYN
  Opening : (node : ℕ) → PlaceAction
  -- a beat, and then an opening
  Tick : (node : ℕ) → PlaceAction
  -- Hands the message of a number to a node. A loss is a delivery that never comes.
  Deliver : (number to : ℕ) → PlaceAction

pub record PlaceWorld : Type 0 where
  -- each owner's entries, oldest first
  pub histories : ℕ → List EntryValue
  -- the place that a node holds of an owner
  pub places : ℕ → ℕ → ℕ
  -- all messages that were ever sent, the first one first; they are numbered from 1
  pub sent : List PlaceMessage
  -- the spans about an owner that were handed to a node since its last start, except gaps
  pub taken : ℕ → ℕ → List Span
  -- each owner that has started, once
  pub owners : List ℕ

-- nobody has started
unfoldable pub nobody : PlaceWorld
nobody = record { histories = λ owner. []; places = λ node owner. 0; sent = []; taken = λ node owner. []; owners = [] }

-- a node runs if its history has an entry
abbrev pub runs : PlaceWorld → ℕ → Bool
runs w node = nat_lt 0 (length (w.histories node))

-- f, with x at n
abbrev pub put_at : {A : Type 0} → (ℕ → A) → ℕ → A → ℕ → A
put_at f n x m = if m == n then x else f m

-- a history with one more entry of an owner
abbrev pub grown : (ℕ → List EntryValue) → ℕ → EntryValue → ℕ → List EntryValue
grown histories owner entry = put_at histories owner (histories owner ++ entry ∷ [])

-- ---- the world after an action

-- the node starts, and holds its own entry alone
unfoldable pub with_start : PlaceWorld → ℕ → ℕ → PlaceWorld
with_start w node generation = record {
  histories = grown w.histories node (starting_entry generation);
  places = put_at w.places node (put_at (λ owner. 0) node (length (w.histories node) + 1));
  sent = w.sent;
  taken = put_at w.taken node (λ owner. []);
  owners = if runs w node then w.owners else node ∷ w.owners;
}

-- the node's own entry is now this one
unfoldable pub with_entry : PlaceWorld → ℕ → EntryValue → PlaceWorld
with_entry w node entry = record {
  histories = grown w.histories node entry;
  places = put_at w.places node (put_at (w.places node) node (length (w.histories node) + 1));
  sent = w.sent;
  taken = w.taken;
  owners = w.owners;
}

-- one more message was sent
unfoldable pub with_message : PlaceWorld → PlaceMessage → PlaceWorld
with_message w message =
    record {
      histories = w.histories;
      places = w.places;
      sent = w.sent ++ message ∷ [];
      taken = w.taken;
      owners = w.owners;
    }

-- the spans handed over with one more, unless that is a gap
abbrev pub unless_gap : Took → List Span → Span → List Span
unless_gap took.Gap spans span = spans
unless_gap took.Taken spans span = spans ++ span ∷ []
unless_gap took.Old spans span = spans ++ span ∷ []
unless_gap took.Own spans span = spans ++ span ∷ []

abbrev pub taken_with : Bool → ℕ → List Span → Option Span → List Span
taken_with own place spans None = spans
taken_with own place spans (Some span) = unless_gap (took_for own place span) spans span

-- the node took the spans of a message
unfoldable pub with_spans : PlaceWorld → ℕ → (ℕ → Option Span) → PlaceWorld
with_spans w node spans = record {
  histories = w.histories;
  places = put_at w.places node (λ owner. places_after node (w.places node) spans owner);
  sent = w.sent;
  taken = put_at w.taken node (λ owner. taken_with (owner == node) (w.places node owner) (w.taken node owner)
      (spans owner));
  owners = w.owners;
}

-- ---- actions

-- `true` if the generation is greater than at each earlier start of the node
abbrev pub may_start : PlaceWorld → ℕ → ℕ → Bool
may_start w node generation = nat_lt (generation_at (w.histories node) (length (w.histories node))) generation

-- the last entry of a history
abbrev pub last_entry : List EntryValue → Option EntryValue
last_entry history = at_place history (length history)

-- the node's own entry is changed, if it has one
abbrev pub after_change : PlaceWorld → ℕ → (EntryValue → EntryValue) → Option EntryValue → PlaceWorld
after_change w node change None = w
after_change w node change (Some entry) = with_entry w node (change entry)

-- the entry, if the key has a text there
abbrev pub removable : ℕ → Option EntryValue → Option EntryValue
removable key None = None
removable key (Some entry) = if has_text key entry then Some entry else None

-- the node sends a SYN of its places
abbrev pub after_opening : PlaceWorld → ℕ → PlaceWorld
after_opening w node = if runs w node then with_message w (Syn (w.places node)) else w

-- the node answers asks
abbrev pub after_answer : PlaceWorld → ℕ → (ℕ → Option Ask) → PlaceWorld
after_answer w node asks = with_message w (Ack2 (λ owner. grants_at w.histories (w.places node) asks owner))

-- A SYN is answered. The spans of an ACK are taken first, then its asks are answered. The spans of an ACK2 are taken.
abbrev pub after_receipt : PlaceWorld → ℕ → PlaceMessage → PlaceWorld
after_receipt w node (Syn theirs) = with_message w (answer_at w.histories (w.places node) theirs)
after_receipt w node (Ack asks spans) = after_answer (with_spans w node spans) node asks
after_receipt w node (Ack2 spans) = with_spans w node spans

-- a message is handed to a node, if there are both
abbrev pub after_delivery : PlaceWorld → ℕ → Option PlaceMessage → PlaceWorld
after_delivery w node None = w
after_delivery w node (Some message) = if runs w node then after_receipt w node message else w

-- The world after an action. An action of a node that does not run changes nothing. Neither does a start whose
-- generation does not rise, the removal of a key without a text, or the delivery of a message that was never sent.
unfoldable pub after_action : PlaceWorld → PlaceAction → PlaceWorld
after_action w (Start node generation) = if may_start w node generation then with_start w node generation else w
after_action w (Beat node) = after_change w node entry_after_beat (last_entry (w.histories node))
after_action w (Set node key text) = after_change w node (with_state key (Some text)) (last_entry (w.histories node))
after_action w (Remove node key) = after_change w node (with_state key None) (removable key (last_entry (w.histories node)))
after_action w (Opening node) = after_opening w node
after_action w (Tick node) = after_opening (after_change w node entry_after_beat (last_entry (w.histories node))) node
after_action w (Deliver number to) = after_delivery w to (at_place w.sent number)

-- the world after actions, one after the other
abbrev pub after_actions : PlaceWorld → List PlaceAction → PlaceWorld
after_actions w [] = w
after_actions w (action ∷ actions) = after_actions (after_action w action) actions

abbrev pub world_after : List PlaceAction → PlaceWorld
world_after actions = after_actions nobody actions
