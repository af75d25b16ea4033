-- The terms of the headline: the nodes that run and their own entries, the deltas that they are handed, and marks. Each
-- can be seen from outside, in tables, messages and replies.
use Rattle.std.specs.Prelude.{ℕ, ◌≡◌, ◌<◌, ◌≤◌, ◌⊎◌, ◌==◌, ◌++◌, Bool, true, false, List, [], ◌∷◌, All, Option, Some, None, find, if◌then◌else◌}
use Rattle.std.specs.List.{Contains}
use Rattle.std.specs.Option.{option_map, option_map_or}
use Rattle.std.specs.FinMap as map
use Rattle.cg_entry.specs.Values.{EntryValue, DeltaValue}
use Rattle.cg_entry.specs.Entry.{newest, greatest, starting_entry, entry_after_beat, with_state}
use Rattle.cg_entry.specs.History.{at_place}
use Rattle.cg_entry.specs.declared.took.Took.{Took}
use Rattle.cg_entry.specs.declared.took.Took.TheVariants as took
use Rattle.cg_table.specs.Values.{Entries}
use Rattle.cg_table.specs.Own.{own_entry}
use Rattle.cg_tokens.specs.Ring.{ring}
use Rattle.cg_messages.specs.declared.message.Message.{Message}
use Rattle.cg_messages.specs.declared.message.Message.TheVariants as message
use Rattle.cg_messages.specs.declared.outcome.Outcome.{Outcome}
use Rattle.cg_messages.specs.declared.owner_delta.OwnerDelta.{OwnerDelta}
use Rattle.cg_core.specs.Replies.{outcomes_in}
use Rattle.cg_core.specs.Values.{NodeValue}
use Rattle.cg_world.specs.World.{Action, Start, Local, Deliver, LocalEvent, Beat, Set, Remove, Opening, Tick, WorldValue, reply_to, run_from}

-- ---- nodes and their own entries

-- The node of this endpoint runs, and is this one.
abbrev pub Runs : WorldValue → ℕ → NodeValue → Type 0
Runs c node n = map.get c.nodes node ≡ Some n

-- a node's own entry, if it runs
abbrev pub own_at : WorldValue → ℕ → Option EntryValue
own_at c node = option_map (λ n. own_entry n.table) (map.get c.nodes node)

-- the own entry after its node does something by itself
abbrev pub after_local : LocalEvent → EntryValue → EntryValue
after_local Beat = entry_after_beat
after_local (Set key text) = with_state key (Some text)
after_local (Remove key) = with_state key None
after_local Opening = λ entry. entry
after_local (Tick now words) = entry_after_beat

-- a node's own entry after an action that is done
abbrev pub own_after : Action → ℕ → Option EntryValue → Option EntryValue
own_after (Start other generation) node own = if other == node then Some (starting_entry generation) else own
own_after (Local other change) node own = if other == node then option_map (after_local change) own else own
own_after (Deliver number to now) node own = own

-- After some of the first actions this was the owner's own entry.
pub record WasOwn (c : WorldValue) (actions : List Action) (owner : ℕ) (entry : EntryValue) : Type 0 where
  pub earlier : List Action
  pub later : List Action
  pub in_order : earlier ++ later ≡ actions
  pub own : own_at (run_from c earlier) owner ≡ Some entry

-- Two tables are equal, and so are their rings.
pub record AreEqual (one other : Entries) : Type 0 where
  pub entries : one ≡ other
  pub rings : ring one ≡ ring other

-- ---- deltas

-- the deltas that a message has
abbrev pub deltas_in : Message → List OwnerDelta
deltas_in (message.Syn syn) = []
deltas_in (message.Ack ack) = ack.deltas
deltas_in (message.Ack2 ack2) = ack2.deltas

-- the deltas that were sent under a number
abbrev pub deltas_sent : WorldValue → ℕ → List OwnerDelta
deltas_sent c number = option_map_or deltas_in (at_place c.sent number) []

-- the delta about an owner among them
abbrev pub delta_sent : WorldValue → ℕ → ℕ → Option OwnerDelta
delta_sent c number owner = find (λ d. d.endpoint == owner) (deltas_sent c number)

-- and the outcome that the node to which they are handed reports of it
abbrev pub outcome_told : WorldValue → ℕ → ℕ → ℕ → ℕ → Option Outcome
outcome_told c number node now owner =
    find (λ o. o.endpoint == owner) (option_map_or outcomes_in (reply_to c (Deliver number node now)) [])

-- `true` if a delta was left out
abbrev pub is_gap : Took → Bool
is_gap took.Gap = true
is_gap took.Taken = false
is_gap took.Old = false
is_gap took.Own = false

-- ---- marks

-- the progress of an owner: its generation, and the newest version in it
abbrev pub Mark : Type 0
Mark = ℕ × ℕ

abbrev pub mark_of : EntryValue → Mark
mark_of e = (e.generation, newest e)

-- the mark of the entry to which a delta leads
abbrev pub mark_led_to : DeltaValue → Mark
mark_led_to d = (d.generation, greatest d.heartbeat d.states)

-- The first mark is the second, or before it.
abbrev pub IsWithin : Mark → Mark → Type 0
IsWithin m n = (m.0 < n.0) ⊎ ((m.0 ≡ n.0) × (m.1 ≤ n.1))

-- The delta begins past what is held, so nothing that is held joins it.
abbrev pub LiesPast : DeltaValue → Option EntryValue → Type 0
LiesPast d None = 0 < d.above
LiesPast d (Some e) = (0 < d.above) × (IsWithin (d.generation, d.above) (mark_of e) → ⊥)

-- The entry held has the greatest of the marks; if there are none, nothing is held.
abbrev pub HasGreatest : Option EntryValue → List Mark → Type 0
HasGreatest None marks = marks ≡ []
HasGreatest (Some e) marks = Contains marks (mark_of e) × All (λ m. IsWithin m (mark_of e)) marks

-- the marks taken, with that of a delta, unless its outcome is a gap
abbrev pub with_delta : List Mark → Option Outcome → Option OwnerDelta → List Mark
with_delta marks (Some outcome) (Some d) = if is_gap outcome.took then marks else marks ++ mark_led_to d.delta ∷ []
with_delta marks outcome d = marks
