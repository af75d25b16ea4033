-- Properties of a node's steps: tables, puts, own entries, limits and windows.
use Rattle.std.specs.Prelude.{◌≡◌, ◌≤◌, ℕ, Bool, true, false, List, [], ◌∷◌, Option, Some, None, Ok}
use Rattle.std.specs.FinMap as map
use Rattle.cg_types.specs.Rising.{Rises}
use Rattle.cg_types.specs.declared.limits.TheConstants.{MEMBER_LIMIT}
use Rattle.cg_types.specs.Rows.{keys_of}
use Rattle.cg_entry.specs.Entry.{newest, entry_after_beat, with_state}
use Rattle.cg_table.specs.Values.{TableValue}
use Rattle.cg_table.specs.Own.{own_entry, with_own}
use Rattle.cg_table.specs.Puts.{puts, with_puts, keep_order, rows_at}
use Rattle.cg_messages.specs.declared.owner_delta.OwnerDelta.{OwnerDelta}
use Rattle.cg_messages.specs.Members.{endpoints_of_deltas}
use Rattle.cg_exchange.specs.Taking.{table_after, held_after}
use Rattle.cg_core.specs.declared.event.Event.{Event}
use Rattle.cg_core.specs.declared.event.Event.TheVariants as event
use Rattle.cg_core.specs.declared.reply.Reply.{Reply}
use Rattle.cg_core.specs.declared.reply.Reply.TheVariants as reply
use Rattle.cg_core.specs.Handed.{deltas_handed}
use Rattle.cg_core.specs.SettingsValues.{SettingsValue}
use Rattle.cg_core.specs.Values.{NodeValue, IsSmall, HearsOthersAlone}
use Rattle.cg_core.specs.Step.{Leads, starting_node, after_events, replay}
use Rattle.cg_core.specs.Changes.{changed_owners}
use Rattle.cg_core.specs.Arrivals.{times_taken, window_of}

-- the table after deltas, if it had room for them
pub record IsAfter (before : TableValue) (deltas : List OwnerDelta) (after : TableValue) : Type 0 where
  pub is : after ≡ table_after before deltas
  pub room : held_after before deltas ≤ MEMBER_LIMIT

-- the rule for the table after an event
abbrev pub TableAfter : TableValue → Event → TableValue → Type 0
TableAfter t event.Beat after = after ≡ with_own (entry_after_beat (own_entry t)) t
TableAfter t (event.Set key text) after = after ≡ with_own (with_state key (Some text) (own_entry t)) t
TableAfter t (event.Remove key) after = after ≡ with_own (with_state key None (own_entry t)) t
TableAfter t (event.Tick now words) after = after ≡ with_own (entry_after_beat (own_entry t)) t
TableAfter t event.Opening after = after ≡ t
TableAfter t (event.Syn syn) after = after ≡ t
TableAfter t (event.Ack now ack) after = IsAfter t ack.deltas after
TableAfter t (event.Ack2 now ack2) after = IsAfter t ack2.deltas after

-- The table part of a step is the rule of tables and messages.
abbrev pub TablesGoByTheirRules : Type 0
TablesGoByTheirRules =
    (n : NodeValue) (e : Event) (after : NodeValue) (answer : Reply) → Leads n e after answer
    → TableAfter n.table e after.table

-- The puts of a step are the new rows of exactly the owners whose entry it changes.
abbrev pub PutsAreTheChangedRows : Type 0
PutsAreTheChangedRows =
    (n : NodeValue) (e : Event) (after : NodeValue) (answer : Reply) → IsSmall n
    → Rises (endpoints_of_deltas (deltas_handed e)) → Leads n e after answer
    → puts n.table after.table ≡ rows_at after.table.entries (changed_owners n.table.own answer)

-- properties of the puts between two tables
pub record ArePuts (before after : TableValue) : Type 0 where
  -- the puts lead from the first table to the second
  pub lead : with_puts before (puts before after) ≡ after
  -- the puts' owners rise
  pub rise : Rises (keys_of (puts before after))
  -- each put is later than what is held, and the own one goes on from the own entry
  pub order : keep_order before (puts before after) ≡ true

-- The puts of a step keep their order, and lead from its old table to its new one.
abbrev pub PutsKeepTheirOrder : Type 0
PutsKeepTheirOrder =
    (n : NodeValue) (e : Event) (after : NodeValue) (answer : Reply) → IsSmall n → Leads n e after answer
    → ArePuts n.table after.table

-- properties of the puts of a Set or a Remove, which leaves a key a text or a tombstone
pub record PutsIts (key : ℕ) (text : Option (List ℕ)) (n after : NodeValue) (answer : Reply) : Type 0 where
  pub version : ℕ
  -- the reply has the version
  pub told : answer ≡ reply.Done version
  -- the own entry is the only put
  pub only : puts n.table after.table ≡ (n.table.own, with_state key text (own_entry n.table)) ∷ []
  -- it has that at the key, at that version, which is its newest
  pub given :
      map.get (with_state key text (own_entry n.table)).states key ≡ Some (record { text = text; version = version })
  pub is_newest : newest (with_state key text (own_entry n.table)) ≡ version

-- A Set puts the own entry, with the key's text at the reply's version.
abbrev pub SetsPutTheirText : Type 0
SetsPutTheirText =
    (n : NodeValue) (key : ℕ) (text : List ℕ) (after : NodeValue) (answer : Reply) → IsSmall n
    → Leads n (event.Set key text) after answer → PutsIts key (Some text) n after answer

-- A Remove puts the own entry, with the key's tombstone at the reply's version.
abbrev pub RemovalsPutTheirTombstone : Type 0
RemovalsPutTheirTombstone =
    (n : NodeValue) (key : ℕ) (after : NodeValue) (answer : Reply) → IsSmall n
    → Leads n (event.Remove key) after answer → PutsIts key None n after answer

-- the events that change the own entry
abbrev pub is_own_change : Event → Bool
is_own_change event.Beat = true
is_own_change (event.Set key text) = true
is_own_change (event.Remove key) = true
is_own_change (event.Tick now words) = true
is_own_change event.Opening = false
is_own_change (event.Syn syn) = false
is_own_change (event.Ack now ack) = false
is_own_change (event.Ack2 now ack2) = false

-- No event changes whose entry the own one is, and events other than these leave that entry as it is.
abbrev pub OnlyOwnEventsChangeTheOwnEntry : Type 0
OnlyOwnEventsChangeTheOwnEntry =
    (n : NodeValue) (e : Event) (after : NodeValue) (answer : Reply) → Leads n e after answer
    → (after.table.own ≡ n.table.own)
    × (is_own_change e ≡ false
    → map.get after.table.entries after.table.own ≡ map.get n.table.entries n.table.own)

-- A node that starts is small, and stays small after any events, refused ones among them.
pub record NodesStaySmall : Type 0 where
  pub starts : (own generation : ℕ) (settings : SettingsValue) → IsSmall (starting_node own generation settings)
  pub steps :
      (n : NodeValue) (e : Event) (after : NodeValue) (answer : Reply) → IsSmall n → Leads n e after answer
      → IsSmall after
  pub stays : (n : NodeValue) (events : List Event) → IsSmall n → IsSmall (after_events n events)

-- A node that starts hears only others, and still does after any events.
pub record NodesHearOthersAlone : Type 0 where
  pub starts : (own generation : ℕ) (settings : SettingsValue)
      → HearsOthersAlone (starting_node own generation settings)
  pub steps :
      (n : NodeValue) (e : Event) (after : NodeValue) (answer : Reply) → HearsOthersAlone n → Leads n e after answer
      → HearsOthersAlone after
  pub stays : (n : NodeValue) (events : List Event) → HearsOthersAlone n → HearsOthersAlone (after_events n events)

-- The windows of a node that started show the times of all deltas that it took of their endpoints. It has no other
-- windows.
abbrev pub WindowsShowAllTaken : Type 0
WindowsShowAllTaken =
    (own generation : ℕ) (settings : SettingsValue) (events : List Event) (endpoint : ℕ)
    → let n = starting_node own generation settings in
    map.get (after_events n events).windows endpoint
    ≡ window_of settings.silence (times_taken endpoint n events)

-- A run leads to the node to which its events lead, one after the other.
abbrev pub RunsGoEventByEvent : Type 0
RunsGoEventByEvent =
    (n : NodeValue) (events : List Event) (after : NodeValue) (answers : List Reply)
    → replay n events ≡ Ok (after, answers) → after ≡ after_events n events
