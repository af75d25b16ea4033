-- Properties of tables that spell the places of nodes, after every list of actions.
use Rattle.std.specs.Prelude.{ℕ, ◌≡◌, ◌≤◌, List, length, Option, Some}
use Rattle.std.specs.FinMap as table
use Rattle.cg_types.specs.Rising.{Rises}
use Rattle.cg_entry.specs.Values.{EntryValue}
use Rattle.cg_entry.specs.History.{at_place}
use Rattle.cg_entry.specs.Place.{Span}
use Rattle.cg_table.specs.Values.{TableValue, Entries}
use Rattle.cg_table.specs.Table.{digests_of}
use Rattle.cg_table.specs.Merge.{merge_of, owners_together}
use Rattle.cg_table.specs.Spelling.{SpellsPlaces}
use Rattle.cg_messages.specs.declared.owner_delta.OwnerDelta.{OwnerDelta}
use Rattle.cg_messages.specs.Members.{endpoints_of_deltas}
use Rattle.cg_places.specs.PlaceMessages.{AreSpans}
use Rattle.cg_places.specs.MessageSpelling.{SpellsSpans}
use Rattle.cg_exchange.specs.Taking.{held_after}
use Rattle.cg_tokens.specs.Ring.{ring}
use Rattle.cg_places.specs.PlaceWorld.{PlaceAction, PlaceWorld, world_after}
use Rattle.cg_places.specs.Spelling.{SpellsNode}
use Rattle.cg_places.specs.Join.{join, furthest, sources, SamePlaces}

-- Properties of a node's table.
pub record IsJoined (w : PlaceWorld) (node : ℕ) (entries : Entries) : Type 0 where
  -- it is the join of its own newest entry and of the entries to which the deltas led that it took since its start
  pub joined : (owner : ℕ) → table.get entries owner ≡ at_place (w.histories owner) (furthest (sources w node owner))
  -- each entry is its owner's whole entry at one past place
  pub whole : (owner : ℕ) (entry : EntryValue) → table.get entries owner ≡ Some entry
      → (place : ℕ) × (place ≤ length (w.histories owner)) × (at_place (w.histories owner) place ≡ Some entry)
  -- it has no more entries than owners have started
  pub small : table.len entries ≤ length w.owners

abbrev pub TablesAreJoined : Type 0
TablesAreJoined =
    (actions : List PlaceAction) (node : ℕ) (entries : Entries) → SpellsNode (world_after actions) node entries
    → IsJoined (world_after actions) node entries

-- Equal sources give equal tables and rings, in any order and number of deliveries.
abbrev pub EqualSourcesEqualTables : Type 0
EqualSourcesEqualTables =
    (actions : List PlaceAction) (a b : ℕ) (one other : Entries) → SpellsNode (world_after actions) a one
    → SpellsNode (world_after actions) b other
    → ((owner : ℕ) → SamePlaces (sources (world_after actions) a owner) (sources (world_after actions) b owner))
    → (one ≡ other) × (ring one ≡ ring other)

-- Equal digests give equal tables and rings.
abbrev pub EqualDigestsEqualTables : Type 0
EqualDigestsEqualTables =
    (actions : List PlaceAction) (a b : ℕ) (one other : Entries) → SpellsNode (world_after actions) a one
    → SpellsNode (world_after actions) b other
    → digests_of one ≡ digests_of other → (one ≡ other) × (ring one ≡ ring other)

-- Properties of the merged tables of three nodes.
pub record IsMergedOf (w : PlaceWorld) (a b c : ℕ) (entries : Entries) : Type 0 where
  -- they spell the join of their places
  pub joined : SpellsPlaces w.histories entries (join (join (w.places a) (w.places b)) (w.places c))
  pub small : table.len entries ≤ length w.owners

abbrev pub MergesAreJoined : Type 0
MergesAreJoined =
    (actions : List PlaceAction) (a b c : ℕ) (one two three : Entries) → SpellsNode (world_after actions) a one
    → SpellsNode (world_after actions) b two → SpellsNode (world_after actions) c three
    → IsMergedOf (world_after actions) a b c (merge_of (merge_of one two) three)

-- No table that is made of tables and messages of a world holds more than owners have started.
pub record FindRoom (w : PlaceWorld) : Type 0 where
  -- a table with what the deltas of a message bring
  pub deliveries : (t : TableValue) (deltas : List OwnerDelta) (places : ℕ → ℕ) (spans : ℕ → Option Span)
      → SpellsPlaces w.histories t.entries places
      → Rises (endpoints_of_deltas deltas) → SpellsSpans w.histories deltas spans → AreSpans w.histories spans
      → held_after t deltas ≤ length w.owners
  -- two tables together
  pub merges : (one other : Entries) (mine theirs : ℕ → ℕ) → SpellsPlaces w.histories one mine
      → SpellsPlaces w.histories other theirs → owners_together one other ≤ length w.owners

abbrev pub TablesFindRoom : Type 0
TablesFindRoom = (actions : List PlaceAction) → FindRoom (world_after actions)
