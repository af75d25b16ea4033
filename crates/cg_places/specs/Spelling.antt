-- Tables and messages spell a world, and go on to spell it as it changes.
use Rattle.std.specs.Prelude.{ℕ, ◌≡◌, ◌≢◌, ◌==◌, true, Option, Some, is_some, List, if◌then◌else◌}
use Rattle.std.specs.FinMap as table
use Rattle.cg_entry.specs.Values.{EntryValue}
use Rattle.cg_entry.specs.Entry.{starting_entry}
use Rattle.cg_entry.specs.Place.{Span}
use Rattle.cg_entry.specs.declared.digest.Digest.{Digest}
use Rattle.cg_table.specs.Values.{Entries}
use Rattle.cg_table.specs.Table.{lone_table}
use Rattle.cg_table.specs.Spelling.{SpellsPlaces}
use Rattle.cg_messages.specs.declared.owner_delta.OwnerDelta.{OwnerDelta}
use Rattle.cg_messages.specs.Values.{RequestValue}
use Rattle.cg_places.specs.Places.{Ask}
use Rattle.cg_places.specs.PlaceMessages.{PlaceMessage, Stand, AreAsks, AreSpans, places_after}
use Rattle.cg_places.specs.MessageSpelling.{SpellsDigests, SpellsAsks, SpellsSpans}
use Rattle.cg_places.specs.PlaceWorld.{PlaceAction, PlaceWorld, runs, world_after, with_start, with_entry, with_message, with_spans}
use Rattle.cg_places.specs.Laws.{Continues}

-- The table spells a node's places.
abbrev pub SpellsNode : PlaceWorld → ℕ → Entries → Type 0
SpellsNode w node entries = SpellsPlaces w.histories entries (w.places node)

-- The nodes that run are those that have a table, and each table spells its node's places.
pub record SpellsNodes (tables : ℕ → Option Entries) (w : PlaceWorld) : Type 0 where
  pub running : (node : ℕ) → is_some (tables node) ≡ runs w node
  pub spelled : (node : ℕ) (entries : Entries) → tables node ≡ Some entries → SpellsNode w node entries

-- ---- histories that go on

-- The later histories spell all that the earlier ones spelled.
pub record StaySpelled (earlier later : ℕ → List EntryValue) : Type 0 where
  pub tables : (entries : Entries) (places : ℕ → ℕ) → SpellsPlaces earlier entries places
      → SpellsPlaces later entries places
  pub digests : (digests : List Digest) (places : ℕ → ℕ) → Stand earlier places
      → SpellsDigests earlier digests places → SpellsDigests later digests places
  pub asks : (requests : List RequestValue) (asks : ℕ → Option Ask) → AreAsks earlier asks
      → SpellsAsks earlier requests asks → SpellsAsks later requests asks
  pub spans : (deltas : List OwnerDelta) (spans : ℕ → Option Span) → AreSpans earlier spans
      → SpellsSpans earlier deltas spans → SpellsSpans later deltas spans

-- Tables and messages go on to spell what they spelled if histories go on.
abbrev pub SpellingStays : Type 0
SpellingStays =
    (earlier later : ℕ → List EntryValue) → ((owner : ℕ) → Continues (earlier owner) (later owner))
    → StaySpelled earlier later

-- ---- each change of a world

-- The later tables are the earlier ones, except that this one is the node's.
pub record IsReplaced (earlier later : ℕ → Option Entries) (node : ℕ) (entries : Entries) : Type 0 where
  pub here : later node ≡ Some entries
  pub elsewhere : (other : ℕ) → other ≢ node → later other ≡ earlier other

-- The tables that spell the world after each change of it.
pub record Follow (tables : ℕ → Option Entries) (w : PlaceWorld) : Type 0 where
  -- after a start the started entry alone
  pub start : (node generation : ℕ) (later : ℕ → Option Entries)
      → IsReplaced tables later node (lone_table node (starting_entry generation)).entries
      → SpellsNodes later (with_start w node generation)
  -- after a change of the own entry the table with that entry
  pub entry : (node : ℕ) (entries : Entries) (entry : EntryValue) (later : ℕ → Option Entries)
      → tables node ≡ Some entries → IsReplaced tables later node (table.insert entries node entry)
      → SpellsNodes later (with_entry w node entry)
  -- after a message the same tables
  pub message : (message : PlaceMessage) → SpellsNodes tables (with_message w message)
  -- after spans the tables that spell the places to which these lead
  pub spans : (node : ℕ) (spans : ℕ → Option Span) (entries : Entries) (later : ℕ → Option Entries)
      → runs w node ≡ true → SpellsPlaces w.histories entries (places_after node (w.places node) spans)
      → IsReplaced tables later node entries → SpellsNodes later (with_spans w node spans)

-- Tables that spell a world follow its changes.
abbrev pub TablesFollow : Type 0
TablesFollow =
    (actions : List PlaceAction) (tables : ℕ → Option Entries) → SpellsNodes tables (world_after actions)
    → Follow tables (world_after actions)

-- ---- the change by one node's action

-- The later world is the earlier one after an action of this node, which then has this table.
pub record IsChangedAt (w v : PlaceWorld) (node : ℕ) (entries : Entries) : Type 0 where
  -- each history goes on
  pub histories : (owner : ℕ) → Continues (w.histories owner) (v.histories owner)
  -- this node runs, and of the others those that ran
  pub running : (other : ℕ) → runs v other ≡ (if other == node then true else runs w other)
  -- the table spells its places
  pub here : SpellsNode v node entries
  -- the others hold what they held
  pub elsewhere : (other : ℕ) → other ≢ node → v.places other ≡ w.places other
