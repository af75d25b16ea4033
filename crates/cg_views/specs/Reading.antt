-- Reads of a pass after earlier reads and after what was told.
use Rattle.std.specs.Prelude.{ℕ, ◌≡◌, Bool, true, false, not, List, ◌++◌, ◌∷◌, Option, Some, None}
use Rattle.std.specs.FinMap as map
use Rattle.cg_entry.specs.Versioned.{Versioned}
use Rattle.cg_entry.specs.Values.{EntryValue}
use Rattle.cg_entry.specs.Entry.{is_later}
use Rattle.cg_table.specs.Values.{TableValue}
use Rattle.cg_table.specs.Puts.{Put, with_puts, is_held_from, keep_order}
use Rattle.cg_views.specs.Lists.{StartsWith}

-- `true` if an entry or a later one is held
abbrev pub is_reached : Option EntryValue → EntryValue → Bool
is_reached None e = false
is_reached (Some x) e = not (is_later e x)

-- If one read begins the next, the next has of each owner the entry that the first had, or a later one.
abbrev pub ReadsNeverFall : Type 0
ReadsNeverFall =
    (opening : TableValue) (first next : List Put) (owner : ℕ) (e : EntryValue) → keep_order opening next ≡ true
    → StartsWith next first → map.get (with_puts opening first).entries owner ≡ Some e
    → is_reached (map.get (with_puts opening next).entries owner) e ≡ true

-- the text, or its tombstone, and the version of an entry at a key
abbrev pub state_in : ℕ → Option EntryValue → Option Versioned
state_in key None = None
state_in key (Some e) = map.get e.states key

-- The table's own entry has the key at the version or a later one.
abbrev pub OwnHasFrom : TableValue → ℕ → ℕ → Type 0
OwnHasFrom t key version = is_held_from version (state_in key (map.get t.entries t.own)) ≡ true

-- The put is in the list.
abbrev pub Has : List Put → Put → Type 0
Has ps p = (before : List Put) × (after : List Put) × (ps ≡ before ++ p ∷ after)

-- A put of the owner has the key's text, or its tombstone, at the version.
pub record HasState (puts : List Put) (own key : ℕ) (text : Option (List ℕ)) (version : ℕ) : Type 0 where
  pub entry : EntryValue
  pub stands : Has puts (own, entry)
  pub given : map.get entry.states key ≡ Some (record { text = text; version = version })

-- If what was told begins what was read, each told key of the own entry is read at its version or a later one.
abbrev pub ToldSetsAreRead : Type 0
ToldSetsAreRead =
    (opening : TableValue) (told read : List Put) (key : ℕ) (text : Option (List ℕ)) (version : ℕ)
    → keep_order opening read ≡ true → StartsWith read told → HasState told opening.own key text version
    → OwnHasFrom (with_puts opening read) key version
