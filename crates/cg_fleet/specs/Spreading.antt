-- The spread of entries among nodes, and whether tables are equal.
use Rattle.std.specs.Prelude.{ℕ, ◌≡◌, ⊤, Bool, false, not, is_some, Option, Some, None, List, [], ◌∷◌}
use Rattle.std.specs.FinMap as map
use Rattle.std.specs.List.{AllByRecursion, list_all}
use Rattle.cg_entry.specs.Values.{EntryValue}
use Rattle.cg_entry.specs.Entry.{is_later}
use Rattle.cg_core.specs.Values.{NodeValue}

-- what is held is an entry that this one is not later than
abbrev pub is_reached : EntryValue → Option EntryValue → Bool
is_reached entry (Some held) = not (is_later entry held)
is_reached entry None = false

-- a node holds this entry of an owner, or a later one
abbrev pub has : ℕ → EntryValue → NodeValue → Bool
has owner entry n = is_reached entry (map.get n.table.entries owner)

-- a node holds an entry of an owner
abbrev pub knows : ℕ → NodeValue → Bool
knows owner n = is_some (map.get n.table.entries owner)

-- all nodes hold an entry of this one
abbrev pub is_known : List NodeValue → NodeValue → Bool
is_known nodes n = list_all (knows n.table.own) nodes

-- Each node holds the same entries as this one.
abbrev pub HoldTheSame : NodeValue → List NodeValue → Type 0
HoldTheSame first nodes = AllByRecursion (λ (n : NodeValue). n.table.entries ≡ first.table.entries) nodes

-- All nodes hold the same entries.
abbrev pub HoldEqual : List NodeValue → Type 0
HoldEqual [] = ⊤
HoldEqual (n ∷ ns) = HoldTheSame n ns
