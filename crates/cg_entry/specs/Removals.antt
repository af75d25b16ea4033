-- The removals of an entry.
--
-- A block of states may be shared, and then no call changes it. A removal takes no memory. So an entry keeps its removals
-- beside its block, until a call makes a new block anyway. Each is the version of its tombstone, at its key.
use Rattle.std.specs.Prelude.{ℕ, zero, suc, List, [], ◌∷◌, map, slice_index_or, Option, Some, None}
use Rattle.std.specs.FinMap as finmap
use Rattle.cg_entry.specs.Versioned.{Versioned, States}

-- the version of a key's removal, or 0
abbrev pub removal_at : List ℕ → ℕ → ℕ
removal_at removals key = slice_index_or removals key 0

-- a version, or none at 0
abbrev pub version_if_any : ℕ → Option ℕ
version_if_any zero = None
version_if_any (suc n) = Some (suc n)

-- what stands where the block has a state: the tombstone of a removal, or else that state
abbrev pub tombstone_or : ℕ → Versioned → Versioned
tombstone_or zero state = state
tombstone_or (suc n) state = record { text = None; version = suc n }

-- a state of the block under the removals
abbrev pub removed_under : List ℕ → ℕ × Versioned → ℕ × Versioned
removed_under removals s = (s.0, tombstone_or (removal_at removals s.0) s.1)

-- the states of a block under the removals
abbrev pub with_tombstones : List ℕ → States → States
with_tombstones [] states = states
with_tombstones (r ∷ rs) states = finmap.from_sorted (map (removed_under (r ∷ rs)) (finmap.entries states))
