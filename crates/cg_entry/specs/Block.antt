-- Blocks of states: a vector in the order of the versions, and the places of its states in the order of the keys.
--
-- The states newer than a version are the vector's end, so that a delta copies that end and compares no others. Messages
-- and readers go by key: there the places tell where each state stands. Nothing is sorted. States come in the order of
-- their keys, and each goes behind all that are not newer, while its place goes behind the other places. When a front of
-- the vector is dropped, the places that are left are still in the order of the keys. A state that is newer than all goes
-- to the vector's end: the one that it replaces is taken out, and those behind that one move down by a place.
use Rattle.std.specs.Prelude.{ℕ, suc, ◌≡◌, ◌-◌, ◌<◌, true, List, [], ◌∷◌, map, length, sum_by, nat_le, nat_lt, slice_index_or, None, if◌then◌else◌}
use Rattle.std.specs.List.{filter, AllByRecursion}
use Rattle.std.specs.List.Sorted.{IsNonDecreasingBy}
use Rattle.cg_types.specs.Rising.{is_among}
use Rattle.cg_entry.specs.declared.state.State.{State}
use Rattle.cg_entry.specs.Contents.{IsState}
use Rattle.cg_entry.specs.Entry.{text_size}
use Rattle.std.specs.FinMap as finmap
use Rattle.cg_entry.specs.State.{pairs, listed_bytes, value_at_key, KeysRise}
use Rattle.cg_entry.specs.Versioned.{States}

-- a state that no list holds
abbrev pub no_state : State
no_state = record { key = 0; version = 0; text = None }

-- the state at a place, counted from 0
abbrev pub state_at : List State → ℕ → State
state_at items p = slice_index_or items p no_state

-- the states at places, in the order of the places
abbrev pub picked : List State → List ℕ → List State
picked items places = map (state_at items) places

-- the number of bytes of the texts at places
abbrev pub bytes_at : List State → List ℕ → ℕ
bytes_at items places = sum_by (λ p. text_size (state_at items p).text) places

-- the places that are left once all before `from` are dropped
abbrev pub lowered : ℕ → List ℕ → List ℕ
lowered from places = map (λ p. p - from) (filter (nat_le from) places)

-- the same places once a state is inserted at `at`
abbrev pub bumped : ℕ → List ℕ → List ℕ
bumped at places = map (λ p. (if nat_le at p then suc p else p)) places

-- the same places once the state at `at` is taken out
abbrev pub closed : ℕ → List ℕ → List ℕ
closed at places = map (λ p. (if nat_lt at p then p - 1 else p)) places

-- the states once each of these is put, one after the other
abbrev pub put_all : List State → States → States
put_all [] states = states
put_all (s ∷ rest) states = put_all rest (finmap.insert states s.key (value_at_key s))

-- The versions do not fall, and the keys of equal versions rise.
pub record IsRisen (items : List State) : Type 0 where
  pub versions : IsNonDecreasingBy (λ s. s.version) items
  pub keys : (i j : ℕ) → i < j → j < length items
      → (state_at items i).version ≡ (state_at items j).version → (state_at items i).key < (state_at items j).key

-- The vector is in the order of the versions, and the places take its states in the order of their keys. Each place is
-- in the vector, each state is at one of the places, and all are in range, with so many bytes of texts.
pub record IsBlock (items : List State) (places : List ℕ) (bytes : ℕ) : Type 0 where
  pub risen : IsRisen items
  pub rise : KeysRise (picked items places)
  pub within : AllByRecursion (λ p. p < length items) places
  pub whole : (i : ℕ) → i < length items → is_among places i ≡ true
  pub valid : AllByRecursion IsState (pairs (picked items places))
  pub counted : bytes ≡ listed_bytes (picked items places)
