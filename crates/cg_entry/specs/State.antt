-- States in a list, as a finite map.
use Rattle.std.specs.Prelude.{◌≡◌, ℕ, Bool, ◌&&◌, ◌||◌, not, ◌==◌, List, length, map, sum_by, nat_lt, nat_le, None, Result, Ok, Err, if◌then◌else◌}
use Rattle.std.specs.FinMap.{from_sorted}
use Rattle.cg_types.specs.declared.fault.Cause.{Cause}
use Rattle.cg_types.specs.declared.fault.Cause.TheVariants as cause
use Rattle.std.specs.List.{list_all, AllByRecursion}
use Rattle.cg_types.specs.Rising.{Rises, rise_past}
use Rattle.cg_entry.specs.declared.state.State.{State}
use Rattle.cg_entry.specs.Values.{DeltaValue}
use Rattle.cg_entry.specs.Versioned.{Versioned}
use Rattle.cg_entry.specs.Entry.{greatest, text_size}
use Rattle.cg_entry.specs.Contents.{IsState}

-- the text, or its tombstone, and the version held at a state's key
abbrev pub value_at_key : State → Versioned
value_at_key s = record { text = s.text; version = s.version }

-- a state as its key and what is held at it
abbrev pub pair : State → ℕ × Versioned
pair s = (s.key, value_at_key s)

-- a list of states as the entries of a finite map
abbrev pub pairs : List State → List (ℕ × Versioned)
pairs items = map pair items

-- the keys rise strictly
abbrev pub KeysRise : List State → Type 0
KeysRise items = Rises (map (λ s. s.key) items)

-- the number of bytes of the texts of listed states
abbrev pub listed_bytes : List State → ℕ
listed_bytes items = sum_by (λ s. text_size s.text) items

-- The keys rise strictly, each state is in range, and the texts have that number of bytes.
pub record IsStateList (items : List State) (bytes : ℕ) : Type 0 where
  pub rise : KeysRise items
  pub valid : AllByRecursion IsState (pairs items)
  pub counted : bytes ≡ listed_bytes items

-- a test that the keys rise strictly
abbrev pub keys_rise : List State → Bool
keys_rise items = rise_past None (map (λ s. s.key) items)

-- a test that each version is greater than above
abbrev pub all_newer : ℕ → List State → Bool
all_newer above items = list_all (λ s. nat_lt above s.version) items

-- a test that these make a delta
abbrev pub makes_delta : ℕ → ℕ → List State → Bool
makes_delta above heartbeat items =
    (nat_lt above heartbeat || not (length items == 0)) && (all_newer above items && keys_rise items)

-- the delta of these parts
abbrev pub delta_of_parts : ℕ → ℕ → ℕ → List State → DeltaValue
delta_of_parts generation above heartbeat items =
    record { generation = generation; above = above; heartbeat = heartbeat; states = from_sorted (pairs items) }

-- the delta that these make, or what is wrong with them
abbrev pub delta_from : ℕ → ℕ → ℕ → List State → Result DeltaValue Cause
delta_from generation above heartbeat items =
    if not (all_newer above items) then Err cause.Version
    else if not (keys_rise items) then Err cause.Order
    else if nat_le (greatest heartbeat (from_sorted (pairs items))) above then Err cause.Empty
    else Ok (delta_of_parts generation above heartbeat items)
