-- The states of an entry, as a frame spells them: one after the other, in the order of the keys. And a delta of them.
use Rattle.std.specs.Prelude.{ℕ, ◌≡◌, ◌≤◌, ◌+◌, List, [], ◌∷◌, ◌++◌, length, slice_range, Option, Some, None}
use Rattle.std.specs.Int.{w16, w32, to_be_bytes}
use Rattle.std.specs.List.{flat_map}
use Rattle.std.specs.FinMap as map
use Rattle.cg_types.specs.Numbers.{address_of, port_of}
use Rattle.cg_entry.specs.Values.{DeltaValue}
use Rattle.cg_entry.specs.Versioned.{Versioned, States}
use Rattle.cg_entry.specs.declared.spelled.Head.{Head}
use Rattle.cg_entry.specs.declared.spelled.TheConstants.{TOMBSTONE}

-- Numbers, the greatest byte first. They stay closed, so that goals name the number and not its bytes.
unfoldable pub two_bytes : ℕ → List ℕ
two_bytes n = to_be_bytes w16 n

unfoldable pub four_bytes : ℕ → List ℕ
four_bytes n = to_be_bytes w32 n

-- two bytes of length, and that many bytes
abbrev pub text : List ℕ → List ℕ
text bytes = two_bytes (length bytes) ++ bytes

-- a state's value: a text, or the length of a tombstone, which no bytes follow
abbrev pub value : Option (List ℕ) → List ℕ
value (Some bytes) = text bytes
value None = two_bytes TOMBSTONE

abbrev pub state : ℕ × Versioned → List ℕ
state s = s.0 ∷ (four_bytes s.1.version ++ value s.1.text)

-- six bytes
abbrev pub endpoint : ℕ → List ℕ
endpoint e = four_bytes (address_of e) ++ two_bytes (port_of e)

-- the head of a delta: its owner, generation, both versions, and the number of its states
abbrev pub head : Head → ℕ → List ℕ
head h count = endpoint h.endpoint ++ (four_bytes h.generation ++ (four_bytes h.above ++ (four_bytes h.heartbeat ++ (count ∷ []))))

-- states behind the head of their delta
abbrev pub delta_headed : Head → States → List ℕ
delta_headed h states = head h (length (map.entries states)) ++ flat_map state (map.entries states)

-- a delta about an owner
abbrev pub delta_about : ℕ → DeltaValue → List ℕ
delta_about owner d =
    endpoint owner ++ (four_bytes d.generation ++ (four_bytes d.above ++ (four_bytes d.heartbeat
    ++ (length (map.entries d.states) ∷ flat_map state (map.entries d.states)))))

-- A text stands at a place of the bytes.
abbrev pub StandsIn : List ℕ → ℕ → List ℕ → Type 0
StandsIn bytes at text = (at + length text ≤ length bytes) × (slice_range bytes at (at + length text) ≡ text)
