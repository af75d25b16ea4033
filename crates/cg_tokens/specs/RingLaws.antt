-- The laws of the rings of tables.
use Rattle.std.specs.Prelude.{◌≡◌, ℕ, true, [], Option, Some, None}
use Rattle.std.specs.FinMap as table
use Rattle.cg_entry.specs.Values.{EntryValue}
use Rattle.cg_table.specs.Values.{Entries}
use Rattle.cg_tokens.specs.Claims.{claimed_tokens, keeps_claims}
use Rattle.cg_tokens.specs.Ring.{ring}

-- An entry claims the same as the one held before: the same tokens in the same generation, or nothing if nothing was
-- held.
abbrev pub ClaimsAlike : Option EntryValue → EntryValue → Type 0
ClaimsAlike None e = claimed_tokens e.states ≡ []
ClaimsAlike (Some held) e = (e.generation ≡ held.generation) × (claimed_tokens e.states ≡ claimed_tokens held.states)

-- An entry that shows that it keeps its claims claims the same as before.
abbrev pub KeptClaimsAreAlike : Type 0
KeptClaimsAreAlike = (held : Option EntryValue) (e : EntryValue) → keeps_claims held e ≡ true → ClaimsAlike held e

-- The ring stays if an owner's new entry claims the same as its old one.
abbrev pub RingStays : Type 0
RingStays =
    (entries : Entries) (owner : ℕ) (e : EntryValue) → ClaimsAlike (table.get entries owner) e
    → ring (table.insert entries owner e) ≡ ring entries
