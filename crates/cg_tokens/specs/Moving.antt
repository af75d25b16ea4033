-- A ring that follows the entries of a table.
use Rattle.std.specs.Prelude.{ℕ, ◌≡◌, ◌↔◌, false, List, [], Option, Some, None}
use Rattle.std.specs.List.{Contains}
use Rattle.std.specs.List.Sorted.{IsSorted}
use Rattle.std.specs.FinMap as table
use Rattle.cg_types.specs.Rising.{is_among}
use Rattle.cg_types.specs.Rows.{keys_of}
use Rattle.cg_entry.specs.Values.{EntryValue}
use Rattle.cg_table.specs.Values.{Entries}
use Rattle.cg_tokens.specs.declared.claims.Claim.{Claim}
use Rattle.cg_tokens.specs.Claims.{claims as all_claims, claims_of, first_claims, rank}
use Rattle.cg_tokens.specs.Ring.{ring}
use Rattle.cg_tokens.specs.Values.{RingValue}

-- the claims of an endpoint by the entry held of it
abbrev pub claims_by : ℕ → Option EntryValue → List Claim
claims_by owner None = []
claims_by owner (Some e) = claims_of (owner, e)

-- The same claims, in any order.
abbrev pub AreTheSame : List Claim → List Claim → Type 0
AreTheSame cs ds = (c : Claim) → Contains cs c ↔ Contains ds c

-- the ring of sorted claims: the first claim of each token has it
abbrev pub listed : List Claim → RingValue
listed claims = record { claims = claims; positions = table.from_sorted (first_claims None claims) }

-- The claims are sorted, and the positions are those of the first claim of each token.
pub record IsListed (claims : List Claim) (positions : List (ℕ × ℕ)) : Type 0 where
  pub sorted : IsSorted rank claims
  pub heads : positions ≡ first_claims None claims

-- The ring is that of these entries, and has all their claims.
pub record IsRingOf (entries : Entries) (r : RingValue) : Type 0 where
  pub claimed : AreTheSame (all_claims entries) r.claims
  pub won : r.positions ≡ ring entries

-- The ring is that of these entries, and this is held of the owner.
pub record IsRingWith (entries : Entries) (owner : ℕ) (held : Option EntryValue) (r : RingValue) : Type 0 where
  pub held_is : table.get entries owner ≡ held
  pub of_all : IsRingOf entries r

-- These rows are new, and all other owners claim the same as before.
pub record AreMoved (rows : List (ℕ × EntryValue)) (before after : Entries) : Type 0 where
  pub moved : (row : ℕ × EntryValue) → Contains rows row → table.get after row.0 ≡ Some row.1
  pub others : (owner : ℕ) → is_among (keys_of rows) owner ≡ false
      → claims_by owner (table.get after owner) ≡ claims_by owner (table.get before owner)
