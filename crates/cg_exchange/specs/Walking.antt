-- Two lists whose owners rise, walked side by side.
use Rattle.std.specs.Prelude.{ℕ, zero, suc, ◌≡◌, drop, Bool, false, ◌==◌, nat_lt, List, [], ◌∷◌, Option, Some, None, if◌then◌else◌}
use Rattle.std.specs.Option.{option_map}
use Rattle.cg_entry.specs.Values.{EntryValue}
use Rattle.cg_entry.specs.Entry.{newest}
use Rattle.cg_entry.specs.declared.digest.Digest.{Digest}
use Rattle.cg_messages.specs.declared.owner_delta.OwnerDelta.{OwnerDelta}
use Rattle.cg_messages.specs.Values.{RequestValue}
use Rattle.cg_messages.specs.Members.{about}
use Rattle.cg_exchange.specs.Answering.{request_by, delta_by}

module _ {X : Type 0} (owner : X → ℕ) where
  -- the members from an owner on
  abbrev pub from_owner : ℕ → List X → List X
  from_owner k [] = []
  from_owner k (x ∷ xs) = if nat_lt (owner x) k then from_owner k xs else x ∷ xs

  -- the first member, if it is about this owner
  abbrev pub first_about : ℕ → List X → Option X
  first_about k [] = None
  first_about k (x ∷ xs) = if owner x == k then Some x else None

  -- a test that the first member is about an earlier owner
  abbrev pub begin_before : ℕ → List X → Bool
  begin_before k [] = false
  begin_before k (x ∷ xs) = nat_lt (owner x) k

module _ {X Y : Type 0} (key : X → ℕ) (owner : Y → ℕ) where
  -- the first member, unless the first of the others is about an earlier owner
  abbrev pub next_of : List X → List Y → Option X
  next_of [] ys = None
  next_of (x ∷ xs) ys = if begin_before owner (key x) ys then None else Some x

  -- the members after that one
  abbrev pub behind_next : List X → List Y → List X
  behind_next [] ys = []
  behind_next (x ∷ xs) ys = if begin_before owner (key x) ys then x ∷ xs else xs

-- the value that f gives of a member, if there is one
abbrev pub of_member : {X Y Z : Type 0} → (X → Option Y → Option Z) → Option X → Option Y → Option Z
of_member f None y = None
of_member f (Some x) y = f x y

-- the request to the sender of a digest, by the row of its endpoint
abbrev pub row_request : Digest → Option (ℕ × EntryValue) → Option RequestValue
row_request d row = request_by d (option_map (λ r. r.1) row)

-- the delta that is sent of a row, by the digest that names its endpoint
abbrev pub row_delta : ℕ × EntryValue → Option Digest → Option OwnerDelta
row_delta row named = option_map (about row.0) (delta_by row.1 named)

-- the digest says of the row's entry what stands there, so that nothing is due
pub record IsSame (r : ℕ × EntryValue) (d : Digest) : Type 0 where
  pub endpoint : r.0 ≡ d.endpoint
  pub generation : r.1.generation ≡ d.generation
  pub newest : newest r.1 ≡ d.newest

-- the digests say that of so many rows at the front
abbrev pub AreSame : ℕ → List (ℕ × EntryValue) → List Digest → Type 0
AreSame zero rows digests = Unit {0}
AreSame (suc n) (r ∷ rows) (d ∷ digests) = IsSame r d × AreSame n rows digests
AreSame (suc n) rows digests = ⊥

-- the rows and the digests behind a front of which nothing is due
pub record AreBehindSame (rows : List (ℕ × EntryValue)) (digests : List Digest) (behind : List (ℕ × EntryValue)) (others : List Digest) : Type 0 where
  pub count : ℕ
  pub same : AreSame count rows digests
  pub rows_behind : behind ≡ drop count rows
  pub digests_behind : others ≡ drop count digests
