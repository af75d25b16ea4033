-- A search for a message walks down its bucket.
use Rattle.std.proofs.Common.{◌≡◌, ◌⊎◌, ℕ, suc, ◌+◌, ◌≤◌, ◌<◌, ◌%◌, List, [], ◌∷◌, ◌++◌, length, map, get_or, Option, Some, None, refl, sym, ap, ◌∙◌, subst, inl, inr, arith}
use Rattle.std.specs.List.{Contains, slice_get}
use Rattle.std.specs.Option.{option_map}
use Rattle.std.proofs.lemmas.List.{length-map}
use Rattle.std.proofs.lemmas.Bool.{cases_lt}
use Rattle.std.proofs.lemmas.Option.{slice_get-map, slice_get-get_or, slice_get_within, get_or_from_slice_get}
use Rattle.cg_messages.specs.declared.message.Message.{Message}
use Rattle.cg_audit.specs.Hash.{hash_of}
use Rattle.cg_audit.specs.Index.{IsLast, IsIndex}

-- the hash at a message's place is the message's
pub hash_at : (messages : List Message) (hashes : List ℕ) → map hash_of messages ≡ hashes → (place : ℕ) (m : Message) → slice_get messages place ≡ Some m → get_or hashes place 0 ≡ hash_of m
hash_at messages hashes hashed place m at = get_or_from_slice_get hashes place (hash_of m) 0 (ap (λ l. slice_get l place) (sym hashed) ∙ slice_get-map hash_of messages place ∙ ap (option_map hash_of) at)

pub as_many : (messages : List Message) (hashes : List ℕ) → map hash_of messages ≡ hashes → length messages ≡ length hashes
as_many messages hashes hashed = sym (length-map messages hash_of) ∙ ap length hashed

pub contains_at : {X : Type 0} (xs : List X) (place : ℕ) (x : X) → slice_get xs place ≡ Some x → Contains xs x
contains_at xs place x at = (place, slice_get_within xs place x at, get_or_from_slice_get xs place x x at)

pub at_contained : {X : Type 0} (xs : List X) (x : X) → Contains xs x → (place : ℕ) × (slice_get xs place ≡ Some x)
at_contained xs x c = (c.0, slice_get-get_or xs c.0 x c.1 ∙ ap Some c.2)

-- The message is at no place from this number on, and the one of this number is in its bucket.
pub record IsPassed (messages : List Message) (hashes : List ℕ) (buckets : ℕ) (m : Message) (number : ℕ) : Type 0 where
  pub within : number ≤ length hashes
  pub here : (place : ℕ) → number ≡ suc place → get_or hashes place 0 % buckets ≡ hash_of m % buckets
  pub none : (place : ℕ) → number ≤ place → slice_get messages place ≡ Some m → ⊥

module _ (messages : List Message) (hashes last before : List ℕ) (ix : IsIndex messages hashes last before) (m : Message) where
  within : (place : ℕ) → slice_get messages place ≡ Some m → place < length hashes
  within place at = let few = slice_get_within messages place m at in let same = as_many messages hashes ix.hashed in omega (arith, few, same)

  bucket_at : (place : ℕ) → slice_get messages place ≡ Some m → get_or hashes place 0 % length last ≡ hash_of m % length last
  bucket_at place at = ap (λ h. h % length last) (hash_at messages hashes ix.hashed place m at)

  pub passed_first : (bucket : ℕ) → bucket < length last → bucket ≡ hash_of m % length last → IsPassed messages hashes (length last) m (get_or last bucket 0)
  passed_first bucket few is =
      let l = ix.ends bucket few in
      record {
        within = l.within;
        here = λ place e. l.here place e ∙ is;
        none = λ place past at. l.none place past (within place at) (bucket_at place at ∙ sym is);
      }

  pub passed_next : (place : ℕ) → IsPassed messages hashes (length last) m (suc place) → (slice_get messages place ≡ Some m → ⊥) → IsPassed messages hashes (length last) m (get_or before place 0)
  passed_next place p not_here =
      let few : place < length hashes = omega (arith, p.within) in
      let l = ix.steps place few in
      let same = p.here place refl in
      record {
        within = omega (arith, l.within, few);
        here = λ q e. l.here q e ∙ same;
        none = λ q past at. by q past at (cases_lt q place);
      }
    where
      by : (q : ℕ) → get_or before place 0 ≤ q → slice_get messages q ≡ Some m → (q < place) ⊎ (place ≤ q) → ⊥
      by q past at (inl less) =
          let few : place < length hashes = omega (arith, p.within) in
          (ix.steps place few).none q past less (bucket_at q at ∙ sym (p.here place refl))
      by q past at (inr more) = from (cases_lt place q)
        where
          from : (place < q) ⊎ (q ≤ place) → ⊥
          from (inl beyond) = let beyond_it : suc place ≤ q = omega arith in p.none q beyond_it at
          from (inr under) = let same : q ≡ place = omega arith in not_here (subst (λ k. slice_get messages k ≡ Some m) same at)
