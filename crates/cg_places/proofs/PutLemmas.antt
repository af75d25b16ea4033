-- Functions of a number that are changed at one, and lists with one more item.
use Rattle.std.proofs.Common.{◌≡◌, ◌≢◌, ℕ, zero, suc, ◌+◌, ◌⊎◌, inl, inr, List, [], ◌∷◌, ◌++◌, length, refl, sym, subst, arith, Bool, true, false, Some, length-append}
use Rattle.std.specs.Prelude.{slice_get, ◌==◌, cond}
use Rattle.std.proofs.lemmas.Bool.Decides.{nat_tests}
use Rattle.cg_entry.specs.History.{at_place}
use Rattle.cg_places.specs.PlaceWorld.{put_at}

pub same_number : (m n : ℕ) → (m == n) ≡ true → m ≡ n
same_number m n e = grind (arith, nat_tests)

other_number : (m n : ℕ) → (m == n) ≡ false → m ≢ n
other_number m n e = grind (arith, nat_tests)

pub test_same : (n : ℕ) → (n == n) ≡ true
test_same n = grind (arith, nat_tests)

pub test_other : (m n : ℕ) → m ≢ n → (m == n) ≡ false
test_other m n e = grind (arith, nat_tests)

module _ {A : Type 0} where
  pub put_at_here : (f : ℕ → A) (n : ℕ) (x : A) → put_at f n x n ≡ x
  put_at_here f n x = rw (test_same n) refl

  pub put_at_other : (f : ℕ → A) (n : ℕ) (x : A) (m : ℕ) → m ≢ n → put_at f n x m ≡ f m
  put_at_other f n x m apart = rw (test_other m n apart) refl

  split_at : (P : ℕ → A → Type 0) (f : ℕ → A) (n : ℕ) (x : A) → P n x → ((m : ℕ) → m ≢ n → P m (f m)) → (m : ℕ) (b : Bool) → (m == n) ≡ b → P m (cond b x (f m))
  split_at P f n x here other m true e = subst (λ k. P k x) (sym (same_number m n e)) here
  split_at P f n x here other m false e = other m (other_number m n e)

  -- a property at the changed number and at the others is one of all numbers
  pub put_at-each : (P : ℕ → A → Type 0) (f : ℕ → A) (n : ℕ) (x : A) → P n x → ((m : ℕ) → m ≢ n → P m (f m)) → (m : ℕ) → P m (put_at f n x m)
  put_at-each P f n x here other m = split_at P f n x here other m (m == n) refl

  -- ---- lists

  pub length_push : (xs : List A) (y : A) → length (xs ++ y ∷ []) ≡ length xs + 1
  length_push xs y = length-append xs (y ∷ [])

  -- an item of a list with one more at its end is an earlier one or that one
  pub slice_get_push : (xs : List A) (y : A) (k : ℕ) (z : A) → slice_get (xs ++ y ∷ []) k ≡ Some z → (slice_get xs k ≡ Some z) ⊎ (z ≡ y)
  slice_get_push [] y zero z e = inr cc
  slice_get_push [] y (suc k) z e = cc
  slice_get_push (x ∷ xs) y zero z e = inl e
  slice_get_push (x ∷ xs) y (suc k) z e = slice_get_push xs y k z e

  pub at_place_push : (xs : List A) (y : A) (p : ℕ) (z : A) → at_place (xs ++ y ∷ []) p ≡ Some z → (at_place xs p ≡ Some z) ⊎ (z ≡ y)
  at_place_push xs y zero z e = inl e
  at_place_push xs y (suc k) z e = slice_get_push xs y k z e

  -- the item at a place is at that place in each longer list
  pub at_place_longer : (xs ys : List A) (p : ℕ) (z : A) → at_place xs p ≡ Some z → at_place (xs ++ ys) p ≡ Some z
  at_place_longer xs ys zero z e = cc
  at_place_longer [] ys (suc p) z e = cc
  at_place_longer (x ∷ xs) ys (suc zero) z e = e
  at_place_longer (x ∷ xs) ys (suc (suc p)) z e = at_place_longer xs ys (suc p) z e
