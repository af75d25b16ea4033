-- Lemmas: the element at a place of a list.
use Rattle.std.proofs.Common.{◌≡◌, ℕ, zero, suc, ◌<◌, ◌≤◌, arith, length, take, List, [], ◌∷◌, drop, Option, Some, None, refl, sym, ap, ◌∙◌, slice_get}

pub drop_nothing : {X : Type 0} (k : ℕ) → drop k (let none : List X = [] in none) ≡ []
drop_nothing zero = refl
drop_nothing (suc k) = refl

pub drop_at : {X : Type 0} (xs : List X) (k : ℕ) (x : X) → slice_get xs k ≡ Some x → drop k xs ≡ x ∷ drop (suc k) xs
drop_at [] k x e = absurd cc
drop_at (y ∷ ys) zero x e = let same : y ≡ x = cc in ap (λ z. z ∷ ys) same
drop_at (y ∷ ys) (suc k) x e = drop_at ys k x e

pub drop_past : {X : Type 0} (xs : List X) (k : ℕ) → slice_get xs k ≡ None → drop k xs ≡ []
drop_past [] k e = drop_nothing k
drop_past (y ∷ ys) zero e = absurd cc
drop_past (y ∷ ys) (suc k) e = drop_past ys k e

pub some_at : {X : Type 0} (xs : List X) (k : ℕ) → k < length xs → (x : X) × (slice_get xs k ≡ Some x)
some_at [] k few = absurd (omega (arith, few))
some_at (x ∷ xs) zero few = (x, refl)
some_at (x ∷ xs) (suc k) few = let fewer : k < length xs = omega (arith, few) in some_at xs k fewer

pub take_all : {X : Type 0} (xs : List X) (k : ℕ) → length xs ≤ k → take k xs ≡ xs
take_all [] zero all = refl
take_all [] (suc k) all = refl
take_all (x ∷ xs) zero all = absurd (omega (arith, all))
take_all (x ∷ xs) (suc k) all = let fewer : length xs ≤ k = omega (arith, all) in ap (λ l. x ∷ l) (take_all xs k fewer)
