-- The member at a place of a list.
use Rattle.std.proofs.Common.{◌≡◌, ℕ, zero, suc, ◌<◌, ◌≤◌, List, [], ◌∷◌, ◌++◌, length, Some, None, refl, sym, arith}
use Rattle.std.proofs.lemmas.Option.{slice_get_within}
use Rattle.cg_types.specs.ListPlace.{at_place}

module _ {A : Type 0} where
  pub at_place_within : (xs : List A) (p : ℕ) (x : A) → at_place xs p ≡ Some x → (0 < p) × (p ≤ length xs)
  at_place_within xs zero x e = cc
  at_place_within xs (suc p) x e = (omega arith, slice_get_within xs p x e)

  pub at_place_some : (xs : List A) (p : ℕ) → 0 < p → p ≤ length xs → (x : A) × (at_place xs p ≡ Some x)
  at_place_some xs zero l h = absurd (omega arith)
  at_place_some [] (suc p) l h = absurd (omega arith)
  at_place_some (x ∷ xs) (suc zero) l h = (x, refl)
  at_place_some (x ∷ xs) (suc (suc p)) l h = at_place_some xs (suc p) (omega arith) (omega arith)

  pub at_place-append : (xs ys : List A) (p : ℕ) → p ≤ length xs → at_place (xs ++ ys) p ≡ at_place xs p
  at_place-append xs ys zero h = refl
  at_place-append [] ys (suc p) h = absurd (omega arith)
  at_place-append (x ∷ xs) ys (suc zero) h = refl
  at_place-append (x ∷ xs) ys (suc (suc p)) h = at_place-append xs ys (suc p) (omega arith)

  pub at_place_last : (xs : List A) (y : A) → at_place (xs ++ y ∷ []) (suc (length xs)) ≡ Some y
  at_place_last [] y = refl
  at_place_last (x ∷ xs) y = at_place_last xs y

  none_at : (xs : List A) (p q : ℕ) → p ≤ length xs → at_place xs p ≡ None → q ≡ p → p ≡ 0
  none_at xs p zero l e same = sym same
  none_at xs p (suc q) l e same = absurd (let some = at_place_some xs p (omega (arith, same)) l in let f = some.1 in cc)

  pub at_place_none : (xs : List A) (p : ℕ) → p ≤ length xs → at_place xs p ≡ None → p ≡ 0
  at_place_none xs p l e = none_at xs p p l e refl
