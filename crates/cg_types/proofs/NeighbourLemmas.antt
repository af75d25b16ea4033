-- A list rises if each member's key is less than the next one's.
use Rattle.std.proofs.Common.{◌≡◌, ℕ, zero, suc, ◌+◌, ◌<◌, Bool, true, false, List, [], ◌∷◌, length, map, get_or, Option, Some, None, refl, sym, ap, subst, arith, nat_lt}
use Rattle.std.specs.Prelude.{◌&&◌}
use Rattle.std.specs.List.{IsAllAdjacentAnswer}
use Rattle.cg_types.specs.Rising.{is_past, rise_past}
use Rattle.cg_types.proofs.RisingLemmas.{both}

not_both : (a b : Bool) → b ≡ false → (a && b) ≡ false
not_both true b e = e
not_both false b e = refl

place_after : (k : ℕ) → suc k + 1 ≡ suc (k + 1)
place_after k = omega arith

module _ {X : Type 0} (key : X → ℕ) where
  -- a test for a key at one place less than the key at another
  abbrev is_less_at : List X → X → ℕ → ℕ → Bool
  is_less_at xs d i j = nat_lt (key (get_or xs i d)) (key (get_or xs j d))

  behind : (b : Bool) (x : X) (xs : List X) (k : ℕ) (d : X) → b ≡ is_less_at (x ∷ xs) d (suc k) (suc k + 1) → b ≡ is_less_at xs d k (k + 1)
  behind b x xs k d e = subst (λ (j : ℕ). b ≡ is_less_at (x ∷ xs) d (suc k) j) (place_after k) e

  rise_from : (x : X) (xs : List X) → ((k : ℕ) (d : X) → k + 1 < length (x ∷ xs) → true ≡ is_less_at (x ∷ xs) d k (k + 1)) → rise_past (Some (key x)) (map key xs) ≡ true
  rise_from x [] less = refl
  rise_from x (y ∷ ys) less =
      both (nat_lt (key x) (key y)) (rise_past (Some (key y)) (map key ys)) (sym (less 0 x (omega arith)))
      (rise_from y ys (λ k d lt. behind true x (y ∷ ys) k d (less (suc k) d (omega (arith, lt)))))

  fall_at : (last : Option ℕ) (xs : List X) (k : ℕ) → k + 1 < length xs → ((d : X) → false ≡ is_less_at xs d k (k + 1)) → rise_past last (map key xs) ≡ false
  fall_at last [] k lt more = absurd (omega (arith, lt))
  fall_at last (x ∷ []) k lt more = absurd (omega (arith, lt))
  fall_at last (x ∷ y ∷ ys) zero lt more =
      not_both (is_past last (key x)) (rise_past (Some (key x)) (map key (y ∷ ys))) (ap (λ (b : Bool). b && rise_past (Some (key y)) (map key ys)) (sym (more x)))
  fall_at last (x ∷ y ∷ ys) (suc k) lt more =
      not_both (is_past last (key x)) (rise_past (Some (key x)) (map key (y ∷ ys))) (fall_at (Some (key x)) (y ∷ ys) k (omega (arith, lt)) (λ d. behind false x (y ∷ ys) k d (more d)))

  pub neighbours_rise : (xs : List X) (b : Bool) → IsAllAdjacentAnswer (λ x y b. b ≡ nat_lt (key x) (key y)) xs b → b ≡ rise_past None (map key xs)
  neighbours_rise [] true less = refl
  neighbours_rise (x ∷ xs) true less = sym (rise_from x xs less)
  neighbours_rise xs false less = sym (fall_at None xs less.0 less.1 less.2)
