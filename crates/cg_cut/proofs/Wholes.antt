-- The length of the whole lines of texts one behind the other.
use Rattle.std.proofs.Common.{◌≡◌, ◌⊎◌, inl, inr, ℕ, zero, suc, ◌+◌, ◌≤◌, Bool, true, false, cond, List, [], ◌∷◌, ◌++◌, length, take, refl, sym, ap, ◌∙◌, arith, eqb-true}
use Rattle.std.specs.Prelude.{◌==◌}
use Rattle.cg_cut.specs.Whole.{length_behind, whole_length}

-- one byte behind a text
with_feed : (xs : List ℕ) → whole_length (xs ++ 10 ∷ []) ≡ suc (length xs)
with_feed [] = refl
with_feed (x ∷ xs) = ap (length_behind x) (with_feed xs)

pub last_feed : (xs : List ℕ) (b : ℕ) → b ≡ 10 → whole_length (xs ++ b ∷ []) ≡ length (xs ++ b ∷ [])
last_feed xs b is = ap (λ (x : ℕ). whole_length (xs ++ x ∷ [])) is ∙ with_feed xs ∙ counts xs
  where
    counts : (ys : List ℕ) → suc (length ys) ≡ length (ys ++ b ∷ [])
    counts [] = refl
    counts (y ∷ ys) = ap (λ (n : ℕ). suc n) (counts ys)

pub last_other : (xs : List ℕ) (b : ℕ) → (b ≡ 10 → ⊥) → whole_length (xs ++ b ∷ []) ≡ whole_length xs
last_other [] b not = by (b == 10) refl
  where
    by : (is : Bool) → (b == 10) ≡ is → ◌≡◌ {A = ℕ} (cond is 1 0) 0
    by true is = absurd (not (eqb-true b 10 is))
    by false is = refl
last_other (x ∷ xs) b not = ap (length_behind x) (last_other xs b not)

-- a piece with a line feed behind a text, and one without
pub piece_with : (xs ys : List ℕ) (n : ℕ) → whole_length ys ≡ suc n → whole_length (xs ++ ys) ≡ length xs + suc n
piece_with [] ys n is = let same : suc n ≡ 0 + suc n = omega arith in is ∙ same
piece_with (x ∷ xs) ys n is =
    let more : length xs + suc n ≡ suc (length xs + n) = omega arith in
    let all : suc (suc (length xs + n)) ≡ suc (length xs) + suc n = omega arith in
    ap (length_behind x) (piece_with xs ys n is ∙ more) ∙ all

pub piece_without : (xs ys : List ℕ) → whole_length ys ≡ 0 → whole_length (xs ++ ys) ≡ whole_length xs
piece_without [] ys is = is
piece_without (x ∷ xs) ys is = ap (length_behind x) (piece_without xs ys is)

module _ (ys : List ℕ) (n whole read : ℕ) (is : n ≡ whole_length ys) (text : List ℕ) (long : length text ≡ read) (was : whole_length text ≡ whole) where
  pub behind_none : n ≡ 0 → whole_length (text ++ ys) ≡ whole
  behind_none none = piece_without text ys (sym is ∙ none) ∙ was

  by_length : (k : ℕ) → whole_length ys ≡ k → (k ≡ 0 → ⊥) → whole_length (text ++ ys) ≡ length text + k
  by_length zero at some = absurd (some refl)
  by_length (suc k) at some = piece_with text ys k at

  pub behind_some : (n ≡ 0 → ⊥) → whole_length (text ++ ys) ≡ read + n
  behind_some some = by_length n (sym is) some ∙ ap (λ (k : ℕ). k + n) long

-- whole lines are no longer than their text
pub whole_short : (text : List ℕ) → whole_length text ≤ length text
whole_short [] = omega arith
whole_short (b ∷ bs) = by (whole_length bs) (whole_short bs)
  where
    one : (is : Bool) → cond is 1 0 ≤ suc (length bs)
    one true = omega arith
    one false = omega arith

    by : (n : ℕ) → n ≤ length bs → length_behind b n ≤ suc (length bs)
    by zero less = one (b == 10)
    by (suc n) less = omega (arith, less)

-- there are no whole lines, or they end with a line feed
pub whole_ends : (text : List ℕ) → (whole_length text ≡ 0) ⊎ ((front : List ℕ) × (take (whole_length text) text ≡ front ++ 10 ∷ []))
whole_ends [] = inl refl
whole_ends (b ∷ bs) = by (whole_length bs) (whole_ends bs)
  where
    one : (is : Bool) → (b == 10) ≡ is → (◌≡◌ {A = ℕ} (cond is 1 0) 0) ⊎ ((front : List ℕ) × (take (cond is 1 0) (b ∷ bs) ≡ front ++ 10 ∷ []))
    one true is = inr ([], ap (λ (x : ℕ). x ∷ []) (eqb-true b 10 is))
    one false is = inl refl

    by : (n : ℕ) → (n ≡ 0) ⊎ ((front : List ℕ) × (take n bs ≡ front ++ 10 ∷ [])) → (length_behind b n ≡ 0) ⊎ ((front : List ℕ) × (take (length_behind b n) (b ∷ bs) ≡ front ++ 10 ∷ []))
    by zero ends = one (b == 10) refl
    by (suc n) (inl none) = absurd cc
    by (suc n) (inr (front, is)) = inr (b ∷ front, ap (λ (l : List ℕ). b ∷ l) is)
