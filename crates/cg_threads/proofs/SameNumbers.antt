-- Rising numbers with the same members are the same; the numbers of the items that pass a test rise.
use Rattle.std.proofs.Common.{◌≡◌, ℕ, zero, suc, ◌+◌, ◌<◌, ◌⊎◌, inl, inr, Bool, true, false, cond, List, [], ◌∷◌, map, Some, refl, sym, ap, ◌∙◌, subst, arith}
use Rattle.std.specs.Prelude.{slice_get}
use Rattle.std.specs.List.{filter}
use Rattle.std.proofs.lemmas.Option.{same_Some}
use Rattle.cg_threads.specs.Numbers.{numbers_from}

-- ---- rising numbers

abbrev pub In : ℕ → List ℕ → Type 0
In x [] = ⊥
In x (y ∷ ys) = (x ≡ y) ⊎ In x ys

-- each is greater than the one before it, and the first than n
abbrev pub RisesPast : ℕ → List ℕ → Type 0
RisesPast n [] = Unit {0}
RisesPast n (x ∷ xs) = (n < x) × RisesPast x xs

past_all : (n x : ℕ) (xs : List ℕ) → RisesPast n xs → In x xs → n < x
past_all n x [] rises is = absurd is
past_all n x (y ∷ ys) rises (inl here) = let less = rises.0 in omega (arith, less, here)
past_all n x (y ∷ ys) rises (inr there) = let less = rises.0 in let rest = past_all y x ys rises.1 there in omega (arith, less, rest)

-- a member of the longer lists is in the rest
narrowed : (x y z : ℕ) (xs ys : List ℕ) → x ≡ y → RisesPast x xs → In z xs → In z (y ∷ ys) → In z ys
narrowed x y z xs ys same rises is (inl here) = absurd (let less = past_all x z xs rises is in omega (arith, less, here, same))
narrowed x y z xs ys same rises is (inr there) = there

first_same : (x y : ℕ) (xs ys : List ℕ) → RisesPast x xs → RisesPast y ys → In x (y ∷ ys) → In y (x ∷ xs) → x ≡ y
first_same x y xs ys a b (inl here) q = here
first_same x y xs ys a b (inr there) (inl here) = sym here
first_same x y xs ys a b (inr there) (inr other) = absurd (let p = past_all y x ys b there in let q = past_all x y xs a other in omega (arith, p, q))

pub same_members : (n m : ℕ) (xs ys : List ℕ) → RisesPast n xs → RisesPast m ys → ((x : ℕ) → In x xs → In x ys) → ((x : ℕ) → In x ys → In x xs) → xs ≡ ys
same_members n m [] [] a b to from = refl
same_members n m [] (y ∷ ys) a b to from = absurd (from y (inl refl))
same_members n m (x ∷ xs) [] a b to from = absurd (to x (inl refl))
same_members n m (x ∷ xs) (y ∷ ys) a b to from =
    let first = first_same x y xs ys a.1 b.1 (to x (inl refl)) (from y (inl refl)) in
    let rest = same_members x y xs ys a.1 b.1 (λ z is. narrowed x y z xs ys first a.1 is (to z (inr is))) (λ z is. narrowed y x z ys xs (sym first) b.1 is (from z (inr is))) in
    ap (λ z. z ∷ xs) first ∙ ap (λ zs. y ∷ zs) rest

-- ---- the numbers of those that pass, by their places

module _ {A : Type 0} (passes : A → Bool) where
  earlier : (n m : ℕ) (xs : List ℕ) → n < m → RisesPast m xs → RisesPast n xs
  earlier n m [] less rises = tt
  earlier n m (x ∷ xs) less rises = ((let next = rises.0 in omega (arith, less, next)), rises.1)

  pub places_rise : (n m : ℕ) (xs : List A) → n < m → RisesPast n (numbers_from m passes xs)
  places_rise n m [] less = tt
  places_rise n m (x ∷ xs) less = by (places_rise m (suc m) xs (omega arith)) (passes x)
    where
      by : RisesPast m (numbers_from (suc m) passes xs) → (b : Bool) → RisesPast n (cond b (m ∷ numbers_from (suc m) passes xs) (numbers_from (suc m) passes xs))
      by rest true = (less, rest)
      by rest false = earlier n m (numbers_from (suc m) passes xs) less rest

  -- one that passes is at the number's place
  abbrev pub PassesAt : ℕ → List A → ℕ → Type 0
  PassesAt n xs number = (k : ℕ) × (x : A) × (slice_get xs k ≡ Some x) × (passes x ≡ true) × (number ≡ n + k)

  further : (n number : ℕ) (x : A) (xs : List A) → PassesAt (suc n) xs number → PassesAt n (x ∷ xs) number
  further n number x xs at = (suc at.0, at.1, at.2, at.3, (let is = at.4 in omega (arith, is)))

  pub place_passes : (n number : ℕ) (xs : List A) → In number (numbers_from n passes xs) → PassesAt n xs number
  place_passes n number [] is = absurd is
  place_passes n number (x ∷ xs) is = by (place_passes (suc n) number xs) (passes x) refl is
    where
      by : (In number (numbers_from (suc n) passes xs) → PassesAt (suc n) xs number) → (b : Bool) → passes x ≡ b → In number (cond b (n ∷ numbers_from (suc n) passes xs) (numbers_from (suc n) passes xs)) → PassesAt n (x ∷ xs) number
      by rest true one (inl here) = (0, x, refl, one, omega (arith, here))
      by rest true one (inr there) = further n number x xs (rest there)
      by rest false one there = further n number x xs (rest there)

  pub passes_in_place : (n number : ℕ) (xs : List A) (k : ℕ) (x : A) → slice_get xs k ≡ Some x → passes x ≡ true → number ≡ n + k → In number (numbers_from n passes xs)
  passes_in_place n number [] k x at one is = absurd cc
  passes_in_place n number (y ∷ ys) zero x at one is =
      let pass : passes y ≡ true = ap passes (same_Some y x at) ∙ one in
      subst (λ (b : Bool). In number (cond b (n ∷ numbers_from (suc n) passes ys) (numbers_from (suc n) passes ys))) (sym pass) (inl (omega (arith, is)))
  passes_in_place n number (y ∷ ys) (suc k) x at one is = by (passes y) (passes_in_place (suc n) number ys k x at one (omega (arith, is)))
    where
      by : (b : Bool) → In number (numbers_from (suc n) passes ys) → In number (cond b (n ∷ numbers_from (suc n) passes ys) (numbers_from (suc n) passes ys))
      by true there = inr there
      by false there = there

  -- ---- the numbers that those that pass have

  module _ (number : A → ℕ) where
    abbrev pub numbers_of_passing : List A → List ℕ
    numbers_of_passing xs = map number (filter passes xs)

    -- of two that pass, the later one has the greater number
    abbrev pub PassingRise : List A → Type 0
    PassingRise xs = (i j : ℕ) (x y : A) → slice_get xs i ≡ Some x → slice_get xs j ≡ Some y → i < j → passes x ≡ true → passes y ≡ true → number x < number y

    pub passing_rise : (n : ℕ) (xs : List A) → PassingRise xs → ((k : ℕ) (x : A) → slice_get xs k ≡ Some x → passes x ≡ true → n < number x) → RisesPast n (numbers_of_passing xs)
    passing_rise n [] pairs past = tt
    passing_rise n (x ∷ xs) pairs past = by (λ m. passing_rise m xs (λ i j y z at_i at_j less. pairs (suc i) (suc j) y z at_i at_j (omega (arith, less)))) (passes x) refl
      where
        by : ((m : ℕ) → ((k : ℕ) (y : A) → slice_get xs k ≡ Some y → passes y ≡ true → m < number y) → RisesPast m (numbers_of_passing xs))
            → (b : Bool) → passes x ≡ b → RisesPast n (map number (cond b (x ∷ filter passes xs) (filter passes xs)))
        by rest true one = (past 0 x refl one, rest (number x) (λ k y at two. pairs 0 (suc k) x y refl at (omega arith) one two))
        by rest false one = rest n (λ k y at two. past (suc k) y at two)

    -- one that passes has the number
    abbrev pub PassesWith : List A → ℕ → Type 0
    PassesWith xs n = (k : ℕ) × (x : A) × (slice_get xs k ≡ Some x) × (passes x ≡ true) × (n ≡ number x)

    with_more : (x : A) (xs : List A) (n : ℕ) → PassesWith xs n → PassesWith (x ∷ xs) n
    with_more x xs n at = (suc at.0, at.1, at.2, at.3, at.4)

    pub passing_with : (n : ℕ) (xs : List A) → In n (numbers_of_passing xs) → PassesWith xs n
    passing_with n [] is = absurd is
    passing_with n (x ∷ xs) is = by (passing_with n xs) (passes x) refl is
      where
        by : (In n (numbers_of_passing xs) → PassesWith xs n) → (b : Bool) → passes x ≡ b → In n (map number (cond b (x ∷ filter passes xs) (filter passes xs))) → PassesWith (x ∷ xs) n
        by rest true one (inl here) = (0, x, refl, one, here)
        by rest true one (inr there) = with_more x xs n (rest there)
        by rest false one there = with_more x xs n (rest there)

    pub with_passing : (n : ℕ) (xs : List A) (k : ℕ) (x : A) → slice_get xs k ≡ Some x → passes x ≡ true → n ≡ number x → In n (numbers_of_passing xs)
    with_passing n [] k x at one is = absurd cc
    with_passing n (y ∷ ys) zero x at one is =
        let same = same_Some y x at in
        let pass : passes y ≡ true = ap passes same ∙ one in
        subst (λ (b : Bool). In n (map number (cond b (y ∷ filter passes ys) (filter passes ys)))) (sym pass) (inl (is ∙ ap number (sym same)))
    with_passing n (y ∷ ys) (suc k) x at one is = by (passes y) (with_passing n ys k x at one is)
      where
        by : (b : Bool) → In n (numbers_of_passing ys) → In n (map number (cond b (y ∷ filter passes ys) (filter passes ys)))
        by true there = inr there
        by false there = there
