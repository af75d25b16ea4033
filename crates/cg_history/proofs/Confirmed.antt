-- Receipts that come one after the other.
use Rattle.std.proofs.Common.{◌≡◌, ◌≢◌, ℕ, zero, suc, ◌+◌, ◌<◌, ◌≤◌, ◌⊎◌, inl, inr, List, [], ◌∷◌, ◌++◌, length, take, Some, refl, sym, ap, ◌∙◌, subst, arith, get_or}
use Rattle.std.specs.Prelude.{slice_get}
use Rattle.std.proofs.lemmas.Option.{same_Some, slice_get_within, get_or_from_slice_get}
use Rattle.cg_history.specs.declared.item.Item.{Item}
use Rattle.cg_history.specs.declared.item.Receipt.{Receipt}
use Rattle.cg_history.specs.Confirming.{ComesAfter, ComesAfterAll, AreInOrder, IsConfirmed, AreConfirmed}

-- an element before a place is among the elements before it
pub at_take : (xs : List Receipt) (i j : ℕ) (q : Receipt) → i < j → slice_get xs i ≡ Some q → slice_get (take j xs) i ≡ Some q
at_take xs i zero q less is = absurd (omega arith)
at_take [] i (suc j) q less is = absurd cc
at_take (x ∷ xs) zero (suc j) q less is = is
at_take (x ∷ xs) (suc i) (suc j) q less is = at_take xs i j q (omega arith) is

-- a receipt comes after each that it follows
pub within_follows : (before : List Receipt) (i : ℕ) (q r : Receipt) → ComesAfterAll before r → slice_get before i ≡ Some q → ComesAfter q r
within_follows before i q r follows is =
    subst (λ (p : Receipt). ComesAfter p r) (get_or_from_slice_get before i q q is) (follows i q (slice_get_within before i q is))

-- the element at a place
pub at_place_within : (xs : List Receipt) (i : ℕ) (d : Receipt) → i < length xs → slice_get xs i ≡ Some (get_or xs i d)
at_place_within [] i d less = absurd (omega arith)
at_place_within (x ∷ xs) zero d less = refl
at_place_within (x ∷ xs) (suc i) d less = at_place_within xs i d (omega arith)

-- a receipt follows receipts that are all of other callers
pub follows_others : (before : List Receipt) (r : Receipt) → ((i : ℕ) (q : Receipt) → slice_get before i ≡ Some q → q.caller ≢ r.caller) → ComesAfterAll before r
follows_others before r others i d less = λ same. absurd (others i (get_or before i d) (at_place_within before i d less) same)

three : (i p : ℕ) → (i < p) ⊎ ((i ≡ p) ⊎ (p + 1 ≤ i))
three i p = grind arith

-- one more of another caller
pub others_more : (before : List Receipt) (r near : Receipt) (p : ℕ) → slice_get before p ≡ Some near → near.caller ≢ r.caller
    → ((i : ℕ) (q : Receipt) → p + 1 ≤ i → slice_get before i ≡ Some q → q.caller ≢ r.caller) → (i : ℕ) (q : Receipt) → p ≤ i → slice_get before i ≡ Some q → q.caller ≢ r.caller
others_more before r near p at other rest i q le is = by (three i p)
  where
    by : (i < p) ⊎ ((i ≡ p) ⊎ (p + 1 ≤ i)) → q.caller ≢ r.caller
    by (inl less) = absurd (omega arith)
    by (inr (inl here)) = let one : near ≡ q = same_Some near q (sym at ∙ ap (slice_get before) (sym here) ∙ is) in subst (λ (x : Receipt). x.caller ≢ r.caller) one other
    by (inr (inr past)) = rest i q past is

-- the nearest earlier receipt of the caller decides
module _ (before : List Receipt) (r near : Receipt) (p : ℕ) (order : AreInOrder before) (at : slice_get before p ≡ Some near) (own : near.caller ≡ r.caller)
    (others : (i : ℕ) (q : Receipt) → p + 1 ≤ i → slice_get before i ≡ Some q → q.caller ≢ r.caller) where
  after_one : near.number < r.number → (i : ℕ) (q : Receipt) → slice_get before i ≡ Some q → (i < p) ⊎ ((i ≡ p) ⊎ (p + 1 ≤ i)) → ComesAfter q r
  after_one later i q is (inl less) same =
      let sooner : q.number < near.number = within_follows (take p before) i q near (order p near at) (at_take before i p q less is) (same ∙ sym own) in
      omega (arith, sooner, later)
  after_one later i q is (inr (inl here)) same =
      let one : q ≡ near = same_Some q near (sym is ∙ ap (slice_get before) here ∙ at) in
      subst (λ (x : Receipt). x.number < r.number) (sym one) later
  after_one later i q is (inr (inr past)) same = absurd (others i q past is same)

  pub follows_near : near.number < r.number → ComesAfterAll before r
  follows_near later i d less = after_one later i (get_or before i d) (at_place_within before i d less) (three i p)

  pub near_before : ComesAfterAll before r → near.number < r.number
  near_before follows = within_follows before p near r follows at own

-- ---- one receipt more

-- each element of a list with one more is in the list, or is the one more
at_more : (xs : List Receipt) (x y : Receipt) (k : ℕ) → slice_get (xs ++ x ∷ []) k ≡ Some y → ((k < length xs) × (slice_get xs k ≡ Some y)) ⊎ ((k ≡ length xs) × (x ≡ y))
at_more [] x y zero is = inr (refl, same_Some x y is)
at_more [] x y (suc k) is = absurd cc
at_more (z ∷ zs) x y zero is = inl (omega arith, is)
at_more (z ∷ zs) x y (suc k) is = on (at_more zs x y k is)
  where
    on : ((k < length zs) × (slice_get zs k ≡ Some y)) ⊎ ((k ≡ length zs) × (x ≡ y)) → ((suc k < length (z ∷ zs)) × (slice_get zs k ≡ Some y)) ⊎ ((suc k ≡ length (z ∷ zs)) × (x ≡ y))
    on (inl a) = inl ((let l = a.0 in omega arith), a.1)
    on (inr a) = inr (ap suc a.0, a.1)

take_front : (xs ys : List Receipt) (k : ℕ) → k ≤ length xs → take k (xs ++ ys) ≡ take k xs
take_front xs ys zero le = refl
take_front [] ys (suc k) le = absurd (omega arith)
take_front (x ∷ xs) ys (suc k) le = ap (λ zs. x ∷ zs) (take_front xs ys k (omega arith))

take_whole : (xs : List Receipt) → take (length xs) xs ≡ xs
take_whole [] = refl
take_whole (x ∷ xs) = ap (λ zs. x ∷ zs) (take_whole xs)

-- one receipt more is confirmed
pub confirmed_more : (folded : ℕ) (records : List Item) (before : List Receipt) (r : Receipt) → AreConfirmed folded records before → IsConfirmed folded records before r → AreConfirmed folded records (before ++ r ∷ [])
confirmed_more folded records before r all one k q at = by (at_more before r q k at)
  where
    by : ((k < length before) × (slice_get before k ≡ Some q)) ⊎ ((k ≡ length before) × (r ≡ q)) → IsConfirmed folded records (take k (before ++ r ∷ [])) q
    by (inl a) = subst (λ (b : List Receipt). IsConfirmed folded records b q) (sym (take_front before (r ∷ []) k (let l = a.0 in omega arith))) (all k q a.1)
    by (inr a) =
        let here : take k (before ++ r ∷ []) ≡ before = ap (λ n. take n (before ++ r ∷ [])) a.0 ∙ take_front before (r ∷ []) (length before) (omega arith) ∙ take_whole before in
        subst (λ (b : List Receipt). IsConfirmed folded records b q) (sym here) (subst (λ (x : Receipt). IsConfirmed folded records before x) a.1 one)
