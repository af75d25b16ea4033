-- Receipts of several callers, one list after the other, are confirmed if each list is.
use Rattle.std.proofs.Common.{◌≡◌, ℕ, zero, suc, ◌+◌, ◌<◌, ◌≤◌, ◌⊎◌, inl, inr, List, [], ◌∷◌, ◌++◌, length, take, Some, refl, sym, ap, ◌∙◌, subst, arith}
use Rattle.std.specs.Prelude.{slice_get}
use Rattle.std.specs.List.{All}
use Rattle.std.proofs.lemmas.Option.{same_Some, slice_get_within}
use Rattle.std.proofs.lemmas.List.Elements.{All-append, All-weaker, All-head, All-tail, All-take}
use Rattle.cg_history.specs.declared.item.Item.{Item}
use Rattle.cg_history.specs.declared.item.Receipt.{Receipt}
use Rattle.cg_history.specs.declared.item.UnconfirmedReceipt.{UnconfirmedReceipt}
use Rattle.cg_history.specs.Confirming.{ComesAfter, ComesAfterAll, IsConfirmed, AreConfirmed, IsFirstUnconfirmed}
use Rattle.cg_threads.specs.Ran.{IsUnconfirmedBehind}

-- ---- members of two lists, one after the other

abbrev AtEither : List Receipt → List Receipt → ℕ → Receipt → Type 0
AtEither xs ys k r = ((k < length xs) × (slice_get xs k ≡ Some r)) ⊎ ((j : ℕ) × (k ≡ length xs + j) × (slice_get ys j ≡ Some r))

next_either : (x : Receipt) (xs ys : List Receipt) (k : ℕ) (r : Receipt) → AtEither xs ys k r → AtEither (x ∷ xs) ys (suc k) r
next_either x xs ys k r (inl a) = inl ((let l = a.0 in omega (arith, l)), a.1)
next_either x xs ys k r (inr a) = inr (a.0, (let e = a.1 in omega (arith, e)), a.2)

at_either : (xs ys : List Receipt) (k : ℕ) (r : Receipt) → slice_get (xs ++ ys) k ≡ Some r → AtEither xs ys k r
at_either [] ys k r at = inr (k, omega arith, at)
at_either (x ∷ xs) ys zero r at = inl (omega arith, at)
at_either (x ∷ xs) ys (suc k) r at = next_either x xs ys k r (at_either xs ys k r at)

in_first : (xs ys : List Receipt) (k : ℕ) (r : Receipt) → slice_get xs k ≡ Some r → slice_get (xs ++ ys) k ≡ Some r
in_first [] ys k r at = absurd cc
in_first (x ∷ xs) ys zero r at = at
in_first (x ∷ xs) ys (suc k) r at = in_first xs ys k r at

in_second : (xs ys : List Receipt) (j : ℕ) (r : Receipt) → slice_get ys j ≡ Some r → slice_get (xs ++ ys) (length xs + j) ≡ Some r
in_second [] ys j r at = let same : j ≡ 0 + j = omega arith in subst (λ (k : ℕ). slice_get ys k ≡ Some r) same at
in_second (x ∷ xs) ys j r at = let next : suc (length xs + j) ≡ length (x ∷ xs) + j = omega arith in subst (λ (k : ℕ). slice_get (x ∷ (xs ++ ys)) k ≡ Some r) next (in_second xs ys j r at)

take_first : (xs ys : List Receipt) (k : ℕ) → k ≤ length xs → take k (xs ++ ys) ≡ take k xs
take_first xs ys zero le = refl
take_first [] ys (suc k) le = absurd (omega (arith, le))
take_first (x ∷ xs) ys (suc k) le = ap (λ zs. x ∷ zs) (take_first xs ys k (omega (arith, le)))

take_second : (xs ys : List Receipt) (j : ℕ) → take (length xs + j) (xs ++ ys) ≡ xs ++ take j ys
take_second [] ys j = let same : 0 + j ≡ j = omega arith in ap (λ (n : ℕ). take n ys) same
take_second (x ∷ xs) ys j =
    let next : length (x ∷ xs) + j ≡ suc (length xs + j) = omega arith in
    ap (λ (n : ℕ). take n (x ∷ (xs ++ ys))) next ∙ ap (λ zs. x ∷ zs) (take_second xs ys j)

-- ---- of a caller, after callers with smaller numbers

abbrev pub Below : ℕ → List Receipt → Type 0
Below c qs = All (λ (q : Receipt). q.caller < c) qs

abbrev pub Own : ℕ → List Receipt → Type 0
Own c qs = All (λ (q : Receipt). q.caller ≡ c) qs

own_at : (c : ℕ) (ys : List Receipt) (j : ℕ) (r : Receipt) → Own c ys → slice_get ys j ≡ Some r → r.caller ≡ c
own_at c [] j r own at = absurd cc
own_at c (y ∷ ys) zero r own at = subst (λ (q : Receipt). q.caller ≡ c) (same_Some y r at) (All-head (λ (q : Receipt). q.caller ≡ c) y ys own)
own_at c (y ∷ ys) (suc j) r own at = own_at c ys j r (All-tail (λ (q : Receipt). q.caller ≡ c) y ys own) at

-- it follows others with smaller callers
follows_below : (c : ℕ) (xs : List Receipt) (r : Receipt) → Below c xs → r.caller ≡ c → ComesAfterAll xs r
follows_below c xs r below own =
    All-weaker (λ (q : Receipt). q.caller < c) (λ q. ComesAfter q r) (λ q less same. absurd (omega (arith, less, same, own))) xs below

follows_part : (xs ys : List Receipt) (r : Receipt) → ComesAfterAll (xs ++ ys) r → ComesAfterAll ys r
follows_part [] ys r follows = follows
follows_part (x ∷ xs) ys r follows = follows_part xs ys r (All-tail (λ q. ComesAfter q r) x (xs ++ ys) follows)

module _ (folded : ℕ) (records : List Item) (c : ℕ) (xs : List Receipt) (all : AreConfirmed folded records xs) (below : Below c xs) where
  pub confirmed_joined : (ys : List Receipt) → Own c ys → AreConfirmed folded records ys → AreConfirmed folded records (xs ++ ys)
  confirmed_joined ys own more k r at = by (at_either xs ys k r at)
    where
      by : AtEither xs ys k r → IsConfirmed folded records (take k (xs ++ ys)) r
      by (inl a) = subst (λ (b : List Receipt). IsConfirmed folded records b r) (sym (take_first xs ys k (let l = a.0 in omega (arith, l)))) (all k r a.1)
      by (inr a) =
          let one = more a.0 r a.2 in
          let there : take k (xs ++ ys) ≡ xs ++ take a.0 ys = ap (λ (n : ℕ). take n (xs ++ ys)) a.1 ∙ take_second xs ys a.0 in
          subst (λ (b : List Receipt). IsConfirmed folded records b r) (sym there)
          (record { stands = one.stands; follows = All-append (λ q. ComesAfter q r) xs (take a.0 ys) (follows_below c xs r below (own_at c ys a.0 r own a.2)) one.follows })

  own_take : (ys : List Receipt) (k : ℕ) → Own c ys → Own c (take k ys)
  own_take ys k own = All-take (λ (q : Receipt). q.caller ≡ c) k ys own

  pub unconfirmed_behind : (ys : List Receipt) (before : ℕ) (s : UnconfirmedReceipt) → Own c ys → before ≡ length xs → IsUnconfirmedBehind before folded records ys s → IsFirstUnconfirmed folded records (xs ++ ys) s
  unconfirmed_behind ys before s own long behind =
      let place = behind.0 in
      let there : s.place ≡ length xs + place = behind.1 ∙ ap (λ (n : ℕ). n + place) long in
      let front : take s.place (xs ++ ys) ≡ xs ++ take place ys = ap (λ (n : ℕ). take n (xs ++ ys)) there ∙ take_second xs ys place in
      let r = behind.2.receipt in
      record {
        before = subst (AreConfirmed folded records) (sym front) (confirmed_joined (take place ys) (own_take ys place own) behind.2.before);
        receipt = r;
        at = subst (λ (n : ℕ). slice_get (xs ++ ys) n ≡ Some r) (sym there) (in_second xs ys place r behind.2.at);
        unconfirmed = λ is. let one = subst (λ (b : List Receipt). IsConfirmed folded records b r) front is in
            behind.2.unconfirmed (record { stands = one.stands; follows = follows_part xs (take place ys) r one.follows });
        why = behind.2.why;
      }

-- the first unconfirmed receipt of a list is that of the list with more after it
pub unconfirmed_before : (folded : ℕ) (records : List Item) (xs ys : List Receipt) (s : UnconfirmedReceipt) → IsFirstUnconfirmed folded records xs s → IsFirstUnconfirmed folded records (xs ++ ys) s
unconfirmed_before folded records xs ys s first =
    let r = first.receipt in
    let within = slice_get_within xs s.place r first.at in
    let front : take s.place (xs ++ ys) ≡ take s.place xs = take_first xs ys s.place (omega (arith, within)) in
    record {
      before = subst (AreConfirmed folded records) (sym front) first.before;
      receipt = r;
      at = in_first xs ys s.place r first.at;
      unconfirmed = λ is. first.unconfirmed (subst (λ (b : List Receipt). IsConfirmed folded records b r) front is);
      why = first.why;
    }
