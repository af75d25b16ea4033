-- Positions around a token, and the endpoints that are taken from them.
use Rattle.std.proofs.Common.{◌≡◌, ℕ, zero, suc, ◌-◌, ◌<◌, ◌≤◌, Bool, true, false, cond, ◌==◌, List, [], ◌∷◌, ◌++◌, length, take, drop, get_or, refl, sym, ap, ◌∙◌, arith, append_assoc, nat_lt, None}
use Rattle.std.specs.Prelude.{nat_le, not, filter, ◌&&◌, ◌||◌}
use Rattle.std.specs.List.{AllWithin}
use Rattle.std.specs.List.Sorted.{IsPartitionedBy}
use Rattle.std.proofs.Math.Seq.{take-nil}
use Rattle.std.proofs.lemmas.List.{append-nil, length_push}
use Rattle.std.proofs.lemmas.List.Folds.{list_any-append}
use Rattle.std.proofs.lemmas.List.Sorted.{IsPartitionedBy-ltb}
use Rattle.std.proofs.lemmas.Bool.{leb-true, leb-false, eqb-true}
use Rattle.std.proofs.lemmas.Bool.Decides.{nat_tests}
use Rattle.cg_types.specs.Rising.{Rises, is_among}
use Rattle.cg_types.specs.Rows.{keys_of}
use Rattle.cg_types.proofs.RowLemmas.{keys_lt, filter_none, filter_every}
use Rattle.cg_tokens.specs.Ring.{firsts_until, with_one, firsts, endpoints, walk, replicas}

-- ---- around a token

module _ (p q : ℕ × ℕ → Bool) (other : (x : ℕ × ℕ) → q x ≡ not (p x)) where
  pub front-filter : (xs : List (ℕ × ℕ)) (at : ℕ) → AllWithin (λ x. p x ≡ true) xs 0 at → AllWithin (λ x. p x ≡ false) xs at (length xs) → take at xs ≡ filter p xs
  front-filter [] at t f = take-nil at
  front-filter (x ∷ xs) zero t f = sym (filter_none p (x ∷ xs) f)
  front-filter (x ∷ xs) (suc at) t f =
      let yes : p x ≡ true = t 0 x (omega arith) (omega arith) in
      rw yes (ap (λ (ys : List (ℕ × ℕ)). x ∷ ys) (front-filter xs at (λ k d lo hi. t (suc k) d (omega arith) (omega arith)) (λ k d lo hi. f (suc k) d (omega arith) (omega arith))))

  passes : (x : ℕ × ℕ) → p x ≡ false → q x ≡ true
  passes x e = other x ∙ ap not e

  fails : (x : ℕ × ℕ) → p x ≡ true → q x ≡ false
  fails x e = other x ∙ ap not e

  pub back-filter : (xs : List (ℕ × ℕ)) (at : ℕ) → at ≤ length xs → AllWithin (λ x. p x ≡ true) xs 0 at → AllWithin (λ x. p x ≡ false) xs at (length xs) → drop at xs ≡ filter q xs
  back-filter [] zero le t f = refl
  back-filter [] (suc at) le t f = absurd (omega arith)
  back-filter (x ∷ xs) zero le t f = sym (filter_every q (x ∷ xs) (λ k d lo hi. passes _ (f k d lo hi)))
  back-filter (x ∷ xs) (suc at) le t f =
      let no : q x ≡ false = fails x (t 0 x (omega arith) (omega arith)) in
      rw no (back-filter xs at (omega arith) (λ k d lo hi. t (suc k) d (omega arith) (omega arith)) (λ k d lo hi. f (suc k) d (omega arith) (omega arith)))

-- the positions before a token come before the others
pub parted_at : (token : ℕ) (ps : List (ℕ × ℕ)) → Rises (keys_of ps) → IsPartitionedBy (λ p. nat_lt p.0 token) ps
parted_at token ps rise = IsPartitionedBy-ltb (λ p. p.0) ps token (λ i j d le lt. grind (arith, keys_lt None ps rise i j d, λ (same : i ≡ j). ap (λ (n : ℕ). (get_or ps n d).0) same))

pub not_before : (token n : ℕ) → nat_le token n ≡ not (nat_lt n token)
not_before token n = grind (arith, nat_tests)

-- ---- replicas

taking_full : (rf : ℕ) (taken es : List ℕ) → nat_le rf (length taken) ≡ true → firsts_until rf taken es ≡ taken
taking_full rf taken [] full = refl
taking_full rf taken (e ∷ es) full = rw full refl

appended : (b : Bool) (rf : ℕ) (taken more xs ys : List ℕ) → nat_le rf (length taken) ≡ b → firsts_until rf (firsts_until rf more xs) ys ≡ firsts_until rf more (xs ++ ys) → firsts_until rf (cond b taken (firsts_until rf more xs)) ys ≡ cond b taken (firsts_until rf more (xs ++ ys))
appended true rf taken more xs ys full h = taking_full rf taken ys full
appended false rf taken more xs ys room h = h

pub taking-append : (rf : ℕ) (taken xs ys : List ℕ) → firsts_until rf (firsts_until rf taken xs) ys ≡ firsts_until rf taken (xs ++ ys)
taking-append rf taken [] ys = refl
taking-append rf taken (x ∷ xs) ys = appended (nat_le rf (length taken)) rf taken (with_one taken x) xs ys refl (taking-append rf (with_one taken x) xs ys)

-- a filter of a filter
module _ (p q r : ℕ → Bool) (same : (x : ℕ) → r x ≡ (q x && p x)) where
  kept : (a b c : Bool) (x : ℕ) (xs ys zs : List ℕ) → c ≡ (b && a) → p x ≡ a → filter p xs ≡ zs → filter p (cond b (x ∷ xs) xs) ≡ cond c (x ∷ zs) zs
  kept a false c x xs ys zs e here h = rw e h
  kept true true c x xs ys zs e here h = rw (e, here) (ap (λ (l : List ℕ). x ∷ l) h)
  kept false true c x xs ys zs e here h = rw (e, here) h

  filter-filter : (xs : List ℕ) → filter p (filter q xs) ≡ filter r xs
  filter-filter [] = refl
  filter-filter (x ∷ xs) = kept (p x) (q x) (r x) x (filter q xs) [] (filter r xs) (same x) refl (filter-filter xs)

filter-all : (xs : List ℕ) → filter (λ x. true) xs ≡ xs
filter-all [] = refl
filter-all (x ∷ xs) = ap (λ (l : List ℕ). x ∷ l) (filter-all xs)

-- the endpoints that were not taken before
abbrev is_new : List ℕ → ℕ → Bool
is_new taken e = not (is_among taken e)

apart : (b : Bool) (taken : List ℕ) (e f : ℕ) → is_among taken e ≡ true → (e == f) ≡ b → is_new taken f ≡ (not b && is_new taken f)
apart true taken e f held same = rw (← eqb-true e f same, held) refl
apart false taken e f held other = refl

with_another : (a b : Bool) → not (a || (b || false)) ≡ (not b && not a)
with_another true true = refl
with_another true false = refl
with_another false true = refl
with_another false false = refl

is_new-push : (taken : List ℕ) (e f : ℕ) → is_new (taken ++ e ∷ []) f ≡ (not (e == f) && is_new taken f)
is_new-push taken e f = rw (list_any-append (λ g. g == f) taken (e ∷ [])) (with_another (is_among taken f) (e == f))

-- the endpoints taken further
abbrev further : ℕ → List ℕ → List ℕ → List ℕ
further rf taken es = taken ++ take (rf - length taken) (filter (is_new taken) (firsts es))

taken_before : (rf e : ℕ) (taken es : List ℕ) → is_among taken e ≡ true → further rf taken es ≡ further rf taken (e ∷ es)
taken_before rf e taken es held =
    let none : is_new taken e ≡ false = ap not held in
    rw none (ap (λ (l : List ℕ). taken ++ take (rf - length taken) l) (sym (filter-filter (is_new taken) (λ f. not (e == f)) (is_new taken) (λ f. apart (e == f) taken e f held refl) (firsts es))))

taken_now : (rf e : ℕ) (taken es : List ℕ) → length taken < rf → is_among taken e ≡ false → further rf (taken ++ e ∷ []) es ≡ further rf taken (e ∷ es)
taken_now rf e taken es room free =
    let some : is_new taken e ≡ true = ap not free in
    let one_less : rf - length taken ≡ suc (rf - length (taken ++ e ∷ [])) = omega (arith, length_push taken e) in
    let rest = filter-filter (is_new taken) (λ f. not (e == f)) (is_new (taken ++ e ∷ [])) (is_new-push taken e) (firsts es) in
    rw (some, one_less, rest) (append_assoc taken (e ∷ []) (take (rf - length (taken ++ e ∷ [])) (filter (is_new (taken ++ e ∷ [])) (firsts es))))

nothing_further : (rf : ℕ) (taken es : List ℕ) → rf ≤ length taken → taken ≡ further rf taken es
nothing_further rf taken es full = let none : rf - length taken ≡ 0 = omega arith in rw none (sym (append-nil taken))

step_by : (b : Bool) (rf e : ℕ) (taken es : List ℕ) → length taken < rf → is_among taken e ≡ b → further rf (cond b taken (taken ++ e ∷ [])) es ≡ further rf taken (e ∷ es)
step_by true rf e taken es room held = taken_before rf e taken es held
step_by false rf e taken es room free = taken_now rf e taken es room free

taking_by : (b : Bool) (rf e : ℕ) (taken es rest : List ℕ) → nat_le rf (length taken) ≡ b → rest ≡ further rf (with_one taken e) es → cond b taken rest ≡ further rf taken (e ∷ es)
taking_by true rf e taken es rest full h = nothing_further rf taken (e ∷ es) (leb-true rf (length taken) full)
taking_by false rf e taken es rest room h = h ∙ step_by (is_among taken e) rf e taken es (leb-false rf (length taken) room) refl

taking-further : (rf : ℕ) (taken es : List ℕ) → firsts_until rf taken es ≡ further rf taken es
taking-further rf taken [] = rw (take-nil (rf - length taken)) (sym (append-nil taken))
taking-further rf taken (e ∷ es) = taking_by (nat_le rf (length taken)) rf e taken es (firsts_until rf (with_one taken e) es) refl (taking-further rf (with_one taken e) es)

-- the endpoints taken, from nothing on, are the first of each
pub taking-firsts : (rf : ℕ) (es : List ℕ) → firsts_until rf [] es ≡ take rf (firsts es)
taking-firsts rf es = let whole : rf - 0 ≡ rf = omega arith in taking-further rf [] es ∙ rw (whole, filter-all) refl

-- the endpoints taken from a token on, and then from before it
pub taken_around : (rf token : ℕ) (positions from before : List (ℕ × ℕ)) → from ≡ filter (λ p. nat_le token p.0) positions → before ≡ filter (λ p. nat_lt p.0 token) positions
    → firsts_until rf (firsts_until rf [] (endpoints from)) (endpoints before) ≡ replicas positions token rf
taken_around rf token positions from before later earlier =
    rw (later, earlier) (taking-append rf [] (endpoints (filter (λ p. nat_le token p.0) positions)) (endpoints (filter (λ p. nat_lt p.0 token) positions)) ∙ taking-firsts rf (walk positions token))
