-- Rising keys, of a list of pairs and of a finite map.
use Rattle.std.proofs.Common.{◌≡◌, ℕ, ◌<◌, Bool, true, false, cond, List, [], ◌∷◌, length, ◌++◌, map, Option, Some, None, refl, sym, ap, subst, ◌∙◌, arith, nat_lt, T}
use Rattle.std.specs.Prelude.{◌&&◌}
use Rattle.std.specs.List.{filter, filter_map, cons_option}
use Rattle.std.specs.Ordering.{nat_cmp, is_lt, is_eq, eq_by_cmp}
use Rattle.std.specs.FinMap.Entries.{is_sorted, below_all, find}
use Rattle.std.specs.FinMap.{empty, empty_of_len, len-entries, entries, get, from_sorted, entries-from_sorted, get-from_sorted}
use Rattle.std.specs.Cmp.{nat_cmp_is, ranked}
use Rattle.std.specs.Option.{option_or}
use Rattle.std.specs.declared.cmp.Ordering.{Ordering}
use Rattle.std.specs.declared.cmp.Ordering.TheVariants.{Less, Equal, Greater}
use Rattle.std.proofs.lemmas.Bool.{ltb-true, lt-ltb}
use Rattle.std.specs.Map.{lookup}
use Rattle.std.specs.BTreeMap.{is_at}
use Rattle.cg_types.specs.Rising.{is_past, rise_past, Rises}

pub both : (a b : Bool) → a ≡ true → b ≡ true → (a && b) ≡ true
both a b p q = rw (p, q) refl

pub first_of : (a b : Bool) → (a && b) ≡ true → a ≡ true
first_of true b e = refl
first_of false b e = e

pub second_of : (a b : Bool) → (a && b) ≡ true → b ≡ true
second_of true b e = e
second_of false b e = absurd cc

-- a number greater than x is past all that x is past
pub past_trans : (last : Option ℕ) (x y : ℕ) → is_past last x ≡ true → x < y → is_past last y ≡ true
past_trans None x y p lt = refl
past_trans (Some l) x y p lt = let q : l < x = ltb-true l x p in lt-ltb l y (omega arith)

pub rise_earlier : (last : Option ℕ) (x : ℕ) (xs : List ℕ) → is_past last x ≡ true → rise_past (Some x) xs ≡ true → rise_past last xs ≡ true
rise_earlier last x [] p h = refl
rise_earlier last x (y ∷ ys) p h =
    both (is_past last y) (rise_past (Some y) ys) (past_trans last x y p (ltb-true x y (first_of (nat_lt x y) (rise_past (Some y) ys) h))) (second_of (nat_lt x y) (rise_past (Some y) ys) h)

module _ {X : Type 0} where
  abbrev pub keys_of : List (ℕ × X) → List ℕ
  keys_of es = map (λ e. e.0) es

  pub rise_filter : (p : ℕ × X → Bool) (last : Option ℕ) (es : List (ℕ × X)) → rise_past last (keys_of es) ≡ true → rise_past last (keys_of (filter p es)) ≡ true
  rise_filter p last [] h = refl
  rise_filter p last (e ∷ es) h =
      let here = first_of (is_past last e.0) (rise_past (Some e.0) (keys_of es)) h in
      let rest = second_of (is_past last e.0) (rise_past (Some e.0) (keys_of es)) h in
      elim (p e) as (λ b. rise_past last (keys_of (cond b (e ∷ filter p es) (filter p es))) ≡ true) [
        | true ↦ both _ _ here (rise_filter p (Some e.0) es rest)
        | false ↦ rise_filter p last es (rise_earlier last e.0 (keys_of es) here rest)
      ]

-- keys that the mapped items keep rise if those of the items do
pub rise_mapped : {X Y : Type 0} (f : X → Option Y) (key : X → ℕ) (kept : Y → ℕ) → ((x : X) (y : Y) → f x ≡ Some y → kept y ≡ key x) → (last : Option ℕ) (xs : List X) → rise_past last (map key xs) ≡ true → rise_past last (map kept (filter_map f xs)) ≡ true
rise_mapped f key kept same last [] h = refl
rise_mapped f key kept same last (x ∷ xs) h =
    let here = first_of (is_past last (key x)) (rise_past (Some (key x)) (map key xs)) h in
    let rest = second_of (is_past last (key x)) (rise_past (Some (key x)) (map key xs)) h in
    elim (f x) as (λ o. f x ≡ o → rise_past last (map kept (cons_option o (filter_map f xs))) ≡ true) [
      | Some y ↦ λ e. subst (λ k. (is_past last k && rise_past (Some k) (map kept (filter_map f xs))) ≡ true) (sym (same x y e)) (both _ _ here (rise_mapped f key kept same (Some (key x)) xs rest))
      | None ↦ λ e. rise_mapped f key kept same last xs (rise_earlier last (key x) (map key xs) here rest)
    ] refl

T_both : (a b : Bool) → T a → T b → T (a && b)
T_both true b p q = q
T_both false b p q = p

nat_lt_Less : (x y : ℕ) → x < y → T (is_lt (nat_cmp x y))
nat_lt_Less x y lt = subst (λ r. T (is_lt r)) (nat_cmp_is x y Less lt) tt

module _ {X : Type 0} where
  below_from_rise : (x : ℕ) (es : List (ℕ × X)) → rise_past (Some x) (keys_of es) ≡ true → T (below_all nat_cmp x es)
  below_from_rise x [] h = tt
  below_from_rise x (e ∷ es) h =
      let lt = first_of (nat_lt x e.0) (rise_past (Some e.0) (keys_of es)) h in
      let rest = second_of (nat_lt x e.0) (rise_past (Some e.0) (keys_of es)) h in
      T_both (is_lt (nat_cmp x e.0)) (below_all nat_cmp x es) (nat_lt_Less x e.0 (ltb-true x e.0 lt)) (below_from_rise x es (rise_earlier (Some x) e.0 (keys_of es) lt rest))

  sorted_past : (last : Option ℕ) (es : List (ℕ × X)) → rise_past last (keys_of es) ≡ true → T (is_sorted nat_cmp es)
  sorted_past last [] h = tt
  sorted_past last (e ∷ es) h =
      let rest = second_of (is_past last e.0) (rise_past (Some e.0) (keys_of es)) h in
      T_both (below_all nat_cmp e.0 es) (is_sorted nat_cmp es) (below_from_rise e.0 es rest) (sorted_past (Some e.0) es rest)

  -- a list that rises is the list of the entries of its map
  pub entries_rising : (es : List (ℕ × X)) → Rises (keys_of es) → entries (from_sorted {R = nat_cmp} es) ≡ es
  entries_rising es h = entries-from_sorted nat_cmp es (sorted_past None es h)

  pub get_rising : (es : List (ℕ × X)) (q : ℕ) → Rises (keys_of es) → get (from_sorted {R = nat_cmp} es) q ≡ find nat_cmp q es
  get_rising es q h = get-from_sorted nat_cmp es q (sorted_past None es h)

  -- the map of a list that rises, made of a filter of a map's entries
  pub filter_rising : (p : ℕ × X → Bool) (es : List (ℕ × X)) → Rises (keys_of es) → from_sorted {R = nat_cmp} (filter p es) ≡ from_sorted {R = nat_cmp} (filter p (entries (from_sorted {R = nat_cmp} es)))
  filter_rising p es h = ap (λ (xs : List (ℕ × X)). from_sorted {R = nat_cmp} (filter p xs)) (sym (entries_rising es h))

T_first : (a b : Bool) → T (a && b) → T a
T_first true b p = tt
T_first false b p = absurd p

T_second : (a b : Bool) → T (a && b) → T b
T_second true b p = p
T_second false b p = absurd p

lt_ranked : (x y : ℕ) (r : Ordering) → r ≡ nat_cmp x y → T (is_lt r) → x < y
lt_ranked x y Less e p = ranked x y Less e
lt_ranked x y Equal e p = absurd p
lt_ranked x y Greater e p = absurd p

lt_from_less : (x y : ℕ) → T (is_lt (nat_cmp x y)) → x < y
lt_from_less x y p = lt_ranked x y (nat_cmp x y) refl p

same_ranked : (x y : ℕ) (r : Ordering) → r ≡ nat_cmp x y → is_eq r ≡ true → x ≡ y
same_ranked x y Less e p = absurd cc
same_ranked x y Equal e p = ranked x y Equal e
same_ranked x y Greater e p = absurd cc

-- keys that tie are equal
pub same_tied : (x y : ℕ) → eq_by_cmp nat_cmp x y ≡ true → x ≡ y
same_tied x y p = same_ranked x y (nat_cmp x y) refl p

-- a key past another does not tie with it
pub other_key : (e k : ℕ) → nat_lt e k ≡ true → eq_by_cmp nat_cmp k e ≡ false
other_key e k past = ap is_eq (sym (nat_cmp_is k e Greater (ltb-true e k past)))

not_tied : (q x y : ℕ) → eq_by_cmp nat_cmp q x ≡ true → x < y → eq_by_cmp nat_cmp q y ≡ false
not_tied q x y e lt =
    let same = same_tied q x e in
    ap is_eq (sym (nat_cmp_is q y Less (omega arith)))

Less_nat_lt : (x y : ℕ) → T (is_lt (nat_cmp x y)) → nat_lt x y ≡ true
Less_nat_lt x y p = lt-ltb x y (lt_from_less x y p)

module _ {X : Type 0} where
  rise_below : (x : ℕ) (es : List (ℕ × X)) → T (below_all nat_cmp x es) → T (is_sorted nat_cmp es) → rise_past (Some x) (keys_of es) ≡ true
  rise_below x [] b s = refl
  rise_below x (e ∷ es) b s =
      both (nat_lt x e.0) (rise_past (Some e.0) (keys_of es)) (Less_nat_lt x e.0 (T_first (is_lt (nat_cmp x e.0)) (below_all nat_cmp x es) b))
      (rise_below e.0 es (T_first (below_all nat_cmp e.0 es) (is_sorted nat_cmp es) s) (T_second (below_all nat_cmp e.0 es) (is_sorted nat_cmp es) s))

  -- the entries of a map rise
  pub rise_sorted : (es : List (ℕ × X)) → T (is_sorted nat_cmp es) → Rises (keys_of es)
  rise_sorted [] s = refl
  rise_sorted (e ∷ es) s = rise_below e.0 es (T_first (below_all nat_cmp e.0 es) (is_sorted nat_cmp es) s) (T_second (below_all nat_cmp e.0 es) (is_sorted nat_cmp es) s)

  pub sorted_rising : (es : List (ℕ × X)) → Rises (keys_of es) → T (is_sorted nat_cmp es)
  sorted_rising es h = sorted_past None es h

  pub find_past : (q x : ℕ) (es : List (ℕ × X)) → eq_by_cmp nat_cmp q x ≡ true → rise_past (Some x) (keys_of es) ≡ true → find nat_cmp q es ≡ None
  find_past q x [] e h = refl
  find_past q x (y ∷ ys) e h =
      let lt = first_of (nat_lt x y.0) (rise_past (Some y.0) (keys_of ys)) h in
      let rest = second_of (nat_lt x y.0) (rise_past (Some y.0) (keys_of ys)) h in
      rw (not_tied q x y.0 e (ltb-true x y.0 lt)) (find_past q x ys e (rise_earlier (Some x) y.0 (keys_of ys) lt rest))

  -- a list before another, at a key
  pub find-before : (q : ℕ) (xs ys : List (ℕ × X)) → find nat_cmp q (xs ++ ys) ≡ option_or (find nat_cmp q xs) (find nat_cmp q ys)
  find-before q [] ys = refl
  find-before q (x ∷ xs) ys =
      elim (eq_by_cmp nat_cmp q x.0) as (λ b. cond b (Some x.1) (find nat_cmp q (xs ++ ys)) ≡ option_or (cond b (Some x.1) (find nat_cmp q xs)) (find nat_cmp q ys)) [
        | true ↦ refl
        | false ↦ find-before q xs ys
      ]

-- a tree finds the entry that a list of its entries has
pub find_looked_up : {X : Type 0} (es : List (ℕ × X)) (q : ℕ) → find nat_cmp q es ≡ lookup (is_at (nat_cmp q)) es
find_looked_up [] q = refl
find_looked_up (e ∷ es) q = ap (cond (is_at (nat_cmp q) e.0) (Some e.1)) (find_looked_up es q)

-- the map of no entries
pub from_sorted-none : {X : Type 0} → from_sorted {R = nat_cmp} [] ≡ empty {X = X} {R = nat_cmp}
from_sorted-none = empty_of_len (from_sorted {R = nat_cmp} []) (len-entries _ ∙ ap length (entries-from_sorted nat_cmp [] tt))
