-- A walk over rows and changes puts each change.
use Rattle.std.proofs.Common.{◌≡◌, ℕ, ◌<◌, ◌≤◌, Bool, true, false, cond, List, [], ◌∷◌, ◌++◌, Option, Some, None, refl, sym, ap, ◌∙◌, arith, nat_lt, append_assoc}
use Rattle.std.specs.List.{filter}
use Rattle.std.specs.Ordering.{nat_cmp}
use Rattle.std.specs.Cmp.{nat_cmp_is}
use Rattle.std.specs.declared.cmp.Ordering.{Ordering}
use Rattle.std.specs.declared.cmp.Ordering.TheVariants.{Less, Equal, Greater}
use Rattle.std.specs.FinMap.Entries.{put, by_order}
use Rattle.std.proofs.lemmas.Bool.{ltb-true, ltb-false, lt-ltb, le-ltb}
use Rattle.cg_types.specs.Rising.{is_past, rise_past, Rises}
use Rattle.cg_types.proofs.RisingLemmas.{rise_earlier, first_of, second_of, rise_filter}
use Rattle.cg_types.specs.Rows.{keys_of, before, after, walk}
use Rattle.cg_types.proofs.RowLemmas.{later, filter_none, filter_every}

module _ {X : Type 0} where
  pub put_less : (k : ℕ) (v : X) (r : ℕ × X) (rs : List (ℕ × X)) → k < r.0 → put nat_cmp k v (r ∷ rs) ≡ (k, v) ∷ r ∷ rs
  put_less k v r rs lt = ap (λ (o : Ordering). by_order o ((k, v) ∷ r ∷ rs) ((r.0, v) ∷ rs) (r ∷ put nat_cmp k v rs)) (sym (nat_cmp_is k r.0 Less lt))

  pub put_same : (k : ℕ) (v : X) (r : ℕ × X) (rs : List (ℕ × X)) → k ≡ r.0 → put nat_cmp k v (r ∷ rs) ≡ (r.0, v) ∷ rs
  put_same k v r rs e = ap (λ (o : Ordering). by_order o ((k, v) ∷ r ∷ rs) ((r.0, v) ∷ rs) (r ∷ put nat_cmp k v rs)) (sym (nat_cmp_is k r.0 Equal e))

  pub put_greater : (k : ℕ) (v : X) (r : ℕ × X) (rs : List (ℕ × X)) → r.0 < k → put nat_cmp k v (r ∷ rs) ≡ r ∷ put nat_cmp k v rs
  put_greater k v r rs lt = ap (λ (o : Ordering). by_order o ((k, v) ∷ r ∷ rs) ((r.0, v) ∷ rs) (r ∷ put nat_cmp k v rs)) (sym (nat_cmp_is k r.0 Greater lt))

  -- putting among rising rows
  pub put_around : (k : ℕ) (v : X) (last : Option ℕ) (rs : List (ℕ × X)) → rise_past last (keys_of rs) ≡ true → put nat_cmp k v rs ≡ before k rs ++ (k, v) ∷ after k rs
  put_around k v last [] h = refl
  put_around k v last (r ∷ rs) h =
      let rest = second_of (is_past last r.0) (rise_past (Some r.0) (keys_of rs)) h in
      let beyond = later r.0 rs rest in
      elim (nat_lt r.0 k) as (λ b. nat_lt r.0 k ≡ b → put nat_cmp k v (r ∷ rs) ≡ cond b (r ∷ before k rs) (before k rs) ++ (k, v) ∷ after k (r ∷ rs)) [
        | true ↦ λ b.
            let lt : r.0 < k = ltb-true r.0 k b in
            let not_after : nat_lt k r.0 ≡ false = le-ltb k r.0 (omega arith) in
            put_greater k v r rs lt ∙ ap (λ (xs : List (ℕ × X)). r ∷ xs) (put_around k v (Some r.0) rs rest)
            ∙ ap (λ (c : Bool). r ∷ (before k rs ++ (k, v) ∷ cond c (r ∷ after k rs) (after k rs))) (sym not_after)
        | false ↦ λ b.
            let ge : k ≤ r.0 = ltb-false r.0 k b in
            let front : before k rs ≡ [] = filter_none (λ r. nat_lt r.0 k) rs (λ j d lo hi. let over = beyond j d lo hi in le-ltb _ k (omega arith)) in
            let back : filter (λ r. nat_lt k r.0) rs ≡ rs = filter_every (λ r. nat_lt k r.0) rs (λ j d lo hi. let over = beyond j d lo hi in lt-ltb k _ (omega arith)) in
            rw (front, back) (elim (nat_lt k r.0) as (λ c. nat_lt k r.0 ≡ c → put nat_cmp k v (r ∷ rs) ≡ (k, v) ∷ cond c (r ∷ rs) rs) [
              | true ↦ λ c. put_less k v r rs (ltb-true k r.0 c)
              | false ↦ λ c.
                  let le : r.0 ≤ k = ltb-false k r.0 c in
                  let same : k ≡ r.0 = omega arith in
                  put_same k v r rs same ∙ ap (λ (x : ℕ). (x, v) ∷ rs) (sym same)
            ] refl)
      ] refl

  -- ---- one after the other

  abbrev pub put_all : List (ℕ × X) → List (ℕ × X) → List (ℕ × X)
  put_all [] rows = rows
  put_all (c ∷ cs) rows = put_all cs (put nat_cmp c.0 c.1 rows)

  -- no key is greater than x
  abbrev pub UpTo : ℕ → List (ℕ × X) → Type 0
  UpTo x [] = Unit {0}
  UpTo x (r ∷ rs) = (r.0 ≤ x) × UpTo x rs

  put_front : (x k : ℕ) (v : X) (front rest : List (ℕ × X)) → UpTo x front → x < k → put nat_cmp k v (front ++ rest) ≡ front ++ put nat_cmp k v rest
  put_front x k v [] rest up lt = refl
  put_front x k v (r ∷ rs) rest up lt = put_greater k v r (rs ++ rest) (omega (arith, up.0)) ∙ ap (λ (xs : List (ℕ × X)). r ∷ xs) (put_front x k v rs rest up.1 lt)

  put_all_front : (x : ℕ) (cs front rest : List (ℕ × X)) → UpTo x front → rise_past (Some x) (keys_of cs) ≡ true → put_all cs (front ++ rest) ≡ front ++ put_all cs rest
  put_all_front x [] front rest up h = refl
  put_all_front x (c ∷ cs) front rest up h =
      let lt = first_of (nat_lt x c.0) (rise_past (Some c.0) (keys_of cs)) h in
      let more = second_of (nat_lt x c.0) (rise_past (Some c.0) (keys_of cs)) h in
      ap (put_all cs) (put_front x c.0 c.1 front rest up (ltb-true x c.0 lt))
      ∙ put_all_front x cs front (put nat_cmp c.0 c.1 rest) up (rise_earlier (Some x) c.0 (keys_of cs) lt more)

  up_to_before : (k : ℕ) (v : X) (rs : List (ℕ × X)) → UpTo k (before k rs ++ (k, v) ∷ [])
  up_to_before k v [] = (omega arith, tt)
  up_to_before k v (r ∷ rs) = elim (nat_lt r.0 k) as (λ b. nat_lt r.0 k ≡ b → UpTo k (cond b (r ∷ before k rs) (before k rs) ++ (k, v) ∷ [])) [
    | true ↦ λ b. let lt : r.0 < k = ltb-true r.0 k b in (omega arith, up_to_before k v rs)
    | false ↦ λ b. up_to_before k v rs
  ] refl

  -- one walk puts them all
  pub put_all-walk : (last : Option ℕ) (cs rs : List (ℕ × X)) → rise_past last (keys_of cs) ≡ true → Rises (keys_of rs) → walk cs rs ≡ put_all cs rs
  put_all-walk last [] rs h rise = refl
  put_all-walk last (c ∷ cs) rs h rise =
      let more = second_of (is_past last c.0) (rise_past (Some c.0) (keys_of cs)) h in
      let rest = after c.0 rs in
      let inner : walk cs rest ≡ put_all cs rest = put_all-walk (Some c.0) cs rest more (rise_filter (λ r. nat_lt c.0 r.0) None rs rise) in
      let moved : put_all cs ((before c.0 rs ++ c ∷ []) ++ rest) ≡ (before c.0 rs ++ c ∷ []) ++ put_all cs rest = put_all_front c.0 cs (before c.0 rs ++ c ∷ []) rest (up_to_before c.0 c.1 rs) more in
      ap (λ (xs : List (ℕ × X)). before c.0 rs ++ c ∷ xs) inner
      ∙ sym (append_assoc (before c.0 rs) (c ∷ []) (put_all cs rest)) ∙ sym moved
      ∙ ap (put_all cs) (append_assoc (before c.0 rs) (c ∷ []) rest ∙ sym (put_around c.0 c.1 None rs rise))

  -- one step of a walk
  pub walk_step : (made rest its cs b a : List (ℕ × X)) (c : ℕ × X) → its ≡ c ∷ cs → b ≡ before c.0 rest → a ≡ after c.0 rest → ((made ++ b) ++ c ∷ []) ++ walk cs a ≡ made ++ walk its rest
  walk_step made rest its cs b a c is front back =
      rw (is, front, back) (append_assoc (made ++ before c.0 rest) (c ∷ []) (walk cs (after c.0 rest)) ∙ append_assoc made (before c.0 rest) (c ∷ walk cs (after c.0 rest)))

  -- one turn of a walk, which takes the next of the changes
  pub rows_step : (made rest its cs b a : List (ℕ × X)) (k : ℕ) (row : ℕ × X) → its ≡ row ∷ cs → k ≡ row.0 → b ≡ before k rest → a ≡ after k rest → Rises (keys_of rest) → record { rise : Rises (keys_of a); so_far : ((made ++ b) ++ row ∷ []) ++ walk cs a ≡ made ++ walk its rest }
  rows_step made rest its cs b a k row is key front back rise =
      let behind : a ≡ after row.0 rest = back ∙ ap (λ (n : ℕ). after n rest) key in
      record {
        rise = rw behind (rise_filter (λ r. nat_lt row.0 r.0) None rest rise);
        so_far = walk_step made rest its cs b a row is (front ∙ ap (λ (n : ℕ). before n rest) key) behind;
      }
