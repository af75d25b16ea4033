-- Rows that rise, in chunks one behind the other: the last endpoint of a chunk, and the window found at an endpoint.
use Rattle.std.proofs.Common.{◌≡◌, ℕ, zero, suc, ◌+◌, ◌-◌, ◌<◌, ◌≤◌, true, false, List, [], ◌∷◌, ◌++◌, map, length, take, drop, get_or, Option, Some, None, refl, sym, ap, subst, ◌∙◌, arith, nat_lt}
use Rattle.std.specs.List.{AllByRecursion, AllWithin, HoldsAt}
use Rattle.std.specs.Option.{option_or}
use Rattle.std.specs.Ordering.{nat_cmp, eq_by_cmp, is_eq}
use Rattle.std.specs.Cmp.{nat_cmp_is}
use Rattle.std.specs.declared.cmp.Ordering.TheVariants.{Less}
use Rattle.std.specs.FinMap.Entries.{find}
use Rattle.std.proofs.lemmas.Bool.{ltb-true, ltb-false, lt-ltb}
use Rattle.std.proofs.lemmas.List.{drop_more, flat_map_more, append-nil, drop_all, take_rest, take-append-drop}
use Rattle.cg_types.specs.Rising.{is_past, rise_past, Rises}
use Rattle.cg_types.proofs.RisingLemmas.{both, first_of, second_of, rise_earlier, other_key, find-before}
use Rattle.cg_types.specs.Rows.{keys_of, IsRowAt}
use Rattle.cg_types.proofs.RowLemmas.{find_row}
use Rattle.cg_types.proofs.PutLemmas.{UpTo}
use Rattle.cg_messages.specs.Members.{endpoints_of_outcomes}
use Rattle.cg_messages.specs.declared.outcome.Outcome.{Outcome}
use Rattle.cg_silence.specs.Values.{WindowValue}
use Rattle.cg_silence.specs.Walking.{flat, last_from, last_key, ends_before, PartedAt, ArePart}

abbrev pub Rows : Type 0
Rows = List (ℕ × WindowValue)

-- ---- parts of lists that rise

-- what rises past a number rises
pub rises_past : (last : Option ℕ) (ks : List ℕ) → rise_past last ks ≡ true → Rises ks
rises_past last [] h = refl
rises_past last (k ∷ ks) h = second_of (is_past last k) (rise_past (Some k) ks) h

module _ {X : Type 0} (key : X → ℕ) where
  pub rise_front : (last : Option ℕ) (xs ys : List X) → rise_past last (map key (xs ++ ys)) ≡ true → rise_past last (map key xs) ≡ true
  rise_front last [] ys h = refl
  rise_front last (x ∷ xs) ys h =
      let here = first_of (is_past last (key x)) (rise_past (Some (key x)) (map key (xs ++ ys))) h in
      let rest = second_of (is_past last (key x)) (rise_past (Some (key x)) (map key (xs ++ ys))) h in
      both (is_past last (key x)) (rise_past (Some (key x)) (map key xs)) here (rise_front (Some (key x)) xs ys rest)

  pub rise_back : (last : Option ℕ) (xs ys : List X) → rise_past last (map key (xs ++ ys)) ≡ true → Rises (map key ys)
  rise_back last [] ys h = rises_past last (map key ys) h
  rise_back last (x ∷ xs) ys h = rise_back (Some (key x)) xs ys (second_of (is_past last (key x)) (rise_past (Some (key x)) (map key (xs ++ ys))) h)

-- ---- the last endpoint

pub record Reaches (k : ℕ) (c d : Rows) : Type 0 where
  pub from : k ≤ last_from k c
  pub front : UpTo (last_from k c) c
  pub back : rise_past (Some (last_from k c)) (keys_of d) ≡ true

-- no endpoint is greater than the last, and those of the chunks behind are
pub reach : (k : ℕ) (c d : Rows) → rise_past (Some k) (keys_of (c ++ d)) ≡ true → Reaches k c d
reach k [] d h = record { from = omega arith; front = tt; back = h }
reach k (r ∷ rs) d h =
    let lt = first_of (nat_lt k r.0) (rise_past (Some r.0) (keys_of (rs ++ d))) h in
    let over : k < r.0 = ltb-true k r.0 lt in
    let more = reach r.0 rs d (second_of (nat_lt k r.0) (rise_past (Some r.0) (keys_of (rs ++ d))) h) in
    record { from = omega (arith, more.from); front = (more.from, more.front); back = more.back }

pub reach_first : (r : ℕ × WindowValue) (rs d : Rows) → Rises (keys_of ((r ∷ rs) ++ d)) → UpTo (last_from r.0 rs) (r ∷ rs) × (rise_past (Some (last_from r.0 rs)) (keys_of d) ≡ true)
reach_first r rs d h =
    let more = reach r.0 rs d (second_of (is_past None r.0) (rise_past (Some r.0) (keys_of (rs ++ d))) h) in
    ((more.from, more.front), more.back)

pub last_is : (rows : Rows) (d : ℕ × WindowValue) → 0 < length rows → Some (get_or rows (length rows - 1) d).0 ≡ last_key rows
last_is [] d lt = absurd (omega arith)
last_is (r ∷ []) d lt = refl
last_is (r ∷ s ∷ rs) d lt = let less : suc (suc (length rs)) - 1 ≡ suc (suc (length rs) - 1) = omega arith in rw less (last_is (s ∷ rs) d (omega arith))

-- ---- the row found

pub found_row : (k : ℕ) (rows : Rows) (at : ℕ) (row : ℕ × WindowValue) (w : WindowValue) → Rises (keys_of rows) → IsRowAt rows k at → row ≡ get_or rows at row → w ≡ row.1 → Some w ≡ find nat_cmp k rows
found_row k rows at row w h here is value = ap Some (value ∙ ap (λ (r : ℕ × WindowValue). r.1) is) ∙ sym (find_row k rows at row h here)

-- ---- chunks one behind the other

pub flat_at : (chunks : List Rows) (i : ℕ) (c : Rows) → i < length chunks → c ≡ get_or chunks i c → flat (drop i chunks) ≡ c ++ flat (drop (i + 1) chunks)
flat_at chunks i c lt is = ap flat (drop_more chunks i c lt) ∙ ap (λ (x : Rows). x ++ flat (drop (i + 1) chunks)) (sym is)

pub flat_more : (chunks : List Rows) (c : Rows) → flat (chunks ++ c ∷ []) ≡ flat chunks ++ c
flat_more chunks c = sym (flat_map_more (λ (rows : Rows). rows) [] chunks c)

-- the last chunk of all
pub flat_last : (chunks : List Rows) (c : Rows) → 0 < length chunks → c ≡ get_or chunks (length chunks - 1) c → flat (drop (length chunks - 1) chunks) ≡ c
flat_last chunks c some is =
    flat_at chunks (length chunks - 1) c (omega (arith, some)) is
    ∙ ap (λ (xs : List Rows). c ++ flat xs) (drop_all (length chunks - 1 + 1) chunks (omega (arith, some))) ∙ append-nil c

-- ---- the window found at an endpoint

lesser_key : (k x : ℕ) → k < x → eq_by_cmp nat_cmp k x ≡ false
lesser_key k x lt = ap is_eq (sym (nat_cmp_is k x Less lt))

pub find_over : (last k : ℕ) (c : Rows) → UpTo last c → last < k → find nat_cmp k c ≡ None
find_over last k [] up lt = refl
find_over last k (r ∷ rs) up lt = let other = other_key r.0 k (lt-ltb r.0 k (omega (arith, up.0))) in rw other (find_over last k rs up.1 lt)

pub find_under : (last k : ℕ) (d : Rows) → rise_past (Some last) (keys_of d) ≡ true → k ≤ last → find nat_cmp k d ≡ None
find_under last k [] h le = refl
find_under last k (r ∷ rs) h le =
    let lt = first_of (nat_lt last r.0) (rise_past (Some r.0) (keys_of rs)) h in
    let rest = second_of (nat_lt last r.0) (rise_past (Some r.0) (keys_of rs)) h in
    let over : last < r.0 = ltb-true last r.0 lt in
    let other = lesser_key k r.0 (omega (arith, le, over)) in
    rw other (find_under last k rs (rise_earlier (Some last) r.0 (keys_of rs) lt rest) le)

or_none : {X : Type 0} (o : Option X) → option_or o None ≡ o
or_none None = refl
or_none (Some x) = refl

pub find_behind : (last k : ℕ) (c d : Rows) → UpTo last c → last < k → find nat_cmp k (c ++ d) ≡ find nat_cmp k d
find_behind last k c d up lt = find-before k c d ∙ ap (λ (o : Option WindowValue). option_or o (find nat_cmp k d)) (find_over last k c up lt)

pub find_within : (last k : ℕ) (c d : Rows) → rise_past (Some last) (keys_of d) ≡ true → k ≤ last → find nat_cmp k (c ++ d) ≡ find nat_cmp k c
find_within last k c d h le = find-before k c d ∙ ap (λ (o : Option WindowValue). option_or (find nat_cmp k c) o) (find_under last k d h le) ∙ or_none (find nat_cmp k c)

-- a chunk that ends before the endpoint does not have it, and one that does not has it if any has
pub find_after_chunk : (k : ℕ) (c d : Rows) → Rises (keys_of (c ++ d)) → ends_before k c ≡ true → find nat_cmp k (c ++ d) ≡ find nat_cmp k d
find_after_chunk k [] d h ends = refl
find_after_chunk k (r ∷ rs) d h ends = find_behind (last_from r.0 rs) k (r ∷ rs) d (reach_first r rs d h).0 (ltb-true (last_from r.0 rs) k ends)

pub find_in_chunk : (k : ℕ) (c d : Rows) → Rises (keys_of (c ++ d)) → ends_before k c ≡ false → find nat_cmp k (c ++ d) ≡ find nat_cmp k c
find_in_chunk k [] d h ends = absurd cc
find_in_chunk k (r ∷ rs) d h ends = find_within (last_from r.0 rs) k (r ∷ rs) d (reach_first r rs d h).1 (ltb-false (last_from r.0 rs) k ends)

-- ---- outcomes up to an endpoint, and those past it

abbrev UpToEach : ℕ → List Outcome → Type 0
UpToEach last os = AllByRecursion (λ o. o.endpoint ≤ last) os

past_all : (last : ℕ) (os : List Outcome) → Rises (endpoints_of_outcomes os) → (0 < length os → HoldsAt (λ o. last < o.endpoint) os 0) → rise_past (Some last) (endpoints_of_outcomes os) ≡ true
past_all last [] h over = refl
past_all last (o ∷ os) h over =
    let here : last < o.endpoint = over (omega arith) o in
    both (nat_lt last o.endpoint) (rise_past (Some o.endpoint) (endpoints_of_outcomes os)) (lt-ltb last o.endpoint here) (second_of (is_past None o.endpoint) (rise_past (Some o.endpoint) (endpoints_of_outcomes os)) h)

pub parted_at : (last n : ℕ) (os : List Outcome) → Rises (endpoints_of_outcomes os) → AllWithin (λ o. o.endpoint ≤ last) os 0 n → (n < length os → HoldsAt (λ o. last < o.endpoint) os n)
    → PartedAt (Some last) (take n os) (drop n os)
parted_at last zero os h within behind = (tt, past_all last os h behind)
parted_at last (suc n) [] h within behind = (tt, refl)
parted_at last (suc n) (o ∷ os) h within behind =
    let here : o.endpoint ≤ last = within 0 o (omega arith) (omega arith) in
    let rest = parted_at last n os (rises_past (Some o.endpoint) (endpoints_of_outcomes os) (second_of (is_past None o.endpoint) (rise_past (Some o.endpoint) (endpoints_of_outcomes os)) h)) (λ k d lo hi. within (suc k) d (omega arith) (omega arith)) (λ lt d. behind (omega arith) d) in
    ((here, rest.0), rest.1)

-- those that are left rise as all do
pub later_rise : (last : Option ℕ) (all mine later : List Outcome) → ArePart last all mine later → Rises (endpoints_of_outcomes all) → Rises (endpoints_of_outcomes later)
later_rise last all mine later part h = rise_back (λ (o : Outcome). o.endpoint) None mine later (subst (λ (os : List Outcome). Rises (endpoints_of_outcomes os)) (sym part.whole) h)

-- the parts of a list at a place
pub part_at : (last : Option ℕ) (os : List Outcome) (n : ℕ) → PartedAt last (take n os) (drop n os) → ArePart last os (take n os) (take (length os - n) (drop n os))
part_at last os n parted = rw (take_rest os n) (record { whole = take-append-drop n os; parted = parted })
