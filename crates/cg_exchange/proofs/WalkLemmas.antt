-- The list that a walk over two lists whose owners rise makes, and one step of it.
use Rattle.std.proofs.Common.{◌≡◌, ◌+◌, ◌<◌, ◌≤◌, ◌==◌, ℕ, zero, suc, ◌-◌, Bool, true, false, cond, List, [], ◌∷◌, ◌++◌, map, length, length-drop, take, drop, get_or, drop-cons, add-one, append_assoc, Option, Some, None, refl, sym, ap, subst, ◌∙◌, arith, nat_lt}
use Rattle.std.specs.Prelude.{find, nat_le}
use Rattle.std.specs.List.{filter_map, cons_option}
use Rattle.std.specs.List.Sorted.{IsNonDecreasingBy, IsPartitionedBy, IsPartitionPoint}
use Rattle.std.proofs.lemmas.List.Sorted.{IsPartitionedBy-ltb}
use Rattle.std.specs.Option.{option_map, option_to_list}
use Rattle.std.specs.Ordering.{nat_cmp, eq_by_cmp}
use Rattle.std.specs.FinMap as table
use Rattle.std.specs.FinMap.Entries as entries
use Rattle.std.proofs.lemmas.List.{take_all, drop_all, append-nil}
use Rattle.std.proofs.lemmas.Bool.{ltb-true, ltb-false}
use Rattle.std.proofs.lemmas.Bool.Decides.{nat_tests}
use Rattle.cg_types.specs.Rising.{is_past, rise_past, Rises}
use Rattle.cg_types.proofs.RisingLemmas.{first_of, second_of, past_trans, rise_earlier, rise_sorted}
use Rattle.cg_entry.specs.Values.{EntryValue}
use Rattle.cg_entry.specs.declared.digest.Digest.{Digest}
use Rattle.cg_table.specs.Values.{TableValue, Entries}
use Rattle.cg_table.specs.Taking.{change_at, change_of}
use Rattle.cg_messages.specs.declared.owner_delta.OwnerDelta.{OwnerDelta}
use Rattle.cg_messages.specs.Values.{RequestValue}
use Rattle.cg_messages.specs.Members.{endpoints_of_digests, endpoints_of_deltas}
use Rattle.cg_exchange.specs.Taking.{outcome_of}
use Rattle.cg_exchange.specs.Changes.{changed_by, row_by, outcome_by, row_changed}
use Rattle.cg_exchange.specs.Answering.{request_by, requests_for, deltas_for}
use Rattle.cg_exchange.specs.Walking.{from_owner, first_about, begin_before, next_of, behind_next, of_member, row_request, row_delta, IsSame, AreSame, AreBehindSame}

-- the members from an owner on come after those before it
pub from_point : {X : Type 0} (owner : X → ℕ) (k : ℕ) (xs : List X) (at : ℕ) → at ≤ length xs → IsPartitionPoint (λ x. nat_lt (owner x) k ≡ true) (λ x. nat_lt (owner x) k ≡ false) xs at → drop at xs ≡ from_owner owner k xs
from_point owner k [] zero le point = refl
from_point owner k [] (suc at) le point = refl
from_point owner k (x ∷ xs) zero le point = let no : nat_lt (owner x) k ≡ false = point.1 0 x (omega arith) (omega arith) in rw no refl
from_point owner k (x ∷ xs) (suc at) le point =
    let yes : nat_lt (owner x) k ≡ true = point.0 0 x (omega arith) (omega arith) in
    rw yes (from_point owner k xs at (omega (arith, le)) (λ j d lo lt. point.0 (suc j) d (omega arith) (omega arith), λ j d lo lt. point.1 (suc j) d (omega arith) (omega arith)))

-- the value of `&xs[n..]`
pub rest_from : {X : Type 0} (xs : List X) (n : ℕ) → take (length xs - n) (drop n xs) ≡ drop n xs
rest_from xs n = take_all (length xs - n) (drop n xs) (omega (arith, length-drop n xs))

module _ {X : Type 0} (owner : X → ℕ) where
  later_owner : (n : ℕ) (xs : List X) → rise_past (Some n) (map owner xs) ≡ true → (j : ℕ) (d : X) → j < length xs → n < owner (get_or xs j d)
  later_owner n [] h j d lt = absurd (omega (arith, lt))
  later_owner n (x ∷ xs) h zero d lt = ltb-true n (owner x) (first_of (nat_lt n (owner x)) (rise_past (Some (owner x)) (map owner xs)) h)
  later_owner n (x ∷ xs) h (suc j) d lt =
      let here = first_of (nat_lt n (owner x)) (rise_past (Some (owner x)) (map owner xs)) h in
      let rest = second_of (nat_lt n (owner x)) (rise_past (Some (owner x)) (map owner xs)) h in
      later_owner n xs (rise_earlier (Some n) (owner x) (map owner xs) here rest) j d (omega (arith, lt))

  owners_up : (last : Option ℕ) (xs : List X) → rise_past last (map owner xs) ≡ true → IsNonDecreasingBy owner xs
  owners_up last [] h i j d le lt = absurd (omega (arith, lt))
  owners_up last (x ∷ xs) h zero zero d le lt = omega arith
  owners_up last (x ∷ xs) h zero (suc j) d le lt =
      let later = later_owner (owner x) xs (second_of (is_past last (owner x)) (rise_past (Some (owner x)) (map owner xs)) h) j d (omega (arith, lt)) in
      omega (arith, later)
  owners_up last (x ∷ xs) h (suc i) zero d le lt = absurd (omega (arith, le))
  owners_up last (x ∷ xs) h (suc i) (suc j) d le lt =
      owners_up (Some (owner x)) xs (second_of (is_past last (owner x)) (rise_past (Some (owner x)) (map owner xs)) h) i j d (omega (arith, le)) (omega (arith, lt))

  -- those before an owner are a prefix
  pub parted_at : (k : ℕ) (xs : List X) → Rises (map owner xs) → IsPartitionedBy (λ x. nat_lt (owner x) k) xs
  parted_at k xs rise = IsPartitionedBy-ltb owner xs k (owners_up None xs rise)

less_differs : (x k : ℕ) → x < k → (x == k) ≡ false
less_differs x k lt = grind (arith, nat_tests)

more_differs : (x k : ℕ) → k < x → (x == k) ≡ false
more_differs x k lt = grind (arith, nat_tests)

pub is_less : (x k : ℕ) → x < k → nat_lt x k ≡ true
is_less x k lt = grind (arith, nat_tests)

pub not_less : (x k : ℕ) → k ≤ x → nat_lt x k ≡ false
not_less x k le = grind (arith, nat_tests)

one_dropped : {X : Type 0} (xs : List X) (i : ℕ) (x : X) → i < length xs → x ≡ get_or xs i x → drop i xs ≡ x ∷ drop (i + 1) xs
one_dropped {X} xs i x lt is = rw add-one (drop-cons xs i x lt ∙ ap (λ (y : X). y ∷ drop (suc i) xs) (sym is))

module _ {X : Type 0} (owner : X → ℕ) where
  -- nothing is about an owner that all members are past
  pub find_none : (k x : ℕ) (ys : List X) → k ≤ x → rise_past (Some x) (map owner ys) ≡ true → find (λ y. owner y == k) ys ≡ None
  find_none k x [] le h = refl
  find_none k x (y ∷ ys) le h =
      let lt = ltb-true x (owner y) (first_of (nat_lt x (owner y)) (rise_past (Some (owner y)) (map owner ys)) h) in
      rw (more_differs (owner y) k (omega (arith, le, lt))) (find_none k (owner y) ys (omega (arith, le, lt)) (second_of (nat_lt x (owner y)) (rise_past (Some (owner y)) (map owner ys)) h))

  first_found_by : (k : ℕ) (y : X) (ys : List X) → rise_past (Some (owner y)) (map owner ys) ≡ true → first_about owner k (from_owner owner k ys) ≡ find (λ y. owner y == k) ys
      → (less : Bool) → nat_lt (owner y) k ≡ less → (same : Bool) → (owner y == k) ≡ same
      → first_about owner k (cond less (from_owner owner k ys) (y ∷ ys)) ≡ cond same (Some y) (find (λ y. owner y == k) ys)
  first_found_by k y ys rest found true lt true same = let differs = less_differs (owner y) k (ltb-true (owner y) k lt) in absurd cc
  first_found_by k y ys rest found true lt false same = found
  first_found_by k y ys rest found false le true same = rw same refl
  first_found_by k y ys rest found false le false same = rw same (sym (find_none k (owner y) ys (ltb-false (owner y) k le) rest))

  -- the walk finds the member of an owner that a search finds
  first_found : (last : Option ℕ) (k : ℕ) (ys : List X) → rise_past last (map owner ys) ≡ true → first_about owner k (from_owner owner k ys) ≡ find (λ y. owner y == k) ys
  first_found last k [] h = refl
  first_found last k (y ∷ ys) h =
      first_found_by k y ys rest (first_found (Some (owner y)) k ys rest) (nat_lt (owner y) k) refl (owner y == k) refl
    where
      rest : rise_past (Some (owner y)) (map owner ys) ≡ true
      rest = second_of (is_past last (owner y)) (rise_past (Some (owner y)) (map owner ys)) h

  find_later_by : (k q : ℕ) (y : X) (ys : List X) → k < q → find (λ y. owner y == q) (from_owner owner k ys) ≡ find (λ y. owner y == q) ys
      → (less : Bool) → nat_lt (owner y) k ≡ less → find (λ y. owner y == q) (cond less (from_owner owner k ys) (y ∷ ys)) ≡ find (λ y. owner y == q) (y ∷ ys)
  find_later_by k q y ys lt rest true less = rw (less_differs (owner y) q (omega (arith, lt, ltb-true (owner y) k less))) rest
  find_later_by k q y ys lt rest false less = refl

  -- the walk does not pass a member about a later owner
  find_later : (k q : ℕ) (ys : List X) → k < q → find (λ y. owner y == q) (from_owner owner k ys) ≡ find (λ y. owner y == q) ys
  find_later k q [] lt = refl
  find_later k q (y ∷ ys) lt = find_later_by k q y ys lt (find_later k q ys lt) (nat_lt (owner y) k) refl

  pub rise_from : (k : ℕ) (last : Option ℕ) (ys : List X) → rise_past last (map owner ys) ≡ true → rise_past last (map owner (from_owner owner k ys)) ≡ true
  rise_from k last [] h = refl
  rise_from k last (y ∷ ys) h =
      let here = first_of (is_past last (owner y)) (rise_past (Some (owner y)) (map owner ys)) h in
      let rest = second_of (is_past last (owner y)) (rise_past (Some (owner y)) (map owner ys)) h in
      let later = rise_from k last ys (rise_earlier last (owner y) (map owner ys) here rest) in
      elim (nat_lt (owner y) k) as (λ b. rise_past last (map owner (cond b (from_owner owner k ys) (y ∷ ys))) ≡ true) [ true ↦ later | false ↦ h ]

module _ {X Y Z : Type 0} (key : X → ℕ) (owner : Y → ℕ) (f : X → Option Y → Option Z) where
  -- the values that f gives of each member of the first list and the second list's member about its owner
  abbrev pub side_by_side : List X → List Y → List Z
  side_by_side [] ys = []
  side_by_side (x ∷ xs) ys = cons_option (f x (first_about owner (key x) (from_owner owner (key x) ys))) (side_by_side xs (from_owner owner (key x) ys))

module _ {X Y Z : Type 0} (key : X → ℕ) (owner : Y → ℕ) (f : X → Option Y → Option Z) where
  walked_past : (all : List Y) (last : Option ℕ) (xs : List X) (ys : List Y) → rise_past last (map key xs) ≡ true → Rises (map owner ys)
      → ((k : ℕ) → is_past last k ≡ true → find (λ y. owner y == k) ys ≡ find (λ y. owner y == k) all)
      → side_by_side key owner f xs ys ≡ filter_map (λ x. f x (find (λ y. owner y == key x) all)) xs
  walked_past all last [] ys hx hy same = refl
  walked_past all last (x ∷ xs) ys hx hy same =
      let here = first_of (is_past last (key x)) (rise_past (Some (key x)) (map key xs)) hx in
      let rest = second_of (is_past last (key x)) (rise_past (Some (key x)) (map key xs)) hx in
      let found = first_found owner None (key x) ys hy ∙ same (key x) here in
      let later = walked_past all (Some (key x)) xs (from_owner owner (key x) ys) rest (rise_from owner (key x) None ys hy)
      (λ k p. find_later owner (key x) k ys (ltb-true (key x) k p) ∙ same k (past_trans last (key x) k here (ltb-true (key x) k p))) in
      λ i. cons_option (f x (found i)) (later i)

  -- a walk over lists whose owners rise finds what a search for each would
  pub walked_is : (xs : List X) (ys : List Y) → Rises (map key xs) → Rises (map owner ys) → side_by_side key owner f xs ys ≡ filter_map (λ x. f x (find (λ y. owner y == key x) ys)) xs
  walked_is xs ys hx hy = walked_past ys None xs ys hx hy (λ k p. refl)

  put_first : (o : Option Z) (made rest : List Z) → (made ++ option_to_list o) ++ rest ≡ made ++ cons_option o rest
  put_first (Some z) made rest = append_assoc made (z ∷ []) rest
  put_first None made rest = append_assoc made [] rest

  -- one step of a walk
  pub walk_step : (made : List Z) (xs : List X) (rest : List Y) (i : ℕ) (x : X) → i < length xs → x ≡ get_or xs i x
      → (made ++ option_to_list (f x (first_about owner (key x) (from_owner owner (key x) rest)))) ++ side_by_side key owner f (drop (i + 1) xs) (from_owner owner (key x) rest)
      ≡ made ++ side_by_side key owner f (drop i xs) rest
  walk_step made xs rest i x lt is =
      put_first (f x (first_about owner (key x) (from_owner owner (key x) rest))) made (side_by_side key owner f (drop (i + 1) xs) (from_owner owner (key x) rest))
      ∙ sym (ap (λ its. made ++ side_by_side key owner f its rest) (one_dropped xs i x lt is))

  -- the end of a walk
  pub walk_end : (made all : List Z) (xs : List X) (rest : List Y) (i : ℕ) → length xs ≤ i → made ++ side_by_side key owner f (drop i xs) rest ≡ all → made ≡ all
  walk_end made all xs rest i le is = sym (append-nil made) ∙ sym (ap (λ its. made ++ side_by_side key owner f its rest) (drop_all i xs le)) ∙ is

-- ---- one walk over both lists, which takes the members about the least owner

same_passes : (x k : ℕ) → k ≤ x → x ≤ k → (x == k) ≡ true
same_passes x k le ge = grind (arith, nat_tests)

module _ {X Y : Type 0} (key : X → ℕ) (owner : Y → ℕ) where
  pub rise_behind : (xs : List X) (ys : List Y) → Rises (map key xs) → Rises (map key (behind_next key owner xs ys))
  rise_behind [] ys h = h
  rise_behind (x ∷ xs) ys h =
      elim (begin_before owner (key x) ys) as (λ b. rise_past None (map key (cond b (x ∷ xs) xs)) ≡ true) [ true ↦ h | false ↦ rise_earlier None (key x) (map key xs) refl h ]

  shorter_by : (x : X) (xs : List X) (y : Y) (ys : List Y) (b : Bool) → nat_lt (owner y) (key x) ≡ b → (c : Bool) → nat_lt (key x) (owner y) ≡ c
      → length (cond b (x ∷ xs) xs) + length (cond c (y ∷ ys) ys) < length (x ∷ xs) + length (y ∷ ys)
  shorter_by x xs y ys true e true d = absurd (omega (arith, ltb-true (owner y) (key x) e, ltb-true (key x) (owner y) d))
  shorter_by x xs y ys true e false d = omega arith
  shorter_by x xs y ys false e true d = omega arith
  shorter_by x xs y ys false e false d = omega arith

  pub walk_shorter : (xs : List X) (ys : List Y) → 0 < length xs + length ys → length (behind_next key owner xs ys) + length (behind_next owner key ys xs) < length xs + length ys
  walk_shorter [] [] lt = absurd (omega (arith, lt))
  walk_shorter [] (y ∷ ys) lt = omega arith
  walk_shorter (x ∷ xs) [] lt = omega arith
  walk_shorter (x ∷ xs) (y ∷ ys) lt = shorter_by x xs y ys (nat_lt (owner y) (key x)) refl (nat_lt (key x) (owner y)) refl

module _ {X Y Z : Type 0} (key : X → ℕ) (owner : Y → ℕ) (f : X → Option Y → Option Z) where
  -- a member that all keys are past is walked past
  walked_behind : (n : ℕ) (xs : List X) (y : Y) (ys : List Y) → owner y ≤ n → rise_past (Some n) (map key xs) ≡ true → side_by_side key owner f xs (y ∷ ys) ≡ side_by_side key owner f xs ys
  walked_behind n [] y ys le h = refl
  walked_behind n (x ∷ xs) y ys le h =
      let past = ltb-true n (key x) (first_of (nat_lt n (key x)) (rise_past (Some (key x)) (map key xs)) h) in
      rw (is_less (owner y) (key x) (omega (arith, le, past))) refl

  pub joined_by : (x : X) (xs : List X) (y : Y) (ys : List Y) → rise_past (Some (key x)) (map key xs) ≡ true → (b : Bool) → nat_lt (owner y) (key x) ≡ b → (c : Bool) → nat_lt (key x) (owner y) ≡ c
      → side_by_side key owner f (x ∷ xs) (y ∷ ys) ≡ cons_option (of_member f (cond b None (Some x)) (cond c None (Some y))) (side_by_side key owner f (cond b (x ∷ xs) xs) (cond c (y ∷ ys) ys))
  joined_by x xs y ys h true e true d = absurd (omega (arith, ltb-true (owner y) (key x) e, ltb-true (key x) (owner y) d))
  joined_by x xs y ys h true e false d = rw e refl
  joined_by x xs y ys h false e true d = rw (e, more_differs (owner y) (key x) (ltb-true (key x) (owner y) d)) refl
  joined_by x xs y ys h false e false d =
      let le = ltb-false (key x) (owner y) d in
      rw (e, same_passes (owner y) (key x) (ltb-false (owner y) (key x) e) le) (ap (λ zs. cons_option (f x (Some y)) zs) (walked_behind (key x) xs y ys le h))

  joined : (xs : List X) (ys : List Y) → Rises (map key xs)
      → side_by_side key owner f xs ys ≡ cons_option (of_member f (next_of key owner xs ys) (next_of owner key ys xs)) (side_by_side key owner f (behind_next key owner xs ys) (behind_next owner key ys xs))
  joined [] ys h = refl
  joined (x ∷ xs) [] h = refl
  joined (x ∷ xs) (y ∷ ys) h = joined_by x xs y ys h (nat_lt (owner y) (key x)) refl (nat_lt (key x) (owner y)) refl

  -- one step of a walk over both lists
  pub join_step : (made : List Z) (xs : List X) (ys : List Y) → Rises (map key xs)
      → (made ++ option_to_list (of_member f (next_of key owner xs ys) (next_of owner key ys xs))) ++ side_by_side key owner f (behind_next key owner xs ys) (behind_next owner key ys xs)
      ≡ made ++ side_by_side key owner f xs ys
  join_step made xs ys h =
      put_first key owner f (of_member f (next_of key owner xs ys) (next_of owner key ys xs)) made (side_by_side key owner f (behind_next key owner xs ys) (behind_next owner key ys xs))
      ∙ ap (λ its. made ++ its) (sym (joined xs ys h))

  -- its end
  pub join_end : (made all : List Z) (xs : List X) (ys : List Y) → length xs ≡ 0 → made ++ side_by_side key owner f xs ys ≡ all → made ≡ all
  join_end made all [] ys e is = sym (append-nil made) ∙ is
  join_end made all (x ∷ xs) ys e is = absurd (omega (arith, e))

-- ---- the two lists of an answer to a SYN

pub same_test : (x k : ℕ) → (x == k) ≡ eq_by_cmp nat_cmp k x
same_test x k = grind (arith, nat_tests)

pub row_found : (k : ℕ) (rows : List (ℕ × EntryValue)) → option_map (λ r. r.1) (find (λ r. r.0 == k) rows) ≡ entries.find nat_cmp k rows
row_found k [] = refl
row_found k (r ∷ rows) =
    rw (same_test r.0 k) (elim (eq_by_cmp nat_cmp k r.0) as (λ b. option_map (λ (r : ℕ × EntryValue). r.1) (cond b (Some r) (find (λ r. r.0 == k) rows)) ≡ cond b (Some r.1) (entries.find nat_cmp k rows)) [
      | true ↦ refl
      | false ↦ row_found k rows
    ])

pub requests_walked : (m : Entries) (digests : List Digest) → Rises (endpoints_of_digests digests) → side_by_side (λ d. d.endpoint) (λ r. r.0) row_request digests (table.entries m) ≡ requests_for m digests
requests_walked m digests rise =
    walked_is (λ d. d.endpoint) (λ r. r.0) row_request digests (table.entries m) rise (rise_sorted (table.entries m) (table.entries_sorted m))
    ∙ (λ i. filter_map (λ d. request_by d ((row_found d.endpoint (table.entries m) ∙ sym (table.get-entries m d.endpoint)) i)) digests)

changed_at : (t : TableValue) (d : OwnerDelta) → changed_by t d (find (λ r. r.0 == d.endpoint) (table.entries t.entries)) ≡ change_of t d.endpoint d.delta
changed_at t d = λ i. change_at t.own d.endpoint ((row_found d.endpoint (table.entries t.entries) ∙ sym (table.get-entries t.entries d.endpoint)) i) d.delta

all_some : {X Y : Type 0} (f : X → Y) (xs : List X) → filter_map (λ x. Some (f x)) xs ≡ map f xs
all_some f [] = refl
all_some f (x ∷ xs) = ap (λ ys. f x ∷ ys) (all_some f xs)

-- the rows that deltas change, in one walk over deltas and rows
pub rows_walked : (t : TableValue) (ds : List OwnerDelta) → Rises (endpoints_of_deltas ds) → side_by_side (λ d. d.endpoint) (λ r. r.0) (row_by t) ds (table.entries t.entries) ≡ filter_map (row_changed t) ds
rows_walked t ds rise =
    walked_is (λ d. d.endpoint) (λ r. r.0) (row_by t) ds (table.entries t.entries) rise (rise_sorted (table.entries t.entries) (table.entries_sorted t.entries))
    ∙ (λ i. filter_map (λ d. (changed_at t d i).0) ds)

-- the outcomes of deltas, in one walk over deltas and rows
pub outcomes_walked : (t : TableValue) (ds : List OwnerDelta) → Rises (endpoints_of_deltas ds) → side_by_side (λ d. d.endpoint) (λ r. r.0) (outcome_by t) ds (table.entries t.entries) ≡ map (outcome_of t) ds
outcomes_walked t ds rise =
    walked_is (λ d. d.endpoint) (λ r. r.0) (outcome_by t) ds (table.entries t.entries) rise (rise_sorted (table.entries t.entries) (table.entries_sorted t.entries))
    ∙ (λ i. filter_map (λ (d : OwnerDelta). Some (record { endpoint = d.endpoint; took = (changed_at t d i).1 })) ds) ∙ all_some (outcome_of t) ds

pub deltas_walked : (m : Entries) (digests : List Digest) → Rises (endpoints_of_digests digests) → side_by_side (λ r. r.0) (λ d. d.endpoint) row_delta (table.entries m) digests ≡ deltas_for m digests
deltas_walked m digests rise = walked_is (λ r. r.0) (λ d. d.endpoint) row_delta (table.entries m) digests (rise_sorted (table.entries m) (table.entries_sorted m)) rise

-- ---- a front of which nothing is due

no_less : (n : ℕ) → nat_lt n n ≡ false
no_less n = grind (arith, nat_tests)

no_more : (n : ℕ) → nat_le n n ≡ true
no_more n = grind (arith, nat_tests)

itself : (n : ℕ) → (n == n) ≡ true
itself n = grind (arith, nat_tests)

module _ (r : ℕ × EntryValue) (d : Digest) (same : IsSame r d) where
  pub nothing_asked : row_request d (Some r) ≡ None
  nothing_asked = rw (same.generation, same.newest, no_less d.generation, itself d.generation, no_less d.newest) refl

  pub nothing_sent : row_delta r (Some d) ≡ None
  nothing_sent = rw (same.generation, no_less d.generation, itself d.generation, same.newest, no_more d.newest) refl

  same_less : nat_lt r.0 d.endpoint ≡ false
  same_less = rw same.endpoint (no_less d.endpoint)

  same_more : nat_lt d.endpoint r.0 ≡ false
  same_more = rw same.endpoint (no_less d.endpoint)

-- what is left of a walk behind a front of which nothing is due
pub record IsLeft (rows : List (ℕ × EntryValue)) (digests : List Digest) (behind : List (ℕ × EntryValue)) (others : List Digest) : Type 0 where
  pub rows_rise : Rises (map (λ (r : ℕ × EntryValue). r.0) behind)
  pub digests_rise : Rises (map (λ (d : Digest). d.endpoint) others)
  pub asked : side_by_side (λ (d : Digest). d.endpoint) (λ (r : ℕ × EntryValue). r.0) row_request others behind ≡ side_by_side (λ (d : Digest). d.endpoint) (λ (r : ℕ × EntryValue). r.0) row_request digests rows
  pub sent : side_by_side (λ (r : ℕ × EntryValue). r.0) (λ (d : Digest). d.endpoint) row_delta behind others ≡ side_by_side (λ (r : ℕ × EntryValue). r.0) (λ (d : Digest). d.endpoint) row_delta rows digests
  pub no_longer : length behind + length others ≤ length rows + length digests

left_of : (n : ℕ) (rows : List (ℕ × EntryValue)) (digests : List Digest) → Rises (map (λ (r : ℕ × EntryValue). r.0) rows) → Rises (map (λ (d : Digest). d.endpoint) digests) → AreSame n rows digests
    → IsLeft rows digests (drop n rows) (drop n digests)
left_of zero rows digests up also same = record { rows_rise = up; digests_rise = also; asked = refl; sent = refl; no_longer = omega arith }
left_of (suc n) [] digests up also same = absurd same
left_of (suc n) (r ∷ rows) [] up also same = absurd same
left_of (suc n) (r ∷ rows) (d ∷ digests) up also same =
    let left = left_of n rows digests (rise_earlier None r.0 (map (λ (r : ℕ × EntryValue). r.0) rows) refl up) (rise_earlier None d.endpoint (map (λ (d : Digest). d.endpoint) digests) refl also) same.1 in
    let less = same_less r d same.0 in
    let more = same_more r d same.0 in
    let asked = joined_by (λ (d : Digest). d.endpoint) (λ (r : ℕ × EntryValue). r.0) row_request d digests r rows also false less false more in
    let sent = joined_by (λ (r : ℕ × EntryValue). r.0) (λ (d : Digest). d.endpoint) row_delta r rows d digests up false more false less in
    record {
      rows_rise = left.rows_rise;
      digests_rise = left.digests_rise;
      asked = left.asked ∙ sym (asked ∙ ap (λ (o : Option RequestValue). cons_option o (side_by_side (λ (d : Digest). d.endpoint) (λ (r : ℕ × EntryValue). r.0) row_request digests rows)) (nothing_asked r d same.0));
      sent = left.sent ∙ sym (sent ∙ ap (λ (o : Option OwnerDelta). cons_option o (side_by_side (λ (r : ℕ × EntryValue). r.0) (λ (d : Digest). d.endpoint) row_delta rows digests)) (nothing_sent r d same.0));
      no_longer = omega (arith, left.no_longer);
    }

pub left_behind : (rows : List (ℕ × EntryValue)) (digests : List Digest) (behind : List (ℕ × EntryValue)) (others : List Digest) → Rises (map (λ (r : ℕ × EntryValue). r.0) rows) → Rises (map (λ (d : Digest). d.endpoint) digests) → AreBehindSame rows digests behind others
    → IsLeft rows digests behind others
left_behind rows digests behind others up also b = rw (b.rows_behind, b.digests_behind) (left_of b.count rows digests up also b.same)

-- one more of a front
pub same_next : (n : ℕ) (rows : List (ℕ × EntryValue)) (digests : List Digest) (r : ℕ × EntryValue) (d : Digest) → AreSame n rows digests → n < length rows → n < length digests → r ≡ get_or rows n r → d ≡ get_or digests n d → IsSame r d
    → AreSame (suc n) rows digests
same_next n [] digests r d same lt also is_r is_d here = absurd (omega arith)
same_next n (x ∷ rows) [] r d same lt also is_r is_d here = absurd (omega arith)
same_next zero (x ∷ rows) (y ∷ digests) r d same lt also is_r is_d here = (subst (λ (e : Digest). IsSame x e) is_d (subst (λ (q : ℕ × EntryValue). IsSame q d) is_r here), tt)
same_next (suc n) (x ∷ rows) (y ∷ digests) r d same lt also is_r is_d here = (same.0, same_next n rows digests r d same.1 (omega arith) (omega arith) is_r is_d here)
