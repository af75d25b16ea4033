-- A state that is put into the vector, and its place at the end.
use Rattle.std.proofs.Common.{◌≡◌, ℕ, zero, suc, ◌+◌, ◌-◌, ◌<◌, ◌≤◌, ◌==◌, ◌^◌, Bool, true, false, cond, List, [], ◌∷◌, ◌++◌, map, length, get_or, Option, Some, None, refl, sym, ap, subst, ◌∙◌, arith, nat_lt, inl, inr, eqb-true, eq-eqb, length-append}
use Rattle.std.specs.Prelude.{nat_le, not, insert}
use Rattle.std.specs.List.{filter, AllByRecursion, AllWithin}
use Rattle.std.specs.Ordering.{nat_cmp}
use Rattle.std.specs.Cmp.{nat_cmp_is}
use Rattle.std.specs.declared.cmp.Ordering.{Ordering}
use Rattle.std.specs.declared.cmp.Ordering.TheVariants.{Greater}
use Rattle.std.specs.FinMap.Entries.{put, by_order}
use Rattle.std.specs.FinMap as finmap
use Rattle.std.proofs.lemmas.Bool.{lt-ltb, ltb-true, ltb-false, leb-true, leb-false, lt-leb, le-leb, or_cases, or_left, or_right, cases_order}
use Rattle.std.proofs.lemmas.Bool.Decides.{nat_tests}
use Rattle.std.proofs.lemmas.List.{map-append}
use Rattle.std.proofs.lemmas.List.Folds.{list_any-append}
use Rattle.std.proofs.lemmas.List.Sums.{sum_by-append, sum_by-cons}
use Rattle.std.proofs.lemmas.List.Sorted.{IsNonDecreasingBy-insert}
use Rattle.std.proofs.lemmas.List.Edits.{length-insert, get_or-insert_below, get_or-insert_at, get_or-insert_above}
use Rattle.cg_types.specs.declared.limits.TheConstants.{STATE_LIMIT}
use Rattle.cg_types.specs.Rising.{Rises, rise_past, is_past, is_among}
use Rattle.cg_types.proofs.RisingLemmas.{both, first_of, second_of}
use Rattle.cg_entry.specs.declared.state.State.{State}
use Rattle.cg_entry.specs.Contents.{IsState}
use Rattle.cg_entry.specs.Entry.{text_size}
use Rattle.cg_entry.specs.State.{pair, pairs, value_at_key, listed_bytes, KeysRise}
use Rattle.cg_entry.specs.Versioned.{Versioned, States}
use Rattle.cg_entry.proofs.StateLemmas.{pairs_rise, entries-pairs}
use Rattle.cg_entry.proofs.PutLemmas.{put_inserted}
use Rattle.cg_entry.proofs.FewLemmas.{states_few, bytes_few}
use Rattle.cg_entry.specs.Block.{no_state, state_at, picked, bumped, IsRisen, IsBlock}
use Rattle.cg_entry.proofs.BlockLemmas.{length-rows}

-- ---- as many places as states

is_other : ℕ → ℕ → Bool
is_other n p = not (p == n)

-- the other places have all other numbers
among_others : (n i : ℕ) (ps : List ℕ) → i < n → is_among ps i ≡ true → is_among (filter (λ p. not (p == n)) ps) i ≡ true
among_others n i [] lt e = e
among_others n i (p ∷ ps) lt e =
    elim (or_cases (p == i) (is_among ps i) e) [
      | inl same ↦
          let kept : not (p == n) ≡ true = grind (arith, nat_tests) in
          rw kept (or_left (p == i) (is_among (filter (λ p. not (p == n)) ps) i) same)
      | inr rest ↦
          elim (not (p == n)) as (λ b. is_among (cond b (p ∷ filter (λ p. not (p == n)) ps) (filter (λ p. not (p == n)) ps)) i ≡ true) [
            | true ↦ or_right (p == i) (is_among (filter (λ p. not (p == n)) ps) i) (among_others n i ps lt rest)
            | false ↦ among_others n i ps lt rest
          ]
    ]

shorter : (n : ℕ) (ps : List ℕ) → length (filter (λ p. not (p == n)) ps) ≤ length ps
shorter n [] = omega arith
shorter n (p ∷ ps) = elim (not (p == n)) as (λ b. length (cond b (p ∷ filter (λ p. not (p == n)) ps) (filter (λ p. not (p == n)) ps)) ≤ suc (length ps)) [ true ↦ omega (arith, shorter n ps) | false ↦ omega (arith, shorter n ps) ]

without_one : (n : ℕ) (ps : List ℕ) → is_among ps n ≡ true → length (filter (λ p. not (p == n)) ps) < length ps
without_one n [] e = absurd cc
without_one n (p ∷ ps) e =
    elim (or_cases (p == n) (is_among ps n) e) [
      | inl same ↦
          let gone : not (p == n) ≡ false = ap not same in
          rw gone (omega (arith, shorter n ps))
      | inr rest ↦
          elim (not (p == n)) as (λ b. length (cond b (p ∷ filter (λ p. not (p == n)) ps) (filter (λ p. not (p == n)) ps)) < suc (length ps)) [
            | true ↦ omega (arith, without_one n ps rest)
            | false ↦ omega (arith, without_one n ps rest)
          ]
    ]

pub few_places : (n : ℕ) (ps : List ℕ) → ((i : ℕ) → i < n → is_among ps i ≡ true) → n ≤ length ps
few_places zero ps all = omega arith
few_places (suc n) ps all =
    omega (arith, without_one n ps (all n (omega arith)), few_places n (filter (λ p. not (p == n)) ps) (λ i lt. among_others n i ps lt (all i (omega arith))))

-- ---- the states that are picked after an insert

module _ (xs : List State) (at : ℕ) (s : State) (le : at ≤ length xs) where
  bumped_at : (p : ℕ) → state_at (insert xs at s) (cond (nat_le at p) (suc p) p) ≡ state_at xs p
  bumped_at p =
      elim (nat_le at p) as (λ b. nat_le at p ≡ b → state_at (insert xs at s) (cond b (suc p) p) ≡ state_at xs p) [
        | true ↦ λ e. let over : at ≤ p = leb-true at p e in subst (λ n. get_or (insert xs at s) n no_state ≡ get_or xs p no_state) (omega arith) (get_or-insert_above xs at s no_state p over le)
        | false ↦ λ e. get_or-insert_below xs at s no_state p (leb-false at p e) le
      ] refl

  picked_bumped : (ps : List ℕ) → picked (insert xs at s) (bumped at ps) ≡ picked xs ps
  picked_bumped [] = refl
  picked_bumped (p ∷ ps) = (λ i. bumped_at p i ∷ picked_bumped ps i)

  pub picked_put : (ps : List ℕ) → picked (insert xs at s) (bumped at ps ++ at ∷ []) ≡ picked xs ps ++ s ∷ []
  picked_put ps =
      map-append (state_at (insert xs at s)) (bumped at ps) (at ∷ [])
      ∙ (λ i. picked_bumped ps i ++ get_or-insert_at xs at s no_state le i ∷ [])

  within_bumped : (ps : List ℕ) → AllByRecursion (λ p. p < length xs) ps → AllByRecursion (λ p. p < length (insert xs at s)) (bumped at ps ++ at ∷ [])
  within_bumped [] all = (omega (arith, length-insert xs at s le), tt)
  within_bumped (p ∷ ps) all =
      (elim (nat_le at p) as (λ b. cond b (suc p) p < length (insert xs at s)) [ true ↦ omega (arith, all.0, length-insert xs at s le) | false ↦ omega (arith, all.0, length-insert xs at s le) ], within_bumped ps all.1)

among_bumped : (at j : ℕ) (ps : List ℕ) → is_among ps j ≡ true → is_among (bumped at ps) (cond (nat_le at j) (suc j) j) ≡ true
among_bumped at j [] e = absurd cc
among_bumped at j (p ∷ ps) e =
    let q = cond (nat_le at j) (suc j) j in
    elim (or_cases (p == j) (is_among ps j) e) [
      | inl same ↦ or_left (cond (nat_le at p) (suc p) p == q) (is_among (bumped at ps) q) (eq-eqb (cond (nat_le at p) (suc p) p) q (ap (λ n. cond (nat_le at n) (suc n) n) (eqb-true p j same)))
      | inr rest ↦ or_right (cond (nat_le at p) (suc p) p == q) (is_among (bumped at ps) q) (among_bumped at j ps rest)
    ]

among_front : (i at : ℕ) (ps : List ℕ) → is_among ps i ≡ true → is_among (ps ++ at ∷ []) i ≡ true
among_front i at ps e = list_any-append (λ y. y == i) ps (at ∷ []) ∙ or_left (is_among ps i) (is_among (at ∷ []) i) e

among_last : (i at : ℕ) (ps : List ℕ) → at ≡ i → is_among (ps ++ at ∷ []) i ≡ true
among_last i at ps same = list_any-append (λ y. y == i) ps (at ∷ []) ∙ or_right (is_among ps i) (is_among (at ∷ []) i) (or_left (at == i) false (eq-eqb at i same))

whole_put : (n at : ℕ) (ps : List ℕ) → ((i : ℕ) → i < n → is_among ps i ≡ true) → at ≤ n → (i : ℕ) → i < n + 1 → is_among (bumped at ps ++ at ∷ []) i ≡ true
whole_put n at ps all le i lt =
    elim (cases_order i at) [
      | inl same ↦ among_last i at (bumped at ps) (sym same)
      | inr (inl below) ↦
          let stays : cond (nat_le at i) (suc i) i ≡ i = ap (λ b. cond b (suc i) i) (lt-leb at i below) in
          among_front i at (bumped at ps) (subst (λ k. is_among (bumped at ps) k ≡ true) stays (among_bumped at i ps (all i (omega arith))))
      | inr (inr above) ↦
          let raised : cond (nat_le at (i - 1)) (suc (i - 1)) (i - 1) ≡ i = ap (λ b. cond b (suc (i - 1)) (i - 1)) (le-leb at (i - 1) (omega arith)) ∙ omega arith in
          among_front i at (bumped at ps) (subst (λ k. is_among (bumped at ps) k ≡ true) raised (among_bumped at (i - 1) ps (all (i - 1) (omega arith))))
    ]

-- a fact of each state that is picked is one of the state at each place
pub all_picked : (P : ℕ × Versioned → Type 0) (xs : List State) (i : ℕ) (ps : List ℕ) → is_among ps i ≡ true → AllByRecursion P (pairs (picked xs ps)) → P (pair (state_at xs i))
all_picked P xs i [] e all = absurd cc
all_picked P xs i (p ∷ ps) e all =
    elim (or_cases (p == i) (is_among ps i) e) [
      | inl same ↦ subst (λ n. P (pair (state_at xs n))) (eqb-true p i same) all.0
      | inr rest ↦ all_picked P xs i ps rest all.1
    ]

-- ---- lists with one more at the end

pub all_push : {X : Type 0} (P : X → Type 0) (xs : List X) (x : X) → AllByRecursion P xs → P x → AllByRecursion P (xs ++ x ∷ [])
all_push P [] x all is = (is, tt)
all_push P (y ∷ ys) x all is = (all.0, all_push P ys x all.1 is)

rise_push : (last : Option ℕ) (ks : List ℕ) (k : ℕ) → rise_past last ks ≡ true → is_past last k ≡ true → AllByRecursion (λ x. x < k) ks → rise_past last (ks ++ k ∷ []) ≡ true
rise_push last [] k h past all = both (is_past last k) true past refl
rise_push last (x ∷ xs) k h past all =
    both (is_past last x) (rise_past (Some x) (xs ++ k ∷ [])) (first_of (is_past last x) (rise_past (Some x) xs) h)
    (rise_push (Some x) xs k (second_of (is_past last x) (rise_past (Some x) xs) h) (lt-ltb x k all.0) all.1)

keys_below : (k : ℕ) (ys : List State) → AllByRecursion (λ (e : ℕ × Versioned). e.0 < k) (pairs ys) → AllByRecursion (λ x. x < k) (map (λ (s : State). s.key) ys)
keys_below k [] all = tt
keys_below k (y ∷ ys) all = (all.0, keys_below k ys all.1)

pub keys_push : (ys : List State) (s : State) → KeysRise ys → AllByRecursion (λ (e : ℕ × Versioned). e.0 < s.key) (pairs ys) → KeysRise (ys ++ s ∷ [])
keys_push ys s rise past =
    subst (λ ks. Rises ks) (sym (map-append (λ (s : State). s.key) ys (s ∷ []))) (rise_push None (map (λ (s : State). s.key) ys) s.key rise refl (keys_below s.key ys past))

pub put_last : (k : ℕ) (v : Versioned) (es : List (ℕ × Versioned)) → AllByRecursion (λ (e : ℕ × Versioned). e.0 < k) es → put nat_cmp k v es ≡ es ++ (k, v) ∷ []
put_last k v [] all = refl
put_last k v (e ∷ es) all =
    sym (ap (λ (r : Ordering). by_order r ((k, v) ∷ e ∷ es) ((e.0, v) ∷ es) (e ∷ put nat_cmp k v es)) (nat_cmp_is k e.0 Greater all.0)) ∙ ap (λ (xs : List (ℕ × Versioned)). e ∷ xs) (put_last k v es all.1)

-- ---- the block with one more

module _ (xs : List State) (ps : List ℕ) (bytes at : ℕ) (s : State) (b : IsBlock xs ps bytes) (le : at ≤ length xs)
    (older : AllWithin (λ (t : State). nat_lt s.version t.version ≡ false) xs 0 at) (newer : AllWithin (λ (t : State). nat_lt s.version t.version ≡ true) xs at (length xs))
    (is : IsState (pair s)) (past : AllByRecursion (λ (e : ℕ × Versioned). e.0 < s.key) (pairs (picked xs ps))) where
  ins : List State
  ins = insert xs at s

  ins_below : (k : ℕ) → k < at → state_at (insert xs at s) k ≡ state_at xs k
  ins_below k lt = get_or-insert_below xs at s no_state k lt le

  ins_here : state_at (insert xs at s) at ≡ s
  ins_here = get_or-insert_at xs at s no_state le

  ins_above : (k : ℕ) → at < k → state_at (insert xs at s) k ≡ state_at xs (k - 1)
  ins_above k lt = subst (λ n. state_at (insert xs at s) n ≡ state_at xs (k - 1)) (omega arith) (get_or-insert_above xs at s no_state (k - 1) (omega arith) le)

  key_below : (i : ℕ) → i < length xs → (state_at xs i).key < s.key
  key_below i lt = all_picked (λ (e : ℕ × Versioned). e.0 < s.key) xs i ps (b.whole i lt) past

  -- at equal versions the lesser key stands first
  abbrev Stand : State → State → Type 0
  Stand x y = x.version ≡ y.version → x.key < y.key

  stand : (i j : ℕ) → i < j → j < length xs + 1 → Stand (state_at (insert xs at s) i) (state_at (insert xs at s) j)
  stand i j lt hi =
      elim (cases_order j at) [
        | inl same ↦ subst (λ (y : State). Stand (state_at (insert xs at s) i) y) (sym (ap (state_at (insert xs at s)) same ∙ ins_here))
            (subst (λ (x : State). Stand x s) (sym (ins_below i (omega arith))) (λ _. key_below i (omega arith)))
        | inr (inl below) ↦ rw (ins_below j below, ins_below i (omega arith)) (b.risen.keys i j lt (omega arith))
        | inr (inr above) ↦ subst (λ (y : State). Stand (state_at (insert xs at s) i) y) (sym (ins_above j above)) (elim (cases_order i at) [
          | inl same ↦ subst (λ (x : State). Stand x (state_at xs (j - 1))) (sym (ap (state_at (insert xs at s)) same ∙ ins_here))
              (λ e. let over : s.version < (state_at xs (j - 1)).version = ltb-true s.version (state_at xs (j - 1)).version (newer (j - 1) no_state (omega arith) (omega arith)) in absurd (omega arith))
          | inr (inl below) ↦ subst (λ (x : State). Stand x (state_at xs (j - 1))) (sym (ins_below i below)) (b.risen.keys i (j - 1) (omega arith) (omega arith))
          | inr (inr over) ↦ subst (λ (x : State). Stand x (state_at xs (j - 1))) (sym (ins_above i over)) (b.risen.keys (i - 1) (j - 1) (omega arith) (omega arith))
        ])
      ]

  risen_put : IsRisen (insert xs at s)
  risen_put = record {
    versions = IsNonDecreasingBy-insert (λ (t : State). t.version) xs at s b.risen.versions le
        (λ k d lt. ltb-false s.version _ (older k d (omega arith) lt)) (λ k d lo hi. let over = ltb-true s.version _ (newer k d lo hi) in omega arith);
    keys = λ i j lt hi. stand i j lt (omega (arith, hi, length-insert xs at s le));
  }

  pub listed_put : picked (insert xs at s) (bumped at ps ++ at ∷ []) ≡ picked xs ps ++ s ∷ []
  listed_put = picked_put xs at s le ps

  bytes_put : bytes + text_size s.text ≡ listed_bytes (picked xs ps ++ s ∷ [])
  bytes_put =
      let parts : listed_bytes (picked xs ps ++ s ∷ []) ≡ listed_bytes (picked xs ps) + listed_bytes (s ∷ []) = sum_by-append (λ (t : State). text_size t.text) (picked xs ps) (s ∷ []) in
      let one : listed_bytes (s ∷ []) ≡ text_size s.text + 0 = sum_by-cons (λ (t : State). text_size t.text) s [] in
      let counted = b.counted in
      omega arith

  pub block_put : IsBlock (insert xs at s) (bumped at ps ++ at ∷ []) (bytes + text_size s.text)
  block_put = record {
    risen = risen_put;
    rise = subst (λ (ys : List State). KeysRise ys) (sym listed_put) (keys_push (picked xs ps) s b.rise past);
    within = within_bumped xs at s le ps b.within;
    whole = λ i lt. whole_put (length xs) at ps b.whole le i (omega (arith, lt, length-insert xs at s le));
    valid = subst (λ (ys : List State). AllByRecursion IsState (pairs ys)) (sym listed_put) (subst (λ es. AllByRecursion IsState es) (sym (map-append pair (picked xs ps) (s ∷ []))) (all_push IsState (pairs (picked xs ps)) (pair s) b.valid is));
    counted = bytes_put ∙ ap listed_bytes (sym listed_put);
  }

  pub view_put : (states : States) → finmap.from_sorted {R = nat_cmp} (pairs (picked xs ps)) ≡ states → finmap.from_sorted {R = nat_cmp} (pairs (picked (insert xs at s) (bumped at ps ++ at ∷ []))) ≡ finmap.insert states s.key (value_at_key s)
  view_put states seen =
      ap (λ (ys : List State). finmap.from_sorted {R = nat_cmp} (pairs ys)) listed_put
      ∙ put_inserted s.key (value_at_key s) (picked xs ps) (picked xs ps) (picked xs ps ++ s ∷ []) states refl b.rise seen
      (map-append pair (picked xs ps) (s ∷ []) ∙ sym (put_last s.key (value_at_key s) (pairs (picked xs ps)) past))

  -- there is room for one more
  pub room : (length xs < STATE_LIMIT) × (length ps < STATE_LIMIT)
  room =
      let few : length (pairs (picked xs ps ++ s ∷ [])) ≤ STATE_LIMIT = states_few IsState (λ e is. is.key) (pairs (picked xs ps ++ s ∷ []))
      (subst (λ es. AllByRecursion IsState es) (sym (map-append pair (picked xs ps) (s ∷ []))) (all_push IsState (pairs (picked xs ps)) (pair s) b.valid is))
      (pairs_rise (picked xs ps ++ s ∷ []) (keys_push (picked xs ps) s b.rise past)) in
      let parts : length (pairs (picked xs ps ++ s ∷ [])) ≡ length ps + 1 = ap length (map-append pair (picked xs ps) (s ∷ [])) ∙ length-append (pairs (picked xs ps)) (pair s ∷ []) ∙ ap (λ n. n + 1) (length-rows xs ps) in
      let places : length xs ≤ length ps = few_places (length xs) ps b.whole in
      (omega arith, omega arith)

  pub bytes_few_put : bytes + text_size s.text < 2 ^ 32
  bytes_few_put =
      let ys = picked xs ps ++ s ∷ [] in
      let few : listed_bytes ys < 2 ^ 32 = bytes_few ys ys refl (keys_push (picked xs ps) s b.rise past)
      (subst (λ es. AllByRecursion IsState es) (sym (map-append pair (picked xs ps) (s ∷ []))) (all_push IsState (pairs (picked xs ps)) (pair s) b.valid is)) in
      omega (arith, few, bytes_put)

-- the block that a push leaves
pub record Pushed (xs : List State) (ps : List ℕ) (bytes at : ℕ) (s : State) (states : States) : Type 0 where
  pub within : at ≤ length xs
  pub few : length xs < STATE_LIMIT
  pub few_places : length ps < STATE_LIMIT
  pub few_bytes : bytes + text_size s.text < 2 ^ 32
  pub block : IsBlock (insert xs at s) (bumped at ps ++ at ∷ []) (bytes + text_size s.text)
  pub view : finmap.from_sorted {R = nat_cmp} (pairs (picked (insert xs at s) (bumped at ps ++ at ∷ []))) ≡ finmap.insert states s.key (value_at_key s)

pub pushed : (given xs : List State) (ps : List ℕ) (bytes at v : ℕ) (s : State) (states : States) → IsBlock xs ps bytes → finmap.from_sorted {R = nat_cmp} (pairs (picked xs ps)) ≡ states
    → given ≡ xs → v ≡ s.version → at ≤ length given
    → AllWithin (λ (t : State). nat_lt v t.version ≡ false) given 0 at → AllWithin (λ (t : State). nat_lt v t.version ≡ true) given at (length given)
    → IsState (pair s) → AllByRecursion (λ (e : ℕ × Versioned). e.0 < s.key) (finmap.entries states) → Pushed xs ps bytes at s states
pushed given xs ps bytes at v s states b seen same is_version le older newer is past =
    let here : at ≤ length xs = subst (λ (ys : List State). at ≤ length ys) same le in
    let old : AllWithin (λ (t : State). nat_lt s.version t.version ≡ false) xs 0 at =
    subst (λ n. AllWithin (λ (t : State). nat_lt n t.version ≡ false) xs 0 at) is_version (subst (λ (ys : List State). AllWithin (λ (t : State). nat_lt v t.version ≡ false) ys 0 at) same older) in
    let new : AllWithin (λ (t : State). nat_lt s.version t.version ≡ true) xs at (length xs) =
    subst (λ n. AllWithin (λ (t : State). nat_lt n t.version ≡ true) xs at (length xs)) is_version (subst (λ (ys : List State). AllWithin (λ (t : State). nat_lt v t.version ≡ true) ys at (length ys)) same newer) in
    let behind : AllByRecursion (λ (e : ℕ × Versioned). e.0 < s.key) (pairs (picked xs ps)) =
    subst (λ es. AllByRecursion (λ (e : ℕ × Versioned). e.0 < s.key) es) (ap finmap.entries (sym seen) ∙ entries-pairs (picked xs ps) b.rise) past in
    record {
      within = here;
      few = (room xs ps bytes at s b here old new is behind).0;
      few_places = (room xs ps bytes at s b here old new is behind).1;
      few_bytes = bytes_few_put xs ps bytes at s b here old new is behind;
      block = block_put xs ps bytes at s b here old new is behind;
      view = view_put xs ps bytes at s b here old new is behind states seen;
    }
