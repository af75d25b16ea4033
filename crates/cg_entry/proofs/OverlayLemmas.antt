-- States that are put one after the other are laid over others.
use Rattle.std.proofs.Common.{◌≡◌, ℕ, suc, ◌+◌, ◌<◌, ◌≤◌, ◌==◌, ◌||◌, Bool, true, false, cond, List, [], ◌∷◌, length, drop, get_or, Option, Some, None, refl, sym, ap, subst, ◌∙◌, arith, inl, inr, eqb-true, add-one, drop-cons}
use Rattle.std.specs.List.{AllByRecursion, list_any, range_with_len}
use Rattle.std.specs.Option.{option_or}
use Rattle.std.specs.Ordering.{nat_cmp, eq_by_cmp}
use Rattle.std.specs.Cmp.{nat_cmp_total}
use Rattle.std.specs.FinMap as finmap
use Rattle.std.specs.FinMap.{get, insert, same_map, nat_cmp-IsAntisymmetric, get-insert}
use Rattle.std.specs.FinMap.Entries.{find}
use Rattle.std.proofs.lemmas.Bool.{or_cases}
use Rattle.std.proofs.lemmas.List.{drop_all}
use Rattle.std.proofs.lemmas.List.Folds.{list_any_at}
use Rattle.cg_types.specs.Rising.{is_among}
use Rattle.cg_types.proofs.RisingLemmas.{same_tied, get_rising}
use Rattle.cg_types.proofs.RowLemmas.{find_row}
use Rattle.cg_entry.specs.declared.state.State.{State}
use Rattle.cg_entry.specs.Entry.{overlay}
use Rattle.cg_entry.specs.State.{pair, pairs, value_at_key, KeysRise}
use Rattle.cg_entry.specs.Versioned.{Versioned, States}
use Rattle.cg_entry.specs.Block.{no_state, state_at, picked, put_all, IsBlock}
use Rattle.cg_entry.proofs.StateLemmas.{pairs_rise}
use Rattle.cg_entry.proofs.PutLemmas.{get-overlay}
use Rattle.cg_entry.proofs.BlockLemmas.{length-rows, row_at}
use Rattle.cg_entry.proofs.OrderLemmas.{picked_first, range_within, range_among}

-- ---- one after the other

pub put_next : (xs : List State) (i : ℕ) (s : State) (m next : States) → i < length xs → s ≡ get_or xs i s → next ≡ insert m s.key (value_at_key s) → put_all (drop (i + 1) xs) next ≡ put_all (drop i xs) m
put_next xs i s m next lt is step =
    let front : drop i xs ≡ s ∷ drop (i + 1) xs = rw add-one (drop-cons xs i s lt ∙ ap (λ (t : State). t ∷ drop (suc i) xs) (sym is)) in
    rw (front, step) refl

pub put_whole : (xs : List State) (i : ℕ) (m : States) → length xs ≤ i → put_all (drop i xs) m ≡ m
put_whole xs i m le = ap (λ (ys : List State). put_all ys m) (drop_all i xs le)

-- ---- laid over others

-- a test that a state of the list has the key
abbrev has_key : ℕ → List State → Bool
has_key q xs = list_any (λ s. eq_by_cmp nat_cmp q s.key) xs

abbrev Holds : States → State → Type 0
Holds new s = get new s.key ≡ Some (value_at_key s)

cond_one : {X : Type 0} (b : Bool) (x y : X) → x ≡ y → cond b x y ≡ x
cond_one true x y same = refl
cond_one false x y same = sym same

get-put_all : (new : States) (xs : List State) (m : States) (q : ℕ) → AllByRecursion (Holds new) xs → get (put_all xs m) q ≡ cond (has_key q xs) (get new q) (get m q)
get-put_all new [] m q all = refl
get-put_all new (s ∷ ss) m q all =
    get-put_all new ss (insert m s.key (value_at_key s)) q all.1 ∙ ap (cond (has_key q ss) (get new q)) (get-insert nat_cmp_total m s.key (value_at_key s) q)
    ∙ elim (eq_by_cmp nat_cmp q s.key) as (λ b. eq_by_cmp nat_cmp q s.key ≡ b → cond (has_key q ss) (get new q) (cond b (Some (value_at_key s)) (get m q)) ≡ cond (b || has_key q ss) (get new q) (get m q)) [
      | true ↦ λ tied. cond_one (has_key q ss) (get new q) (Some (value_at_key s)) (ap (get new) (same_tied q s.key tied) ∙ all.0)
      | false ↦ λ tied. refl
    ] refl

new_first : (new : States) (xs : List State) (q : ℕ) (o : Option Versioned) → AllByRecursion (Holds new) xs → has_key q xs ≡ true → option_or (get new q) o ≡ get new q
new_first new [] q o all e = absurd cc
new_first new (s ∷ ss) q o all e =
    elim (or_cases (eq_by_cmp nat_cmp q s.key) (has_key q ss) e) [
      | inl tied ↦
          let here : get new q ≡ Some (value_at_key s) = ap (get new) (same_tied q s.key tied) ∙ all.0 in
          ap (λ (p : Option Versioned). option_or p o) here ∙ sym here
      | inr rest ↦ new_first new ss q o all.1 rest
    ]

laid_over : (new : States) (xs : List State) → AllByRecursion (Holds new) xs → ((q : ℕ) → has_key q xs ≡ false → get new q ≡ None) → (old : States) → put_all xs old ≡ overlay old new
laid_over new xs each none old =
    same_map nat_cmp_total nat_cmp-IsAntisymmetric (put_all xs old) (overlay old new) (λ q.
    get-put_all new xs old q each
    ∙ (elim (has_key q xs) as (λ b. has_key q xs ≡ b → cond b (get new q) (get old q) ≡ option_or (get new q) (get old q)) [
      | true ↦ λ e. sym (new_first new xs q (get old q) each e)
      | false ↦ λ e. sym (ap (λ (o : Option Versioned). option_or o (get old q)) (none q e))
    ] refl)
    ∙ sym (get-overlay old new q))

-- ---- the vector of a block

number_of : (ps : List ℕ) (i : ℕ) → is_among ps i ≡ true → (n : ℕ) × (n < length ps) × (get_or ps n 0 ≡ i)
number_of [] i e = absurd cc
number_of (p ∷ ps) i e =
    elim (or_cases (p == i) (is_among ps i) e) [
      | inl same ↦ (0, omega arith, eqb-true p i same)
      | inr rest ↦ let found = number_of ps i rest in (suc found.0, omega (arith, found.1), found.2)
    ]

all_states : (P : State → Type 0) (xs : List State) → ((i : ℕ) → i < length xs → P (state_at xs i)) → AllByRecursion P xs
all_states P [] is = tt
all_states P (x ∷ xs) is = (is 0 (omega arith), all_states P xs (λ i lt. is (suc i) (omega arith)))

no_false : true ≡ false → ⊥
no_false e = cc

find_none : (xs : List State) (q : ℕ) (ps : List ℕ) → AllByRecursion (λ p. p < length xs) ps → has_key q xs ≡ false → find nat_cmp q (pairs (picked xs ps)) ≡ None
find_none xs q [] all none = refl
find_none xs q (p ∷ ps) all none =
    elim (eq_by_cmp nat_cmp q (state_at xs p).key) as (λ b. eq_by_cmp nat_cmp q (state_at xs p).key ≡ b → cond b (Some (value_at_key (state_at xs p))) (find nat_cmp q (pairs (picked xs ps))) ≡ None) [
      | true ↦ λ tied. absurd (no_false (sym (list_any_at (λ (s : State). eq_by_cmp nat_cmp q s.key) xs p no_state all.0 tied) ∙ none))
      | false ↦ λ tied. find_none xs q ps all.1 none
    ] refl

-- the states of a vector, each once, are laid over others
pub laid_vector : (xs : List State) (ps : List ℕ) (new : States) → KeysRise (picked xs ps) → AllByRecursion (λ p. p < length xs) ps → ((i : ℕ) → i < length xs → is_among ps i ≡ true)
    → finmap.from_sorted {R = nat_cmp} (pairs (picked xs ps)) ≡ new → (old : States) → put_all xs old ≡ overlay old new
laid_vector xs ps new rise within whole seen =
    let rows = pairs (picked xs ps) in
    let look : (q : ℕ) → get new q ≡ find nat_cmp q rows = λ q. ap (λ (m : States). get m q) (sym seen) ∙ get_rising rows q (pairs_rise (picked xs ps) rise) in
    laid_over new xs
    (all_states (Holds new) xs (λ i lt.
    let found = number_of ps i (whole i lt) in
    let n : ℕ = found.0 in
    let here : get_or rows n (pair no_state) ≡ pair (state_at xs i) = row_at xs ps n 0 (pair no_state) found.1 ∙ ap (λ p. pair (state_at xs p)) found.2 in
    look (state_at xs i).key
    ∙ find_row (state_at xs i).key rows n (pair no_state) (pairs_rise (picked xs ps) rise) (record {
      in_range = omega (arith, found.1, length-rows xs ps);
      has_key = λ d. ap (λ (e : ℕ × Versioned). e.0) (row_at xs ps n 0 d found.1 ∙ ap (λ p. pair (state_at xs p)) found.2);
    })
    ∙ ap (λ (e : ℕ × Versioned). Some e.1) here))
    (λ q none. look q ∙ find_none xs q ps within none)

-- the states of a list, which rises by key
pub laid_list : (given xs : List State) (new : States) → given ≡ xs → KeysRise xs → finmap.from_sorted {R = nat_cmp} (pairs xs) ≡ new → (old : States) → put_all given old ≡ overlay old new
laid_list given xs new same rise seen old =
    ap (λ (ys : List State). put_all ys old) same
    ∙ laid_vector xs (range_with_len 0 (length xs)) new (subst (λ (ys : List State). KeysRise ys) (sym (picked_first xs)) rise) (range_within (length xs) 0 (length xs) (omega arith))
    (λ i lt. range_among 0 (length xs) i (omega arith) (omega arith)) (ap (λ (ys : List State). finmap.from_sorted {R = nat_cmp} (pairs ys)) (picked_first xs) ∙ seen) old

pub laid_over_vector : (given xs : List State) (ps : List ℕ) (bytes : ℕ) (new : States) → IsBlock xs ps bytes → finmap.from_sorted {R = nat_cmp} (pairs (picked xs ps)) ≡ new → given ≡ xs → (old : States) → put_all given old ≡ overlay old new
laid_over_vector given xs ps bytes new b seen same old = ap (λ (ys : List State). put_all ys old) same ∙ laid_vector xs ps new b.rise b.within b.whole seen old
