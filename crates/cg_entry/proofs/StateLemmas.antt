-- States in a list, and their map.
use Rattle.std.proofs.Common.{◌≡◌, ℕ, ◌≤◌, ◌==◌, Bool, true, false, find, Some, arith, cond, List, [], ◌∷◌, map, length, drop, None, refl, sym, ap, ◌∙◌, nat_lt}
use Rattle.std.specs.List.{filter}
use Rattle.std.specs.Ordering.{nat_cmp, eq_by_cmp}
use Rattle.std.specs.Option.{option_map}
use Rattle.std.specs.FinMap.Entries.{find as find_entry}
use Rattle.std.proofs.lemmas.Bool.Decides.{nat_tests}
use Rattle.std.specs.FinMap.{get, entries, from_sorted}
use Rattle.std.proofs.lemmas.List.{drop_all}
use Rattle.cg_types.specs.Rising.{Rises}
use Rattle.cg_types.proofs.RisingLemmas.{keys_of, entries_rising, get_rising, filter_rising, rise_filter}
use Rattle.cg_entry.specs.declared.state.State.{State}
use Rattle.cg_entry.specs.Versioned.{Versioned, States}
use Rattle.cg_entry.specs.State.{pair, pairs, value_at_key, KeysRise}
use Rattle.cg_entry.specs.Entry.{greatest_of, greatest, newer_than}

pub keys-pairs : (items : List State) → keys_of (pairs items) ≡ map (λ s. s.key) items
keys-pairs [] = refl
keys-pairs (s ∷ ss) = ap (λ (ks : List ℕ). s.key ∷ ks) (keys-pairs ss)

pub pairs_rise : (items : List State) → KeysRise items → Rises (keys_of (pairs items))
pairs_rise items h = rw keys-pairs h

pub entries-pairs : (items : List State) → KeysRise items → entries (from_sorted {R = nat_cmp} (pairs items)) ≡ pairs items
entries-pairs items h = entries_rising (pairs items) (pairs_rise items h)

pub pairs-filter : (v : ℕ) (items : List State) → pairs (filter (λ s. nat_lt v s.version) items) ≡ filter (λ s. nat_lt v s.1.version) (pairs items)
pairs-filter v [] = refl
pairs-filter v (s ∷ ss) =
    elim (nat_lt v s.version) as (λ b. pairs (cond b (s ∷ filter (λ s. nat_lt v s.version) ss) (filter (λ s. nat_lt v s.version) ss)) ≡ cond b (pair s ∷ filter (λ s. nat_lt v s.1.version) (pairs ss)) (filter (λ s. nat_lt v s.1.version) (pairs ss))) [
      | true ↦ ap (λ (ps : List (ℕ × Versioned)). pair s ∷ ps) (pairs-filter v ss)
      | false ↦ pairs-filter v ss
    ]

pub newer_rise : (v : ℕ) (items : List State) → KeysRise items → KeysRise (filter (λ s. nat_lt v s.version) items)
newer_rise v items h =
    rw (← keys-pairs (filter (λ s. nat_lt v s.version) items)) (rw (pairs-filter v items) (rise_filter (λ s. nat_lt v s.1.version) None (pairs items) (pairs_rise items h)))

pub newer_than-pairs : (v : ℕ) (items : List State) → KeysRise items → from_sorted {R = nat_cmp} (pairs (filter (λ s. nat_lt v s.version) items)) ≡ newer_than v (from_sorted (pairs items))
newer_than-pairs v items h = rw (pairs-filter v items) (filter_rising (λ s. nat_lt v s.1.version) (pairs items) (pairs_rise items h))

pub greatest-pairs : (n : ℕ) (items : List State) → KeysRise items → greatest_of n (pairs items) ≡ greatest n (from_sorted (pairs items))
greatest-pairs n items h = ap (greatest_of n) (sym (entries-pairs items h))

-- ---- states that are newer, and the greatest version

abbrev pub newer : ℕ → List State → List State
newer v items = filter (λ s. nat_lt v s.version) items

pub greatest_whole : (n most i : ℕ) (xs all : List State) (states : States) → length xs ≤ i → greatest_of most (pairs (drop i xs)) ≡ greatest_of n (pairs xs) → xs ≡ all → KeysRise all → from_sorted {R = nat_cmp} (pairs all) ≡ states → most ≡ greatest n states
greatest_whole n most i xs all states le so_far same rise is =
    let nothing : most ≡ greatest_of most (pairs (drop i xs)) = ap (λ (ys : List State). greatest_of most (pairs ys)) (sym (drop_all i xs le)) in
    nothing ∙ so_far ∙ ap (λ (ys : List State). greatest_of n (pairs ys)) same ∙ greatest-pairs n all rise ∙ ap (greatest n) is

-- ---- the state of a key

same_keys : (q k : ℕ) → eq_by_cmp nat_cmp q k ≡ (k == q)
same_keys q k = grind (arith, nat_tests)

found_by : (b : Bool) (s : State) (ss : List State) (q : ℕ) → option_map value_at_key (find (λ (t : State). t.key == q) ss) ≡ find_entry nat_cmp q (pairs ss)
    → option_map value_at_key (cond b (Some s) (find (λ (t : State). t.key == q) ss)) ≡ cond b (Some (value_at_key s)) (find_entry nat_cmp q (pairs ss))
found_by true s ss q h = refl
found_by false s ss q h = h

pub find-pairs : (q : ℕ) (ss : List State) → option_map value_at_key (find (λ (t : State). t.key == q) ss) ≡ find_entry nat_cmp q (pairs ss)
find-pairs q [] = refl
find-pairs q (s ∷ ss) = found_by (s.key == q) s ss q (find-pairs q ss) ∙ ap (λ (b : Bool). cond b (Some (value_at_key s)) (find_entry nat_cmp q (pairs ss))) (sym (same_keys q s.key))

-- a list and its map have the same state at a key
pub get-pairs : (q : ℕ) (given items : List State) (states : States) → given ≡ items → KeysRise items → from_sorted {R = nat_cmp} (pairs items) ≡ states
    → option_map value_at_key (find (λ (t : State). t.key == q) given) ≡ get states q
get-pairs q given items states same rise seen =
    ap (λ (ss : List State). option_map value_at_key (find (λ (t : State). t.key == q) ss)) same ∙ find-pairs q items ∙ sym (get_rising (pairs items) q (pairs_rise items rise)) ∙ ap (λ (m : States). get m q) seen
