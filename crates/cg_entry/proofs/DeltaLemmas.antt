-- States newer than a version, and the deltas made of parts.
use Rattle.std.proofs.Common.{◌≡◌, ℕ, suc, ◌<◌, ◌≤◌, Bool, true, false, cond, List, [], ◌∷◌, length, None, refl, sym, ap, subst, ◌∙◌, arith, nat_lt}
use Rattle.std.specs.Prelude.{max, not, ◌||◌, ◌&&◌, ◌==◌, nat_le, Option, Result, Ok, Err, IfSome, is_some}
use Rattle.std.specs.Result.{result_ok}
use Rattle.std.specs.List.{filter}
use Rattle.std.specs.Ordering.{nat_cmp}
use Rattle.std.specs.FinMap.{entries, entries_sorted, from_sorted, empty, empty_of_len, len, len-entries}
use Rattle.std.proofs.lemmas.Bool.{ltb-true, ltb-false, lt-ltb, le-ltb, leb-true, leb-false}
use Rattle.std.proofs.lemmas.Bool.Decides.{nat_tests}
use Rattle.cg_types.proofs.RisingLemmas.{entries_rising, rise_sorted, rise_filter, both, first_of, second_of}
use Rattle.cg_entry.specs.declared.state.State.{State}
use Rattle.cg_types.specs.declared.fault.Cause.{Cause}
use Rattle.cg_types.specs.declared.fault.Cause.TheVariants as cause
use Rattle.cg_entry.specs.Values.{DeltaValue}
use Rattle.cg_entry.specs.Versioned.{Versioned, States}
use Rattle.cg_entry.specs.State.{KeysRise, pairs, all_newer, keys_rise, delta_of_parts, makes_delta, delta_from}
use Rattle.cg_entry.specs.Entry.{greatest_of, greatest, newer_than, IsDelta}
use Rattle.cg_entry.proofs.StateLemmas.{newer, entries-pairs, newer_than-pairs, greatest-pairs}

abbrev is_newer : ℕ → ℕ × Versioned → Bool
is_newer v s = nat_lt v s.1.version

filter_again : {X : Type 0} (p : X → Bool) (xs : List X) → filter p (filter p xs) ≡ filter p xs
filter_again p [] = refl
filter_again p (x ∷ xs) =
    elim (p x) as (λ b. p x ≡ b → filter p (cond b (x ∷ filter p xs) (filter p xs)) ≡ cond b (x ∷ filter p xs) (filter p xs)) [
      | true ↦ λ e. ap (λ b. cond b (x ∷ filter p (filter p xs)) (filter p (filter p xs))) e ∙ ap (λ ys. x ∷ ys) (filter_again p xs)
      | false ↦ λ e. filter_again p xs
    ] refl

-- the entries of the newer states
pub entries-newer_than : (v : ℕ) (states : States) → entries (newer_than v states) ≡ filter (is_newer v) (entries states)
entries-newer_than v states = entries_rising (filter (is_newer v) (entries states)) (rise_filter (is_newer v) None (entries states) (rise_sorted (entries states) (entries_sorted states)))

pub newer_than-again : (v : ℕ) (states : States) → newer_than v (newer_than v states) ≡ newer_than v states
newer_than-again v states = ap (λ (es : List (ℕ × Versioned)). from_sorted {R = nat_cmp} es) (ap (filter (is_newer v)) (entries-newer_than v states) ∙ filter_again (is_newer v) (entries states))

without_small : (n s v : ℕ) (es : List (ℕ × Versioned)) → s ≤ v → v < greatest_of (max n s) es → v < greatest_of n es
without_small n s v [] le lt = omega arith
without_small n s v (e ∷ es) le lt =
    let turned : max (max n s) e.1.version ≡ max (max n e.1.version) s = omega arith in
    without_small (max n e.1.version) s v es le (subst (λ m. v < greatest_of m es) turned lt)

greatest_newer : (v n : ℕ) (es : List (ℕ × Versioned)) → v < greatest_of n es → v < greatest_of n (filter (is_newer v) es)
greatest_newer v n [] lt = lt
greatest_newer v n (e ∷ es) lt =
    elim (nat_lt v e.1.version) as (λ b. nat_lt v e.1.version ≡ b → v < greatest_of n (cond b (e ∷ filter (is_newer v) es) (filter (is_newer v) es))) [
      | true ↦ λ b. greatest_newer v (max n e.1.version) es lt
      | false ↦ λ b. greatest_newer v n es (without_small n e.1.version v es (ltb-false v e.1.version b) lt)
    ] refl

pub above_is_delta : (v heartbeat : ℕ) (states : States) → v < greatest heartbeat states → IsDelta v heartbeat (newer_than v states)
above_is_delta v heartbeat states lt = record {
  newer = newer_than-again v states;
  something = subst (λ es. v < greatest_of heartbeat es) (sym (entries-newer_than v states)) (greatest_newer v heartbeat (entries states) lt);
}

all_kept : (v : ℕ) (items : List State) → all_newer v items ≡ true → newer v items ≡ items
all_kept v [] h = refl
all_kept v (s ∷ ss) h =
    ap (λ b. cond b (s ∷ newer v ss) (newer v ss)) (first_of (nat_lt v s.version) (all_newer v ss) h) ∙ ap (λ (xs : List State). s ∷ xs) (all_kept v ss (second_of (nat_lt v s.version) (all_newer v ss) h))

pub greatest_over : (n : ℕ) (es : List (ℕ × Versioned)) → n ≤ greatest_of n es
greatest_over n [] = omega arith
greatest_over n (e ∷ es) = omega (arith, greatest_over (max n e.1.version) es)

first_over : (v n : ℕ) (items : List State) → all_newer v items ≡ true → 0 < length items → v < greatest_of n (pairs items)
first_over v n [] h some = absurd (omega arith)
first_over v n (s ∷ ss) h some =
    omega (arith, ltb-true v s.version (first_of (nat_lt v s.version) (all_newer v ss) h), greatest_over (max n s.version) (pairs ss))

not_empty : (n : ℕ) → (suc n == 0) ≡ false
not_empty n = grind (arith, nat_tests)

-- a list that is all newer has something newer exactly if it or the heartbeat does
something_newer : (v heartbeat : ℕ) (items : List State) → all_newer v items ≡ true → (nat_lt v heartbeat || not (length items == 0)) ≡ nat_lt v (greatest_of heartbeat (pairs items))
something_newer v heartbeat [] all = elim (nat_lt v heartbeat) as (λ b. (b || false) ≡ b) [ true ↦ refl | false ↦ refl ]
something_newer v heartbeat (s ∷ ss) all =
    let over : v < greatest_of heartbeat (pairs (s ∷ ss)) = first_over v heartbeat (s ∷ ss) all (omega arith) in
    rw (not_empty (length ss), lt-ltb v (greatest_of heartbeat (pairs (s ∷ ss))) over) (elim (nat_lt v heartbeat) as (λ b. (b || true) ≡ true) [ true ↦ refl | false ↦ refl ])

module _ (v heartbeat : ℕ) (items : List State) (all : all_newer v items ≡ true) (rise : keys_rise items ≡ true) where
  something_listed : (nat_lt v heartbeat || not (length items == 0)) ≡ nat_lt v (greatest heartbeat (from_sorted (pairs items)))
  something_listed = something_newer v heartbeat items all ∙ ap (nat_lt v) (greatest-pairs heartbeat items rise)

  pub makes_some : v < greatest heartbeat (from_sorted (pairs items)) → makes_delta v heartbeat items ≡ true
  makes_some lt = both _ _ (something_listed ∙ lt-ltb v _ lt) (both _ _ all rise)

  pub makes_none : greatest heartbeat (from_sorted (pairs items)) ≤ v → makes_delta v heartbeat items ≡ false
  makes_none le = let nothing = something_listed ∙ le-ltb v _ le in rw nothing refl

  pub listed_is_delta : v < greatest heartbeat (from_sorted (pairs items)) → IsDelta v heartbeat (from_sorted (pairs items))
  listed_is_delta lt = record {
    newer = sym (newer_than-pairs v items rise) ∙ ap (λ (xs : List State). from_sorted {R = nat_cmp} (pairs xs)) (all_kept v items all);
    something = lt;
  }

-- ---- the delta that parts make, or none

abbrev answered : (newer rise none : Bool) → DeltaValue → Result DeltaValue Cause
answered newer rise none d = cond (not newer) (Err cause.Version) (cond (not rise) (Err cause.Order) (cond none (Err cause.Empty) (Ok d)))

and_false : (b : Bool) → (b && false) ≡ false
and_false true = refl
and_false false = refl

module _ (v heartbeat : ℕ) (items : List State) where
  abbrev nothing : Bool
  nothing = nat_le (greatest heartbeat (from_sorted (pairs items))) v

  made_by : (newer rise none : Bool) (d : DeltaValue) → all_newer v items ≡ newer → keys_rise items ≡ rise → nothing ≡ none
      → is_some (result_ok (answered newer rise none d)) ≡ makes_delta v heartbeat items
  made_by false rise none d n r e = rw n (sym (and_false (nat_lt v heartbeat || not (length items == 0))))
  made_by true false none d n r e = rw (n, r) (sym (and_false (nat_lt v heartbeat || not (length items == 0))))
  made_by true true true d n r e = sym (makes_none v heartbeat items n r (leb-true _ v e))
  made_by true true false d n r e = sym (makes_some v heartbeat items n r (leb-false _ v e))

  value_by : (newer rise none : Bool) (d : DeltaValue) → IfSome (result_ok (answered newer rise none d)) (λ x. x ≡ d)
  value_by false rise none d = tt
  value_by true false none d = tt
  value_by true true true d = tt
  value_by true true false d = refl

  -- a caller's view of the delta that is made, or not
  pub delta_made : (g : ℕ) (r : Result DeltaValue Cause) (o : Option DeltaValue) → r ≡ delta_from g v heartbeat items → o ≡ result_ok r → is_some o ≡ makes_delta v heartbeat items
  delta_made g r o is ok = ap is_some (ok ∙ ap result_ok is) ∙ made_by (all_newer v items) (keys_rise items) nothing (delta_of_parts g v heartbeat items) refl refl refl

  pub delta_value : (g : ℕ) (r : Result DeltaValue Cause) (o : Option DeltaValue) → r ≡ delta_from g v heartbeat items → o ≡ result_ok r → IfSome o (λ d. d ≡ delta_of_parts g v heartbeat items)
  delta_value g r o is ok =
      subst (λ (p : Option DeltaValue). IfSome p (λ d. d ≡ delta_of_parts g v heartbeat items)) (sym (ok ∙ ap result_ok is)) (value_by (all_newer v items) (keys_rise items) nothing (delta_of_parts g v heartbeat items))

-- ---- the number of states

pub length-pairs : (items : List State) → length (pairs items) ≡ length items
length-pairs [] = refl
length-pairs (s ∷ ss) = ap suc (length-pairs ss)

pub len-pairs : (items : List State) (states : States) → KeysRise items → from_sorted {R = nat_cmp} (pairs items) ≡ states → length items ≡ len states
len-pairs items states rise seen =
    sym (length-pairs items) ∙ ap length (sym (entries-pairs items rise)) ∙ sym (len-entries (from_sorted {R = nat_cmp} (pairs items))) ∙ ap len seen

-- no states at all
pub nothing_listed : from_sorted {R = nat_cmp} (pairs []) ≡ empty
nothing_listed = empty_of_len (from_sorted {R = nat_cmp} (pairs [])) (sym (len-pairs [] (from_sorted {R = nat_cmp} (pairs [])) refl refl))

pub bare_is_delta : (v heartbeat : ℕ) → v < heartbeat → IsDelta v heartbeat empty
bare_is_delta v heartbeat lt =
    let some : v < greatest heartbeat (from_sorted (pairs [])) = rw (sym (greatest-pairs heartbeat [] refl)) lt in
    subst (λ (s : States). IsDelta v heartbeat s) nothing_listed (listed_is_delta v heartbeat [] refl refl some)
