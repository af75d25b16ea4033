-- There are no more states than keys, and so their texts have few bytes.
use Rattle.std.proofs.Common.{◌≡◌, ℕ, ◌+◌, ◌*◌, ◌^◌, ◌<◌, ◌≤◌, true, List, [], ◌∷◌, length, map, suc, Option, Some, None, refl, sym, ap, subst, ◌∙◌, arith, nat_lt}
use Rattle.std.specs.Prelude.{sum_by, IfSome}
use Rattle.std.specs.List.{AllByRecursion}
use Rattle.std.specs.Ordering.{nat_cmp}
use Rattle.std.specs.FinMap.{entries, entries_sorted, from_sorted}
use Rattle.std.proofs.lemmas.Bool.{ltb-true}
use Rattle.std.proofs.lemmas.List.Sums.{sum_by-cons}
use Rattle.cg_types.specs.declared.limits.TheConstants.{STATE_LIMIT, TEXT_LIMIT}
use Rattle.cg_types.specs.Numbers.{IsKey}
use Rattle.cg_types.specs.Text.{IsStateText}
use Rattle.cg_types.specs.Rising.{rise_past, Rises}
use Rattle.cg_types.proofs.RisingLemmas.{first_of, second_of, rise_sorted}
use Rattle.cg_entry.specs.declared.state.State.{State}
use Rattle.cg_entry.specs.Versioned.{Versioned, States}
use Rattle.cg_entry.specs.Contents.{IsState, AreStates}
use Rattle.cg_entry.specs.State.{pair, pairs, listed_bytes, KeysRise}
use Rattle.cg_entry.specs.Entry.{text_bytes, text_size}
use Rattle.cg_entry.proofs.StateLemmas.{pairs_rise, entries-pairs}
use Rattle.cg_entry.proofs.DeltaLemmas.{length-pairs}

-- keys of states, whatever else holds of each
abbrev keys : List (ℕ × Versioned) → List ℕ
keys es = map (λ (e : ℕ × Versioned). e.0) es

module _ (P : ℕ × Versioned → Type 0) (key : (e : ℕ × Versioned) → P e → IsKey e.0) where
  keys_few : (last : ℕ) (es : List (ℕ × Versioned)) → AllByRecursion P es → rise_past (Some last) (keys es) ≡ true
      → last ≤ STATE_LIMIT → last + length es ≤ STATE_LIMIT
  keys_few last [] all rise le = omega arith
  keys_few last (e ∷ es) all rise le =
      let lt : last < e.0 = ltb-true last e.0 (first_of (nat_lt last e.0) (rise_past (Some e.0) (keys es)) rise) in
      let here : IsKey e.0 = key e all.0 in
      let others = keys_few e.0 es all.1 (second_of (nat_lt last e.0) (rise_past (Some e.0) (keys es)) rise) here.1 in
      omega arith

  -- there are no more states than keys
  pub states_few : (es : List (ℕ × Versioned)) → AllByRecursion P es → Rises (map (λ (e : ℕ × Versioned). e.0) es) → length es ≤ STATE_LIMIT
  states_few [] all rise = omega arith
  states_few (e ∷ es) all rise =
      let here : IsKey e.0 = key e all.0 in
      let others = keys_few e.0 es all.1 (second_of true (rise_past (Some e.0) (keys es)) rise) here.1 in
      omega (arith, others, here.0)

pub entries_few : (states : States) → AreStates states → length (entries states) ≤ STATE_LIMIT
entries_few states all = states_few IsState (λ e is. is.key) (entries states) all (rise_sorted (entries states) (entries_sorted states))

-- ---- the number of bytes of the texts

abbrev state_size : State → ℕ
state_size s = text_size s.text

abbrev pair_size : ℕ × Versioned → ℕ
pair_size e = text_size e.1.text

pub bytes-pairs : (items : List State) → listed_bytes items ≡ sum_by pair_size (pairs items)
bytes-pairs [] = refl
bytes-pairs (s ∷ ss) = sum_by-cons state_size s ss ∙ ap (λ (n : ℕ). text_size s.text + n) (bytes-pairs ss) ∙ sym (sum_by-cons pair_size (pair s) (pairs ss))

pub bytes_listed : (items : List State) (states : States) → KeysRise items → from_sorted {R = nat_cmp} (pairs items) ≡ states → listed_bytes items ≡ text_bytes states
bytes_listed items states rise seen = bytes-pairs items ∙ ap (sum_by pair_size) (sym (entries-pairs items rise) ∙ ap entries seen)

value_within : (o : Option (List ℕ)) → IfSome o IsStateText → text_size o ≤ TEXT_LIMIT
value_within None is = omega arith
value_within (Some text) is = is.fits

pub bytes_within : (items : List State) → AllByRecursion IsState (pairs items) → listed_bytes items ≤ length items * TEXT_LIMIT
bytes_within [] all = omega arith
bytes_within (s ∷ ss) all =
    let one : text_size s.text ≤ TEXT_LIMIT = value_within s.text all.0.text in
    subst (λ n. n ≤ suc (length ss) * TEXT_LIMIT) (sym (sum_by-cons state_size s ss)) (omega (arith, one, bytes_within ss all.1))

pub bytes_few : (given items : List State) → given ≡ items → KeysRise items → AllByRecursion IsState (pairs items) → listed_bytes given < 2 ^ 32
bytes_few given items same rise valid =
    let few : length (pairs items) ≤ STATE_LIMIT = states_few IsState (λ e is. is.key) (pairs items) valid (pairs_rise items rise) in
    subst (λ xs. listed_bytes xs < 2 ^ 32) (sym same) (omega (arith, few, length-pairs items, bytes_within items valid))
