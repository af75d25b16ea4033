-- What spells states, one after the other: its length, where each stands in it, and its text.
use Rattle.std.proofs.Common.{◌≡◌, ℕ, suc, ◌+◌, ◌*◌, ◌-◌, ◌^◌, ◌<◌, ◌≤◌, List, [], ◌∷◌, ◌++◌, length, length-append, length-drop, drop, Option, Some, None, IfSome, refl, sym, ap, ◌∙◌, arith, add-one, append_assoc, append-nil}
use Rattle.std.specs.Prelude.{slice_range, slice_index_or, sum_by}
use Rattle.std.specs.List.{flat_map, AllByRecursion}
use Rattle.std.specs.Ordering.{nat_cmp}
use Rattle.std.specs.FinMap.{entries, from_sorted}
use Rattle.std.proofs.lemmas.List.{take_at, drop_at, drop-drop}
use Rattle.std.proofs.Math.Seq.{drop-cons}
use Rattle.std.proofs.lemmas.List.Concat.{flat_map-cons}
use Rattle.std.proofs.lemmas.List.Sums.{sum_by-cons}
use Rattle.cg_types.specs.declared.limits.TheConstants.{STATE_LIMIT}
use Rattle.cg_entry.specs.declared.state.State.{State}
use Rattle.cg_entry.specs.declared.spelled.TheConstants.{TOMBSTONE}
use Rattle.cg_entry.specs.State.{pair, pairs, KeysRise}
use Rattle.cg_entry.specs.Contents.{IsState}
use Rattle.cg_entry.specs.Values.{EntryValue}
use Rattle.cg_entry.specs.Versioned.{Versioned, States}
use Rattle.cg_entry.specs.declared.spelled.Head.{Head}
use Rattle.cg_entry.specs.Entry.{text_size, newer_than, part_above}
use Rattle.cg_entry.specs.Block.{state_at, picked}
use Rattle.cg_entry.specs.Section.{two_bytes, four_bytes, value, state, endpoint, head, delta_about, StandsIn}
use Rattle.cg_entry.proofs.StateLemmas.{pairs_rise, entries-pairs}
use Rattle.cg_entry.proofs.DeltaLemmas.{length-pairs}
use Rattle.cg_entry.proofs.FewLemmas.{states_few, bytes-pairs, bytes_within}

pub length-two_bytes : (n : ℕ) → length (two_bytes n) ≡ 2
unfolding two_bytes
length-two_bytes n = refl

pub length-four_bytes : (n : ℕ) → length (four_bytes n) ≡ 4
unfolding four_bytes
length-four_bytes n = refl

length-value : (o : Option (List ℕ)) → length (value o) ≡ 2 + text_size o
length-value (Some t) = omega (arith, length-append (two_bytes (length t)) t, length-two_bytes (length t))
length-value None = length-two_bytes TOMBSTONE

pub length-state : (s : ℕ × Versioned) → length (state s) ≡ 7 + text_size s.1.text
length-state s = omega (arith, length-append (four_bytes s.1.version) (value s.1.text), length-four_bytes s.1.version, length-value s.1.text)

-- of each state seven bytes, and its text's
pub length-states : (es : List (ℕ × Versioned)) → length (flat_map state es) ≡ 7 * length es + sum_by (λ (e : ℕ × Versioned). text_size e.1.text) es
length-states [] = refl
length-states (e ∷ es) =
    let size : ℕ × Versioned → ℕ = λ e. text_size e.1.text in
    let step : length (state e) + length (flat_map state es) ≡ 7 * suc (length es) + (text_size e.1.text + sum_by size es) = omega (arith, length-state e, length-states es) in
    ap length (flat_map-cons state e es) ∙ length-append (state e) (flat_map state es) ∙ step ∙ ap (λ (n : ℕ). 7 * suc (length es) + n) (sym (sum_by-cons size e es))

pub states_short : (items : List State) → KeysRise items → AllByRecursion IsState (pairs items) → length (flat_map state (pairs items)) < 2 ^ 31
states_short items rise valid =
    let few : length (pairs items) ≤ STATE_LIMIT = states_few IsState (λ e is. is.key) (pairs items) valid (pairs_rise items rise) in
    omega (arith, length-states (pairs items), few, length-pairs items, bytes_within items valid, bytes-pairs items)

-- ---- where a state stands

pub stands : (section : List ℕ) (at key version : ℕ) (o : Option (List ℕ)) (rest : List ℕ) → drop at section ≡ (key ∷ (four_bytes version ++ value o)) ++ rest → IfSome o (λ t. StandsIn section (at + 7) t)
unfolding four_bytes two_bytes
stands section at key version (Some t) rest whole =
    let behind_head : drop (at + 7) section ≡ t ++ rest = sym (drop-drop 7 at section) ∙ ap (drop 7) whole in
    let size : length section - at ≡ 7 + (length t + length rest) = omega (arith, ap length whole, length-drop at section, length-append t rest) in
    let n : at + 7 + length t - (at + 7) ≡ length t = omega arith in
    let is : slice_range section (at + 7) (at + 7 + length t) ≡ t = rw (n, behind_head) (take_at t rest (length t) refl) in
    (omega (arith, size), is)
stands section at key version None rest whole = tt

drop_next : (ps : List ℕ) (i : ℕ) → i < length ps → drop i ps ≡ slice_index_or ps i 0 ∷ drop (i + 1) ps
drop_next ps i lt = rw (add-one, drop-cons ps i 0)

module _ (section : List ℕ) (items : List State) (places : List ℕ) (i at : ℕ) (lt : i < length places) (so_far : drop at section ≡ flat_map state (pairs (picked items (drop i places)))) where
  abbrev here : State
  here = state_at items (slice_index_or places i 0)

  abbrev others : List ℕ
  others = flat_map state (pairs (picked items (drop (i + 1) places)))

  whole : drop at section ≡ state (pair here) ++ others
  whole = so_far ∙ ap (λ (ps : List ℕ). flat_map state (pairs (picked items ps))) (drop_next places i lt) ∙ flat_map-cons state (pair here) (pairs (picked items (drop (i + 1) places)))

  pub text_stands : IfSome here.text (λ t. StandsIn section (at + 7) t)
  text_stands = stands section at here.key here.version here.text others whole

  pub state_within : at + (7 + text_size here.text) ≤ length section
  state_within = omega (arith, ap length whole, length-drop at section, length-append (state (pair here)) others, length-state (pair here))

  pub goes_on : drop (at + (7 + text_size here.text)) section ≡ others
  goes_on =
      let k = length (state (pair here)) in
      ap (λ (n : ℕ). drop (at + n) section) (sym (length-state (pair here))) ∙ sym (drop-drop k at section) ∙ ap (drop k) whole ∙ drop_at (state (pair here)) others k refl

-- ---- a delta

pub headed : (h : Head) (count : ℕ) (ss : List ℕ) → head h count ++ ss ≡ endpoint h.endpoint ++ (four_bytes h.generation ++ (four_bytes h.above ++ (four_bytes h.heartbeat ++ (count ∷ ss))))
headed h count ss = simp append_assoc

-- states behind the head of their delta
pub spelled_above : (out : List ℕ) (h : Head) (e : EntryValue) (es : List (ℕ × Versioned)) (count : ℕ) → h.generation ≡ e.generation → h.heartbeat ≡ e.heartbeat → entries (newer_than h.above e.states) ≡ es → count ≡ length es
    → (out ++ head h count) ++ flat_map state es ≡ out ++ delta_about h.endpoint (part_above h.above e)
spelled_above out h e es count generation heartbeat newer all =
    append_assoc out (head h count) (flat_map state es) ∙ ap (λ (ys : List ℕ). out ++ ys) (headed h count (flat_map state es)
    ∙ (λ i. endpoint h.endpoint ++ (four_bytes (generation i) ++ (four_bytes h.above ++ (four_bytes (heartbeat i) ++ (all i ∷ flat_map state es)))))
    ∙ ap (λ (xs : List (ℕ × Versioned)). endpoint h.endpoint ++ (four_bytes e.generation ++ (four_bytes h.above ++ (four_bytes e.heartbeat ++ (length xs ∷ flat_map state xs))))) (sym newer))

pub one_spelled : (s : ℕ × Versioned) → flat_map state (s ∷ []) ≡ state s
one_spelled s = flat_map-cons state s [] ∙ append-nil (state s)

pub one_entry : (s : State) (states : States) → states ≡ from_sorted {R = nat_cmp} (pair s ∷ []) → entries states ≡ pair s ∷ []
one_entry s states is = ap entries is ∙ entries-pairs (s ∷ []) refl
