-- The owners that keep their claims, by the deltas of a message.
use Rattle.std.proofs.Common.{◌≡◌, ◌==◌, ℕ, zero, suc, Bool, true, false, ◌<◌, cond, get_or, List, [], ◌∷◌, map as map_list, length, Option, Some, None, refl, sym, ap, subst, ◌∙◌, Ok, arith, eq-eqb, eqb-true, nat_lt}
use Rattle.std.specs.Prelude.{not, nat_le, ◌||◌, IfSome, ⊤}
use Rattle.std.specs.List.{filter_map, cons_option}
use Rattle.std.specs.Option.{option_or}
use Rattle.std.specs.Ordering.{nat_cmp}
use Rattle.std.specs.FinMap.{get, entries, empty, get-entries}
use Rattle.std.specs.FinMap.Entries.{find}
use Rattle.std.specs.Str.{bytes_eq}
use Rattle.std.proofs.lemmas.Slice.Eq.{bytes_eq-Decides}
use Rattle.std.proofs.lemmas.Bool.{ltb-false}
use Rattle.std.proofs.lemmas.List.{get_or-map, length-map}
use Rattle.cg_types.specs.Rising.{Rises}
use Rattle.cg_types.proofs.RisingLemmas.{both, first_of, second_of}
use Rattle.cg_types.specs.declared.limits.TheConstants.{STATUS_KEY, TOKENS_KEY}
use Rattle.cg_types.specs.Map.{put_each}
use Rattle.cg_entry.specs.declared.entry.Absorbed.{Absorbed}
use Rattle.cg_entry.specs.declared.entry.Absorbed.TheVariants as absorbed
use Rattle.cg_entry.specs.declared.took.Took.TheVariants as took
use Rattle.cg_entry.specs.Values.{EntryValue, DeltaValue}
use Rattle.cg_entry.specs.Versioned.{Versioned, States}
use Rattle.cg_entry.specs.Entry.{greatest, newest}
use Rattle.cg_entry.specs.Taking.{meeting, whole_entry, taken_or_gap, advanced_entry, IsTakenEntry, IfTaken}
use Rattle.cg_entry.proofs.TakenLemmas.{taken_each}
use Rattle.cg_table.specs.Values.{TableValue, Entries}
use Rattle.cg_table.specs.Taking.{change_by}
use Rattle.cg_table.specs.Puts.{Put}
use Rattle.cg_table.proofs.PutsLemmas.{AreHeld, put_each-held}
use Rattle.cg_messages.specs.declared.owner_delta.OwnerDelta.{OwnerDelta}
use Rattle.cg_messages.specs.declared.outcome.Outcome.{Outcome}
use Rattle.cg_messages.specs.Members.{endpoints_of_deltas, endpoints_of_outcomes}
use Rattle.cg_exchange.specs.Changes.{row_changed}
use Rattle.cg_exchange.specs.Taking.{outcome_of}
use Rattle.cg_exchange.proofs.TakingLemmas.{taken_at_once, rows_rise, outcomes_rise}
use Rattle.cg_tokens.specs.Claims.{keeps_claims, text_at, text_held}
use Rattle.cg_silence.specs.Windows.{was_taken}
use Rattle.cg_core.specs.Claims.{is_beat, is_kept, owner_keeps}
use Rattle.cg_core.proofs.StepLemmas.{AreLed}

-- ---- a delta without states

no_state : (d : States) (k : ℕ) → (length (entries d) == 0) ≡ true → get d k ≡ None
no_state d k none = get-entries d k ∙ by (entries d) none
  where
    by : (es : List (ℕ × Versioned)) → (length es == 0) ≡ true → find nat_cmp k es ≡ None
    by [] none = refl
    by (e ∷ es) none = absurd (let no = eqb-true (length (e ∷ es)) 0 none in omega arith)

module _ (d : DeltaValue) (beat : is_beat d ≡ true) where
  none : (length (entries d.states) == 0) ≡ true
  none = first_of (length (entries d.states) == 0) (not (d.above == 0)) beat

  not_whole : whole_entry d ≡ None
  not_whole = by (d.above == 0) (second_of (length (entries d.states) == 0) (not (d.above == 0)) beat)
    where
      by : (b : Bool) → not b ≡ true → cond {A = Option EntryValue} b (Some (record { generation = d.generation; heartbeat = d.heartbeat; states = d.states })) None ≡ None
      by true whole = absurd cc
      by false behind = refl

  -- only an entry of its generation takes it
  same_generation : (e x : EntryValue) → meeting (Some e) d ≡ absorbed.Taken x → e.generation ≡ d.generation
  same_generation e x = by (nat_lt d.generation e.generation) (nat_lt e.generation d.generation) refl refl
    where
      by : (old new : Bool) → nat_lt d.generation e.generation ≡ old → nat_lt e.generation d.generation ≡ new
          → cond old absorbed.Old (cond new (taken_or_gap (whole_entry d)) (cond (nat_le (greatest d.heartbeat d.states) (newest e)) absorbed.Old (cond (nat_lt (newest e) d.above) absorbed.Gap (absorbed.Taken (advanced_entry e d))))) ≡ absorbed.Taken x
          → e.generation ≡ d.generation
      by true new o n met = absurd cc
      by false true o n met = absurd (let gap = ap taken_or_gap not_whole in cc)
      by false false o n met =
          let high = ltb-false d.generation e.generation o in
          let low = ltb-false e.generation d.generation n in
          omega arith

  nobody_takes : (x : EntryValue) → meeting None d ≡ absorbed.Taken x → ⊥
  nobody_takes x met = absurd (let gap = ap taken_or_gap not_whole in cc)

  module _ (held x : EntryValue) (met : meeting (Some held) d ≡ absorbed.Taken x) (led : IsTakenEntry (Some held) d x) where
    same_text : (k : ℕ) → bytes_eq (text_at x.states k) (text_at held.states k) ≡ true
    same_text k =
        let under : (held.generation == d.generation) ≡ true = eq-eqb held.generation d.generation (same_generation held x met) in
        let is : get x.states k ≡ get held.states k = led.each k ∙ (λ i. option_or (no_state d.states k none i) (get (cond (under i) held.states empty) k)) in
        (bytes_eq-Decides (text_at x.states k) (text_at held.states k)).1 (ap text_held is)

    -- it leaves the claims
    claims_left : keeps_claims (Some held) x ≡ true
    claims_left =
        both _ _ (both _ _ (eq-eqb x.generation held.generation (led.generation ∙ sym (same_generation held x met))) (same_text STATUS_KEY)) (same_text TOKENS_KEY)

-- the row that a delta changes is held afterwards
abbrev pub IsRowHeld : Entries → Option Put → Type 0
IsRowHeld m row = IfSome row (λ r. get m r.0 ≡ Some r.1)

module _ (m : Entries) (e : ℕ) (d : DeltaValue) (beat : is_beat d ≡ true) where
  kept_by : (held : Option EntryValue) (own : Bool) (a : Absorbed) → meeting held d ≡ a → IsRowHeld m (cond own (None, took.Own) (change_by e a)).0
      → (not (was_taken (cond own (None, took.Own) (change_by e a)).1) || is_kept held (get m e)) ≡ true
  kept_by held true a met row = refl
  kept_by (Some h) false (absorbed.Taken x) met row =
      rw row (claims_left d beat h x met (subst (λ (a : Absorbed). IfTaken a (IsTakenEntry (Some h) d)) met (taken_each {E = ⊤} (Some h) d (Ok (meeting (Some h) d)) refl)))
  kept_by None false (absorbed.Taken x) met row = absurd (nobody_takes d beat x met)
  kept_by held false absorbed.Old met row = refl
  kept_by held false absorbed.Gap met row = refl

-- the owner of a heartbeat keeps its claims
pub beat_keeps : (t : TableValue) (m : Entries) (d : OwnerDelta) → IsRowHeld m (row_changed t d) → is_beat d.delta ≡ true → owner_keeps t.entries m (outcome_of t d) ≡ true
beat_keeps t m d row beat = kept_by m d.endpoint d.delta beat (get t.entries d.endpoint) (d.endpoint == t.own) (meeting (get t.entries d.endpoint) d.delta) refl row

-- ---- each delta of a message

row_at : (f : OwnerDelta → Option Put) (m : Entries) (ds : List OwnerDelta) (i : ℕ) (d : OwnerDelta) → AreHeld m (filter_map f ds) → i < length ds → IsRowHeld m (f (get_or ds i d))
row_at f m [] i d held few = absurd (omega (arith, few))
row_at f m (x ∷ ds) zero d held few = first (f x) held
  where
    first : (o : Option Put) → AreHeld m (cons_option o (filter_map f ds)) → IsRowHeld m o
    first None held = tt
    first (Some r) held = held.0
row_at f m (x ∷ ds) (suc i) d held few = row_at f m ds i d (later (f x) held) (omega (arith, few))
  where
    later : (o : Option Put) → AreHeld m (cons_option o (filter_map f ds)) → AreHeld m (filter_map f ds)
    later None held = held
    later (Some r) held = held.1

module _ (t : TableValue) (ds : List OwnerDelta) (after : TableValue) (os : List Outcome) (rise : Rises (endpoints_of_deltas ds)) (led : AreLed t ds after os) where
  each_outcome : os ≡ map_list (outcome_of t) ds
  each_outcome = led.outcomes ∙ (taken_at_once t ds rise).outcomes

  -- an outcome for each delta
  pub same_count : length os ≡ length ds
  same_count = ap (λ (xs : List Outcome). length xs) each_outcome ∙ length-map ds (outcome_of t)

  pub outcomes_rise_too : Rises (endpoints_of_outcomes os)
  outcomes_rise_too = subst (λ (xs : List Outcome). Rises (endpoints_of_outcomes xs)) (sym led.outcomes) (outcomes_rise t ds rise)

  pub outcome_at : (i : ℕ) (d : OwnerDelta) (o : Outcome) → i < length ds → get_or os i o ≡ outcome_of t (get_or ds i d)
  outcome_at i d o few = ap (λ (xs : List Outcome). get_or xs i o) each_outcome ∙ get_or-map (outcome_of t) ds i d o few

  pub row_held : (i : ℕ) (d : OwnerDelta) → i < length ds → IsRowHeld after.entries (row_changed t (get_or ds i d))
  row_held i d few =
      let rows = filter_map (row_changed t) ds in
      let entries : after.entries ≡ put_each rows t.entries = ap (λ (u : TableValue). u.entries) (led.table ∙ (taken_at_once t ds rise).after) in
      subst (λ (m : Entries). IsRowHeld m (row_changed t (get_or ds i d))) (sym entries) (row_at (row_changed t) (put_each rows t.entries) ds i d (put_each-held rows t.entries (rows_rise t ds rise)) few)
