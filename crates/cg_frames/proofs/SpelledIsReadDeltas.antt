-- A delta that is spelled so is read, whatever follows.
use Rattle.std.proofs.Common.{◌≡◌, ℕ, suc, ◌<◌, ◌≤◌, Bool, true, false, cond, List, [], ◌∷◌, ◌++◌, length, map, Option, None, Ok, Err, refl, sym, ap, ◌∙◌, append_assoc, arith}
use Rattle.std.specs.Prelude.{nat_lt, ◌==◌, not, ◌||◌}
use Rattle.std.specs.List.{flat_map, AllByRecursion}
use Rattle.std.specs.FinMap.{entries, entries_sorted, from_sorted, entries-from_sorted, same_entries_map}
use Rattle.std.specs.Ordering.{nat_cmp}
use Rattle.std.proofs.lemmas.Bool.{le-ltb, lt-ltb, ne_eqb}
use Rattle.cg_types.specs.declared.fault.Cause.TheVariants as causes
use Rattle.cg_types.specs.Rising.{is_past, rise_past}
use Rattle.cg_types.proofs.RisingLemmas.{rise_sorted}
use Rattle.cg_entry.specs.declared.state.State.{State}
use Rattle.cg_entry.specs.State.{pair, pairs}
use Rattle.cg_entry.specs.Versioned.{Versioned, States}
use Rattle.cg_entry.specs.Entry.{greatest_of}
use Rattle.cg_entry.proofs.FewLemmas.{states_few}
use Rattle.cg_messages.specs.declared.owner_delta.OwnerDelta.{OwnerDelta}
use Rattle.cg_frames.specs.declared.layout.Layout.{Layout}
use Rattle.cg_entry.specs.declared.spelled.TheConstants.{TOMBSTONE}
use Rattle.cg_types.specs.declared.limits.TheConstants.{STATE_LIMIT}
use Rattle.cg_types.specs.ResultSteps.{◌>>=◌}
use Rattle.cg_frames.specs.Fields.{Field, state_count_at}
use Rattle.cg_frames.specs.Lists.{state_at, states_at, carries, delta_from, delta_at}
use Rattle.cg_entry.specs.Section.{four_bytes, state}
use Rattle.cg_frames.specs.Spelling.{endpoint, delta}
use Rattle.cg_frames.proofs.FitsFields.{FitsState, FitsDelta}
use Rattle.cg_frames.proofs.SpelledIsReadLemmas.{byte_again, ranged_again, endpoint_again, rising_again}
use Rattle.cg_frames.proofs.LengthLemmas.{spelled_pairs}
use Rattle.cg_frames.proofs.SpelledIsReadMembers.{held_again, state_again}

abbrev unpair : ℕ × Versioned → State
unpair e = record { key = e.0; version = e.1.version; text = e.1.text }

pairs_unpair : (es : List (ℕ × Versioned)) → pairs (map unpair es) ≡ es
pairs_unpair [] = refl
pairs_unpair (e ∷ es) = ap (λ (ys : List (ℕ × Versioned)). e ∷ ys) (pairs_unpair es)

length_unpair : (es : List (ℕ × Versioned)) → length (map unpair es) ≡ length es
length_unpair [] = refl
length_unpair (e ∷ es) = ap suc (length_unpair es)

keys_unpair : (es : List (ℕ × Versioned)) → map (λ (s : State). s.key) (map unpair es) ≡ map (λ (e : ℕ × Versioned). e.0) es
keys_unpair [] = refl
keys_unpair (e ∷ es) = ap (λ (ks : List ℕ). e.0 ∷ ks) (keys_unpair es)

fits_unpair : (layout : Layout) (above : ℕ) (es : List (ℕ × Versioned)) → AllByRecursion (FitsState layout above) es → AllByRecursion (λ (s : State). FitsState layout above (pair s)) (map unpair es)
fits_unpair layout above [] all = tt
fits_unpair layout above (e ∷ es) all = (all.0, fits_unpair layout above es all.1)

or_true : (b : Bool) → (b || true) ≡ true
or_true true = refl
or_true false = refl

carries_again : (above heartbeat : ℕ) (es : List (ℕ × Versioned)) → above < greatest_of heartbeat es → carries above heartbeat (length es) ≡ true
carries_again above heartbeat [] lt = rw (lt-ltb above heartbeat lt) refl
carries_again above heartbeat (e ∷ es) lt =
    let some : (length (e ∷ es) == 0) ≡ false = ne_eqb (length (e ∷ es)) 0 (omega arith) in
    ap (λ (b : Bool). nat_lt above heartbeat || not b) some ∙ or_true (nat_lt above heartbeat)

state_count_again : (n : ℕ) (rest : List ℕ) → n ≤ STATE_LIMIT → state_count_at (n ∷ rest) ≡ Ok (n, rest)
state_count_again n rest le =
    let low : nat_lt STATE_LIMIT n ≡ false = le-ltb STATE_LIMIT n le in
    ap (λ (r : Field ℕ). r >>= λ count. cond (nat_lt STATE_LIMIT count.0) (Err (record { cause = causes.Count; left = length (n ∷ rest) })) (Ok count)) (byte_again n rest) ∙ rw low refl

states_again : (layout : Layout) (above : ℕ) (m : States) (rest : List ℕ) → layout.text < TOMBSTONE → AllByRecursion (FitsState layout above) (entries m) → states_at layout above (length (entries m)) None (flat_map state (entries m) ++ rest) ≡ Ok (map unpair (entries m), rest)
states_again layout above m rest wide all =
    let es = entries m in
    let ss = map unpair es in
    let rise : rise_past None (map (λ (s : State). s.key) ss) ≡ true = ap (rise_past None) (keys_unpair es) ∙ rise_sorted es (entries_sorted m) in
    let spelled : flat_map (λ (s : State). state (pair s)) ss ≡ flat_map state es = spelled_pairs ss ∙ ap (flat_map state) (pairs_unpair es) in
    let read = rising_again (λ (s : State). s.key) (λ (s : State). state (pair s)) (state_at layout above) (λ (s : State). FitsState layout above (pair s)) (state_again layout above wide) None ss rest (fits_unpair layout above es all) rise in
    ap (λ (n : ℕ). states_at layout above n None (flat_map state es ++ rest)) (sym (length_unpair es))
    ∙ ap (λ (ys : List ℕ). states_at layout above (length ss) None (ys ++ rest)) (sym spelled) ∙ read

same_states : (m : States) → from_sorted {R = nat_cmp} (pairs (map unpair (entries m))) ≡ m
same_states m = ap (λ (es : List (ℕ × Versioned)). from_sorted {R = nat_cmp} es) (pairs_unpair (entries m)) ∙ same_entries_map (from_sorted {R = nat_cmp} (entries m)) m (entries-from_sorted nat_cmp (entries m) (entries_sorted m))

abbrev counted_from : Layout → List ℕ → OwnerDelta → List ℕ → Field OwnerDelta
counted_from layout bytes d from = state_count_at from >>= λ n. states_at layout d.delta.above n.0 None n.1 >>= λ ss. delta_from bytes d.endpoint d.delta.generation d.delta.above d.delta.heartbeat n.0 ss.0 ss.1

counted_again : (layout : Layout) (bytes : List ℕ) (d : OwnerDelta) (rest : List ℕ) → layout.text < TOMBSTONE → FitsDelta layout d → counted_from layout bytes d (length (entries d.delta.states) ∷ (flat_map state (entries d.delta.states) ++ rest)) ≡ Ok (d, rest)
counted_again layout bytes d rest wide fits =
    let es = entries d.delta.states in
    let few = states_few (FitsState layout d.delta.above) (λ e is. is.key) es fits.states (rise_sorted es (entries_sorted d.delta.states)) in
    let some = carries_again d.delta.above d.delta.heartbeat es fits.something in
    ap (λ (r : Field ℕ). r >>= λ n. states_at layout d.delta.above n.0 None n.1 >>= λ ss. delta_from bytes d.endpoint d.delta.generation d.delta.above d.delta.heartbeat n.0 ss.0 ss.1) (state_count_again (length es) (flat_map state es ++ rest) few)
    ∙ ap (λ (r : Field (List State)). r >>= λ ss. delta_from bytes d.endpoint d.delta.generation d.delta.above d.delta.heartbeat (length es) ss.0 ss.1) (states_again layout d.delta.above d.delta.states rest wide fits.states)
    ∙ rw some (ap (λ (m : States). Ok (record { endpoint = d.endpoint; delta = record { generation = d.delta.generation; above = d.delta.above; heartbeat = d.delta.heartbeat; states = m } }, rest)) (same_states d.delta.states))

pub delta_again : (layout : Layout) → layout.text < TOMBSTONE → (last : Option ℕ) (d : OwnerDelta) (rest : List ℕ) → FitsDelta layout d → is_past last d.endpoint ≡ true → delta_at layout last (delta d ++ rest) ≡ Ok (d, rest)
unfolding delta_at
delta_again layout wide last d rest fits past =
    let counted = length (entries d.delta.states) ∷ (flat_map state (entries d.delta.states) ++ rest) in
    let from_heartbeat = four_bytes d.delta.heartbeat ++ counted in
    let from_above = four_bytes d.delta.above ++ from_heartbeat in
    let from_generation = four_bytes d.delta.generation ++ from_above in
    let regrouped : delta d ++ rest ≡ endpoint d.endpoint ++ from_generation = simp append_assoc in
    ap (delta_at layout last) regrouped
    ∙ rw (endpoint_again last d.endpoint from_generation fits.endpoint past, ranged_again causes.Generation d.delta.generation from_above fits.generation.0 fits.generation.1, held_again causes.Above d.delta.above from_heartbeat fits.above, ranged_again causes.Heartbeat d.delta.heartbeat counted fits.heartbeat.0 fits.heartbeat.1)
    (counted_again layout (endpoint d.endpoint ++ from_generation) d rest wide fits)
