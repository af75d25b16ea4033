-- Requests, states and deltas that are read are spelled so, and fit.
use Rattle.std.proofs.Common.{◌≡◌, ℕ, ◌<◌, ◌≤◌, Bool, true, false, cond, List, [], ◌∷◌, ◌++◌, length, Option, Some, None, Ok, Err, refl, sym, ap, subst, ◌∙◌, arith}
use Rattle.std.specs.Prelude.{nat_lt, ◌==◌, ◌||◌, ◌&&◌, max}
use Rattle.std.specs.Int.{w8, w16}
use Rattle.std.specs.List.{flat_map, AllByRecursion}
use Rattle.std.specs.FinMap.{entries}
use Rattle.std.proofs.lemmas.Bool.{ltb-false, ltb-true, eqb-true, and_parts}
use Rattle.std.proofs.lemmas.List.{length-map}
use Rattle.cg_types.specs.declared.limits.TheConstants.{STATE_LIMIT}
use Rattle.cg_types.specs.declared.fault.Cause.TheVariants as causes
use Rattle.cg_types.specs.Numbers.{IsKey}
use Rattle.cg_types.specs.ResultSteps.{◌>>=◌}
use Rattle.cg_entry.specs.declared.state.State.{State}
use Rattle.cg_entry.specs.State.{pair, pairs}
use Rattle.cg_entry.specs.Versioned.{Versioned}
use Rattle.cg_entry.specs.Entry.{greatest_of}
use Rattle.cg_entry.proofs.StateLemmas.{entries-pairs}
use Rattle.cg_entry.proofs.DeltaLemmas.{greatest_over}
use Rattle.cg_messages.specs.declared.owner_delta.OwnerDelta.{OwnerDelta}
use Rattle.cg_messages.specs.Values.{RequestValue}
use Rattle.cg_frames.specs.declared.layout.Layout.{Layout}
use Rattle.cg_entry.specs.declared.spelled.TheConstants.{TOMBSTONE}
use Rattle.cg_frames.specs.declared.misread.Misread.{Misread}
use Rattle.cg_frames.specs.Fields.{Field, number_at, plain_at, some_text, tombstone_or_fault, value_from, key_at, state_count_at, value_at}
use Rattle.cg_frames.specs.Lists.{request_at, state_at, carries, delta_at}
use Rattle.cg_entry.specs.Section.{two_bytes, four_bytes, value, state}
use Rattle.cg_frames.specs.Spelling.{endpoint, request, delta}
use Rattle.cg_messages.specs.Contents.{IsRequest}
use Rattle.cg_frames.proofs.FitsFields.{FitsValue, FitsState, FitsDelta}
use Rattle.cg_frames.specs.Laws.{AreBytes}
use Rattle.cg_frames.proofs.FitsLemmas.{all_pairs}
use Rattle.cg_frames.proofs.LengthLemmas.{spelled_pairs}
use Rattle.cg_frames.proofs.ReadIsSpelledParts.{bind_ok, ok_is, goes_by, request_parts, key_parts, version_newer, state_parts, states_rise, delta_parts}
use Rattle.cg_frames.proofs.ReadIsSpelledLemmas.{Stands, then, byte_found, two_found, ranged_found, in_range, positive, endpoint_found, rising_found, plain_found, neither}

pub request_found : (last : Option ℕ) (bytes : List ℕ) (r : RequestValue) (rest : List ℕ) → AreBytes bytes → request_at last bytes ≡ Ok (r, rest) → Stands (request r) bytes rest × IsRequest r
request_found last bytes r rest small h =
    let p = request_parts last bytes r rest h in
    let e = endpoint_found last bytes r.endpoint p.from_generation small p.endpoint in
    let g = ranged_found causes.Generation 1 p.from_generation r.generation p.from_version e.stands.bytes_behind p.generation in
    let v = ranged_found causes.Version 0 p.from_version r.version rest g.stands.bytes_behind p.version in (
      then (endpoint r.endpoint ++ four_bytes r.generation) (four_bytes r.version) bytes p.from_version rest (then (endpoint r.endpoint) (four_bytes r.generation) bytes p.from_generation p.from_version e.stands g.stands) v.stands,
      record { endpoint = e.valid; generation = in_range r.generation p.from_generation p.from_version g; version = v.small },
    )

-- ---- states

pub record ValueFound (layout : Layout) (o : Option (List ℕ)) (bytes rest : List ℕ) : Type 0 where
  pub stands : Stands (value o) bytes rest
  pub fits : FitsValue layout o

some_found : (read : Field (List ℕ)) (o : Option (List ℕ)) (rest : List ℕ) → some_text read ≡ Ok (o, rest) → (t : List ℕ) × (read ≡ Ok (t, rest)) × (Some t ≡ o)
some_found (Ok t) o rest h =
    let is = ok_is (Some t.0, t.1) (o, rest) h in
    (t.0, ap (λ (p : Option (List ℕ) × List ℕ). Ok (t.0, p.1)) is, ap (λ (p : Option (List ℕ) × List ℕ). p.0) is)
some_found (Err m) o rest h = absurd cc

-- what passes a test, whatever the test gives
passed : {X : Type 0} (test : Bool) (fault : Misread) (x y : X) → (cond test (Ok tt) (Err fault) >>= λ (_ : Unit {0}). Ok x) ≡ Ok y → (test ≡ true) × (x ≡ y)
passed true fault x y h = (refl, ok_is x y h)
passed false fault x y h = absurd cc

value_behind : (layout : Layout) (long : Bool) (n : ℕ) (bytes after : List ℕ) (o : Option (List ℕ)) (rest : List ℕ) → nat_lt layout.text n ≡ long
    → Stands (two_bytes n) bytes after → cond long (tombstone_or_fault layout n (length bytes) >>= λ (_ : Unit {0}). Ok (None, after)) (some_text (plain_at n causes.Text after)) ≡ Ok (o, rest) → ValueFound layout o bytes rest
value_behind layout true n bytes after o rest is two h =
    let p = passed (layout.tombstones && (n == TOMBSTONE)) (record { cause = causes.Text; left = length bytes }) (None, after) (o, rest) h in
    let b = and_parts layout.tombstones (n == TOMBSTONE) p.0 in
    subst (λ (p : Option (List ℕ) × List ℕ). ValueFound layout p.0 bytes p.1) {x = (None, after)} p.1
    (record { stands = subst (λ (k : ℕ). Stands (two_bytes k) bytes after) (eqb-true n TOMBSTONE b.1) two; fits = b.0 })
value_behind layout false n bytes after o rest is two h =
    let s = some_found (plain_at n causes.Text after) o rest h in
    let t : List ℕ = s.0 in
    let f = plain_found n causes.Text after t rest two.bytes_behind s.1 in
    let most : n ≤ layout.text = ltb-false layout.text n is in
    let long : length t ≡ n = f.len in
    let behind : Stands (two_bytes n ++ t) bytes rest = then (two_bytes n) t bytes after rest two f.stands in
    subst (λ (x : Option (List ℕ)). ValueFound layout x bytes rest) {x = Some t} s.2
    (record { stands = subst (λ (k : ℕ). Stands (two_bytes k ++ t) bytes rest) (sym long) behind; fits = (f.is_plain, omega arith) })

value_found : (layout : Layout) (bytes : List ℕ) (o : Option (List ℕ)) (rest : List ℕ) → AreBytes bytes → value_at layout bytes ≡ Ok (o, rest) → ValueFound layout o bytes rest
unfolding value_at
value_found layout bytes o rest small h =
    let after = λ (len : ℕ × List ℕ). value_from layout bytes len.0 len.1 in
    let a = bind_ok (number_at w16 bytes) after (o, rest) h in
    value_behind layout (nat_lt layout.text a.0.0) a.0.0 bytes a.0.1 o rest refl (two_found bytes a.0.0 a.0.1 small a.1) a.2

key_found : (last : Option ℕ) (bytes : List ℕ) (k : ℕ) (rest : List ℕ) → AreBytes bytes → key_at last bytes ≡ Ok (k, rest) → Stands (k ∷ []) bytes rest × IsKey k
key_found last bytes k rest small h =
    let p = key_parts last bytes k rest h in
    let limits = neither (k == 0) (nat_lt STATE_LIMIT k) p.in_range in
    ((byte_found bytes k rest small p.read).0, (positive k limits.0, ltb-false STATE_LIMIT k limits.1))

pub state_found : (layout : Layout) (above : ℕ) (last : Option ℕ) (bytes : List ℕ) (s : State) (rest : List ℕ) → AreBytes bytes → state_at layout above last bytes ≡ Ok (s, rest) → Stands (state (pair s)) bytes rest × FitsState layout above (pair s)
state_found layout above last bytes s rest small h =
    let p = state_parts layout above last bytes s rest h in
    let k = key_found last bytes s.key p.from_version small p.key in
    let w = version_newer above p.from_version s.version p.from_text p.version in
    let v = ranged_found causes.Version 1 p.from_version s.version p.from_text k.0.bytes_behind w.0 in
    let t = value_found layout p.from_text s.text rest v.stands.bytes_behind p.text in (
      then (s.key ∷ []) (four_bytes s.version ++ value s.text) bytes p.from_version rest k.0 (then (four_bytes s.version) (value s.text) p.from_version p.from_text rest v.stands t.stands),
      record { key = k.1; version = in_range s.version p.from_version p.from_text v; newer = ltb-true above s.version w.1; value = t.fits },
    )

-- ---- deltas

state_count_read : (bytes : List ℕ) (n : ℕ) (rest : List ℕ) → state_count_at bytes ≡ Ok (n, rest) → number_at w8 bytes ≡ Ok (n, rest)
state_count_read bytes n rest h =
    let fault : Misread = record { cause = causes.Count; left = length bytes } in
    let a = bind_ok (number_at w8 bytes) (λ count. cond (nat_lt STATE_LIMIT count.0) (Err fault) (Ok count)) (n, rest) h in
    let g = goes_by (nat_lt STATE_LIMIT a.0.0) fault (Ok a.0) (n, rest) a.2 in
    subst (λ (p : ℕ × List ℕ). number_at w8 bytes ≡ Ok p) (ok_is a.0 (n, rest) g.1) a.1

or_false : (b : Bool) → (b || false) ≡ true → b ≡ true
or_false true e = refl
or_false false e = e

something_carried : (layout : Layout) (above heartbeat : ℕ) (es : List (ℕ × Versioned)) → AllByRecursion (FitsState layout above) es → carries above heartbeat (length es) ≡ true → above < greatest_of heartbeat es
something_carried layout above heartbeat [] all h = ltb-true above heartbeat (or_false (nat_lt above heartbeat) h)
something_carried layout above heartbeat (s ∷ es) all h = omega (arith, all.0.newer, greatest_over (max heartbeat s.1.version) es)

pub delta_found : (layout : Layout) (last : Option ℕ) (bytes : List ℕ) (d : OwnerDelta) (rest : List ℕ) → AreBytes bytes → delta_at layout last bytes ≡ Ok (d, rest) → Stands (delta d) bytes rest × FitsDelta layout d
delta_found layout last bytes d rest small h =
    let p = delta_parts layout last bytes d rest h in
    let es = entries d.delta.states in
    let above = d.delta.above in
    let e = endpoint_found last bytes d.endpoint p.from_generation small p.endpoint in
    let g = ranged_found causes.Generation 1 p.from_generation d.delta.generation p.from_above e.stands.bytes_behind p.generation in
    let a = ranged_found causes.Above 0 p.from_above above p.from_heartbeat g.stands.bytes_behind p.above in
    let b = ranged_found causes.Heartbeat 1 p.from_heartbeat d.delta.heartbeat p.from_count a.stands.bytes_behind p.heartbeat in
    let n = byte_found p.from_count p.count p.from_states b.stands.bytes_behind (state_count_read p.from_count p.count p.from_states p.counted) in
    let all = rising_found (λ (s : State). s.key) (λ (s : State). state (pair s)) (state_at layout above) (λ (s : State). FitsState layout above (pair s)) (state_found layout above) p.count None p.from_states p.states rest n.0.bytes_behind p.read in
    let taken = states_rise layout above p.count p.from_states p.states rest p.read in
    let are : es ≡ pairs p.states = ap entries p.made ∙ entries-pairs p.states taken.0 in
    let spelled : flat_map (λ (s : State). state (pair s)) p.states ≡ flat_map state es = spelled_pairs p.states ∙ ap (flat_map state) (sym are) in
    let states : Stands (flat_map state es) p.from_states rest = subst (λ (ys : List ℕ). Stands ys p.from_states rest) spelled all.0 in
    let fit : AllByRecursion (FitsState layout above) es = subst (AllByRecursion (FitsState layout above)) (sym are) (all_pairs (FitsState layout above) p.states all.1) in
    let count : p.count ≡ length es = omega (arith, taken.1, ap length are, length-map {A = State} {B = ℕ × Versioned}) in
    let counted : Stands (length es ∷ flat_map state es) p.from_count rest = then (length es ∷ []) (flat_map state es) p.from_count p.from_states rest (subst (λ (k : ℕ). Stands (k ∷ []) p.from_count p.from_states) count n.0) states in
    let from_heartbeat = then (four_bytes d.delta.heartbeat) (length es ∷ flat_map state es) p.from_heartbeat p.from_count rest b.stands counted in
    let from_above = then (four_bytes above) (four_bytes d.delta.heartbeat ++ (length es ∷ flat_map state es)) p.from_above p.from_heartbeat rest a.stands from_heartbeat in
    let from_generation = then (four_bytes d.delta.generation) (four_bytes above ++ (four_bytes d.delta.heartbeat ++ (length es ∷ flat_map state es))) p.from_generation p.from_above rest g.stands from_above in (
      then (endpoint d.endpoint) (four_bytes d.delta.generation ++ (four_bytes above ++ (four_bytes d.delta.heartbeat ++ (length es ∷ flat_map state es)))) bytes p.from_generation rest e.stands from_generation,
      record {
        endpoint = e.valid;
        generation = in_range d.delta.generation p.from_generation p.from_above g;
        above = a.small;
        heartbeat = in_range d.delta.heartbeat p.from_heartbeat p.from_count b;
        states = fit;
        something = something_carried layout above d.delta.heartbeat es fit (subst (λ (k : ℕ). carries above d.delta.heartbeat k ≡ true) count p.carried);
      },
    )
