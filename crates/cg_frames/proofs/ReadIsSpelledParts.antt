-- Parts of values that were read: the fields of members, members that rise, and the lists of messages.
use Rattle.std.proofs.Common.{◌≡◌, ℕ, zero, suc, ◌≤◌, Bool, true, false, cond, List, [], ◌∷◌, length, map, take, drop, Option, Some, None, Result, Ok, Err, refl, ap, subst, arith}
use Rattle.std.specs.Prelude.{◌==◌, ◌||◌, ◌&&◌, not, nat_lt, nat_le}
use Rattle.std.specs.List.{list_all}
use Rattle.std.specs.FinMap as map_of
use Rattle.std.specs.Int.{w8, w16, w32, from_be_bytes}
use Rattle.std.proofs.lemmas.Bool.{ltb-false, le-leb}
use Rattle.std.proofs.lemmas.List.{length-map}
use Rattle.cg_types.specs.declared.limits.TheConstants.{MEMBER_LIMIT, STATE_LIMIT}
use Rattle.cg_types.specs.declared.fault.Cause.TheVariants as causes
use Rattle.cg_types.specs.Numbers.{endpoint_of}
use Rattle.cg_types.specs.Rising.{is_past, rise_past}
use Rattle.cg_types.proofs.RisingLemmas.{both}
use Rattle.cg_entry.specs.declared.digest.Digest.{Digest}
use Rattle.cg_entry.specs.declared.state.State.{State}
use Rattle.cg_entry.specs.State.{pairs, all_newer, keys_rise, makes_delta}
use Rattle.cg_messages.specs.declared.owner_delta.OwnerDelta.{OwnerDelta}
use Rattle.cg_messages.specs.Members.{is_member_list, endpoints_of_digests, endpoints_of_requests, endpoints_of_deltas}
use Rattle.cg_messages.specs.Values.{RequestValue, SynValue}
use Rattle.cg_frames.specs.declared.layout.Layout.{Layout}
use Rattle.cg_frames.specs.declared.misread.Misread.{Misread}
use Rattle.cg_types.specs.ResultSteps.{◌>>=◌}
use Rattle.cg_frames.specs.Fields.{Field, bytes_at, number_at, endpoint_from, endpoint_at, generation_at, version_at, count_at, name_at, held_at, heartbeat_at, version_above_at, key_from, key_at, state_count_at, value_at}
use Rattle.cg_frames.specs.Lists.{digest_at, rising_at, digests_at, request_at, state_at, states_at, carries, delta_from, delta_at, listed_requests_at, listed_deltas_at}
use Rattle.cg_frames.specs.Reading.{syn_at}

-- the value of a step that did not fail
pub bind_ok : {A B F : Type 0} (r : Result A F) (f : A → Result B F) (y : B) → (r >>= f) ≡ Ok y → (x : A) × (r ≡ Ok x) × (f x ≡ Ok y)
bind_ok (Ok x) f y e = (x, refl, e)
bind_ok (Err d) f y e = absurd cc

pub ok_is : {A : Type 0} (x y : A) → ◌≡◌ {A = Result A Misread} (Ok x) (Ok y) → x ≡ y
ok_is x y e = cc

-- a test that went on, and one that ended well
pub goes_by : {A : Type 0} (b : Bool) (m : Misread) (r : Result A Misread) (y : A) → cond b (Err m) r ≡ Ok y → (b ≡ false) × (r ≡ Ok y)
goes_by true m r y e = absurd cc
goes_by false m r y e = (refl, e)

pub goes_on_by : {A : Type 0} (b : Bool) (m : Misread) (r : Result A Misread) (y : A) → cond b r (Err m) ≡ Ok y → (b ≡ true) × (r ≡ Ok y)
goes_on_by true m r y e = (refl, e)
goes_on_by false m r y e = absurd cc

-- ---- an endpoint and a digest

-- the parts of an endpoint that was read
pub record EndpointParts (last : Option ℕ) (bytes : List ℕ) (e : ℕ) (after : List ℕ) : Type 0 where
  pub front : List ℕ
  pub read : bytes_at 6 bytes ≡ Ok (front, after)
  pub some : (from_be_bytes w16 (drop 4 front) == 0) ≡ false
  pub value : endpoint_of (from_be_bytes w32 (take 4 front)) (from_be_bytes w16 (drop 4 front)) ≡ e
  pub past : is_past last e ≡ true

pub endpoint_parts : (last : Option ℕ) (bytes : List ℕ) (e : ℕ) (after : List ℕ) → endpoint_at last bytes ≡ Ok (e, after) → EndpointParts last bytes e after
endpoint_parts last bytes e after h =
    let f = bind_ok (bytes_at 6 bytes) (λ front. endpoint_from last bytes (from_be_bytes w32 (take 4 front.0)) (from_be_bytes w16 (drop 4 front.0)) front.1) (e, after) h in
    let address = from_be_bytes w32 (take 4 f.0.0) in
    let port = from_be_bytes w16 (drop 4 f.0.0) in
    let made : Field ℕ = Ok (endpoint_of address port, f.0.1) in
    let some = goes_by (port == 0) (record { cause = causes.Endpoint; left = length bytes }) (cond (is_past last (endpoint_of address port)) made (Err (record { cause = causes.Order; left = length bytes }))) (e, after) f.2 in
    let past = goes_on_by (is_past last (endpoint_of address port)) (record { cause = causes.Order; left = length bytes }) made (e, after) some.1 in
    let is = ok_is (endpoint_of address port, f.0.1) (e, after) past.1 in
    subst (λ (p : ℕ × List ℕ). EndpointParts last bytes p.0 p.1) {x = (endpoint_of address port, f.0.1)} is (record { front = f.0.0; read = f.1; some = some.0; value = refl; past = past.0 })

pub record DigestParts (last : Option ℕ) (bytes : List ℕ) (d : Digest) (after : List ℕ) : Type 0 where
  pub from_generation : List ℕ
  pub from_newest : List ℕ
  pub endpoint : endpoint_at last bytes ≡ Ok (d.endpoint, from_generation)
  pub generation : generation_at from_generation ≡ Ok (d.generation, from_newest)
  pub newest : version_at from_newest ≡ Ok (d.newest, after)

abbrev digest_of : ℕ → ℕ → ℕ × List ℕ → Field Digest
digest_of e g v = Ok (record { endpoint = e; generation = g; newest = v.0 }, v.1)

abbrev after_generation : ℕ → ℕ × List ℕ → Field Digest
after_generation e g = version_at g.1 >>= digest_of e g.0

abbrev after_endpoint : ℕ × List ℕ → Field Digest
after_endpoint e = generation_at e.1 >>= after_generation e.0

pub digest_parts : (last : Option ℕ) (bytes : List ℕ) (d : Digest) (after : List ℕ) → digest_at last bytes ≡ Ok (d, after) → DigestParts last bytes d after
unfolding digest_at
digest_parts last bytes d after h =
    let e = bind_ok (endpoint_at last bytes) after_endpoint (d, after) h in
    let g = bind_ok (generation_at e.0.1) (after_generation e.0.0) (d, after) e.2 in
    let v = bind_ok (version_at g.0.1) (digest_of e.0.0 g.0.0) (d, after) g.2 in
    let made : Digest = record { endpoint = e.0.0; generation = g.0.0; newest = v.0.0 } in
    subst (λ (p : Digest × List ℕ). DigestParts last bytes p.0 p.1) {x = (made, v.0.1)} (ok_is (made, v.0.1) (d, after) v.2)
    (record { from_generation = e.0.1; from_newest = g.0.1; endpoint = e.1; generation = g.1; newest = v.1 })

pub digest_past : (last : Option ℕ) (bytes : List ℕ) (d : Digest) (after : List ℕ) → digest_at last bytes ≡ Ok (d, after) → is_past last d.endpoint ≡ true
digest_past last bytes d after h =
    let p = digest_parts last bytes d after h in
    (endpoint_parts last bytes d.endpoint p.from_generation p.endpoint).past

-- ---- lists

-- the first member and the others
pub record RisingParts {X : Type 0} (key : X → ℕ) (one : Option ℕ → List ℕ → Field X) (n : ℕ) (last : Option ℕ) (bytes : List ℕ) (xs : List X) (rest : List ℕ) : Type 0 where
  pub first : X
  pub others : List X
  pub from : List ℕ
  pub is : first ∷ others ≡ xs
  pub first_read : one last bytes ≡ Ok (first, from)
  pub others_read : rising_at key one n (Some (key first)) from ≡ Ok (others, rest)

abbrev joined : {X : Type 0} → X → List X × List ℕ → Field (List X)
joined x others = Ok (x ∷ others.0, others.1)

pub rising_parts : {X : Type 0} (key : X → ℕ) (one : Option ℕ → List ℕ → Field X) (n : ℕ) (last : Option ℕ) (bytes : List ℕ) (xs : List X) (rest : List ℕ) → rising_at key one (suc n) last bytes ≡ Ok (xs, rest) → RisingParts key one n last bytes xs rest
unfolding rising_at
rising_parts {X = X} key one n last bytes xs rest h =
    let a = bind_ok (one last bytes) (λ first. rising_at key one n (Some (key first.0)) first.1 >>= joined first.0) (xs, rest) h in
    let b = bind_ok (rising_at key one n (Some (key a.0.0)) a.0.1) (joined a.0.0) (xs, rest) a.2 in
    let is = ok_is (a.0.0 ∷ b.0.0, b.0.1) (xs, rest) b.2 in
    record { first = a.0.0; others = b.0.0; from = a.0.1; is = ap (λ (p : List X × List ℕ). p.0) is; first_read = a.1; others_read = subst (λ (p : List X × List ℕ). rising_at key one n (Some (key a.0.0)) a.0.1 ≡ Ok (b.0.0, p.1)) is b.1 }

pub none_read : {X : Type 0} (key : X → ℕ) (one : Option ℕ → List ℕ → Field X) (last : Option ℕ) (bytes : List ℕ) (xs : List X) (rest : List ℕ) → rising_at key one 0 last bytes ≡ Ok (xs, rest) → ([] ≡ xs) × (bytes ≡ rest)
unfolding rising_at
none_read {X = X} key one last bytes xs rest h =
    let is = ok_is ([], bytes) (xs, rest) h in
    (ap (λ (p : List X × List ℕ). p.0) is, ap (λ (p : List X × List ℕ). p.1) is)

pub rising_taken : {X : Type 0} (key : X → ℕ) (one : Option ℕ → List ℕ → Field X) → ((last : Option ℕ) (bytes : List ℕ) (x : X) (after : List ℕ) → one last bytes ≡ Ok (x, after) → is_past last (key x) ≡ true)
    → (n : ℕ) (last : Option ℕ) (bytes : List ℕ) (xs : List X) (rest : List ℕ) → rising_at key one n last bytes ≡ Ok (xs, rest) → (rise_past last (map key xs) ≡ true) × (length xs ≡ n)
rising_taken key one past zero last bytes xs rest h =
    subst (λ ys. (rise_past last (map key ys) ≡ true) × (length ys ≡ 0)) (none_read key one last bytes xs rest h).0 (refl, refl)
rising_taken key one past (suc n) last bytes xs rest h =
    let p = rising_parts key one n last bytes xs rest h in
    let here = past last bytes p.first p.from p.first_read in
    let others = rising_taken key one past n (Some (key p.first)) p.from p.others rest p.others_read in
    subst (λ ys. (rise_past last (map key ys) ≡ true) × (length ys ≡ suc n)) p.is (both _ _ here others.0, ap suc others.1)

-- ---- a request

pub record RequestParts (last : Option ℕ) (bytes : List ℕ) (r : RequestValue) (after : List ℕ) : Type 0 where
  pub from_generation : List ℕ
  pub from_version : List ℕ
  pub endpoint : endpoint_at last bytes ≡ Ok (r.endpoint, from_generation)
  pub generation : generation_at from_generation ≡ Ok (r.generation, from_version)
  pub version : held_at causes.Version from_version ≡ Ok (r.version, after)

abbrev request_of : ℕ → ℕ → ℕ × List ℕ → Field RequestValue
request_of e g v = Ok (record { endpoint = e; generation = g; version = v.0 }, v.1)

abbrev request_from_generation : ℕ → ℕ × List ℕ → Field RequestValue
request_from_generation e g = held_at causes.Version g.1 >>= request_of e g.0

abbrev request_from_endpoint : ℕ × List ℕ → Field RequestValue
request_from_endpoint e = generation_at e.1 >>= request_from_generation e.0

pub request_parts : (last : Option ℕ) (bytes : List ℕ) (r : RequestValue) (after : List ℕ) → request_at last bytes ≡ Ok (r, after) → RequestParts last bytes r after
unfolding request_at
request_parts last bytes r after h =
    let e = bind_ok (endpoint_at last bytes) request_from_endpoint (r, after) h in
    let g = bind_ok (generation_at e.0.1) (request_from_generation e.0.0) (r, after) e.2 in
    let v = bind_ok (held_at causes.Version g.0.1) (request_of e.0.0 g.0.0) (r, after) g.2 in
    let made : RequestValue = record { endpoint = e.0.0; generation = g.0.0; version = v.0.0 } in
    subst (λ (p : RequestValue × List ℕ). RequestParts last bytes p.0 p.1) {x = (made, v.0.1)} (ok_is (made, v.0.1) (r, after) v.2)
    (record { from_generation = e.0.1; from_version = g.0.1; endpoint = e.1; generation = g.1; version = v.1 })

pub request_past : (last : Option ℕ) (bytes : List ℕ) (r : RequestValue) (after : List ℕ) → request_at last bytes ≡ Ok (r, after) → is_past last r.endpoint ≡ true
request_past last bytes r after h =
    let p = request_parts last bytes r after h in
    (endpoint_parts last bytes r.endpoint p.from_generation p.endpoint).past

-- ---- a state

-- the parts of a key that was read
pub record KeyParts (last : Option ℕ) (bytes : List ℕ) (k : ℕ) (after : List ℕ) : Type 0 where
  pub read : number_at w8 bytes ≡ Ok (k, after)
  pub in_range : (k == 0 || nat_lt STATE_LIMIT k) ≡ false
  pub past : is_past last k ≡ true

pub key_parts : (last : Option ℕ) (bytes : List ℕ) (k : ℕ) (after : List ℕ) → key_at last bytes ≡ Ok (k, after) → KeyParts last bytes k after
key_parts last bytes k after h =
    let a = bind_ok (number_at w8 bytes) (λ key. key_from last bytes key.0 key.1) (k, after) h in
    let order : Misread = record { cause = causes.Order; left = length bytes } in
    let made : Field ℕ = Ok (a.0.0, a.0.1) in
    let g = goes_by (a.0.0 == 0 || nat_lt STATE_LIMIT a.0.0) (record { cause = causes.Key; left = length bytes }) (cond (is_past last a.0.0) made (Err order)) (k, after) a.2 in
    let w = goes_on_by (is_past last a.0.0) order made (k, after) g.1 in
    subst (λ (p : ℕ × List ℕ). KeyParts last bytes p.0 p.1) {x = (a.0.0, a.0.1)} (ok_is (a.0.0, a.0.1) (k, after) w.1) (record { read = a.1; in_range = g.0; past = w.0 })

pub version_newer : (above : ℕ) (bytes : List ℕ) (v : ℕ) (after : List ℕ) → version_above_at above bytes ≡ Ok (v, after) → (version_at bytes ≡ Ok (v, after)) × (nat_lt above v ≡ true)
version_newer above bytes v after h =
    let fault : Misread = record { cause = causes.Version; left = length bytes } in
    let a = bind_ok (version_at bytes) (λ v. cond (nat_lt above v.0) (Ok v) (Err fault)) (v, after) h in
    let w = goes_on_by (nat_lt above a.0.0) fault (Ok a.0) (v, after) a.2 in
    subst (λ (p : ℕ × List ℕ). (version_at bytes ≡ Ok p) × (nat_lt above p.0 ≡ true)) (ok_is a.0 (v, after) w.1) (a.1, w.0)

pub record StateParts (layout : Layout) (above : ℕ) (last : Option ℕ) (bytes : List ℕ) (s : State) (after : List ℕ) : Type 0 where
  pub from_version : List ℕ
  pub from_text : List ℕ
  pub key : key_at last bytes ≡ Ok (s.key, from_version)
  pub version : version_above_at above from_version ≡ Ok (s.version, from_text)
  pub text : value_at layout from_text ≡ Ok (s.text, after)

abbrev state_of : ℕ → ℕ → Option (List ℕ) × List ℕ → Field State
state_of k v t = Ok (record { key = k; version = v; text = t.0 }, t.1)

abbrev state_from_version : Layout → ℕ → ℕ × List ℕ → Field State
state_from_version layout k v = value_at layout v.1 >>= state_of k v.0

abbrev state_from_key : Layout → ℕ → ℕ × List ℕ → Field State
state_from_key layout above k = version_above_at above k.1 >>= state_from_version layout k.0

pub state_parts : (layout : Layout) (above : ℕ) (last : Option ℕ) (bytes : List ℕ) (s : State) (after : List ℕ) → state_at layout above last bytes ≡ Ok (s, after) → StateParts layout above last bytes s after
unfolding state_at
state_parts layout above last bytes s after h =
    let k = bind_ok (key_at last bytes) (state_from_key layout above) (s, after) h in
    let v = bind_ok (version_above_at above k.0.1) (state_from_version layout k.0.0) (s, after) k.2 in
    let t = bind_ok (value_at layout v.0.1) (state_of k.0.0 v.0.0) (s, after) v.2 in
    let made : State = record { key = k.0.0; version = v.0.0; text = t.0.0 } in
    subst (λ (p : State × List ℕ). StateParts layout above last bytes p.0 p.1) {x = (made, t.0.1)} (ok_is (made, t.0.1) (s, after) t.2)
    (record { from_version = k.0.1; from_text = v.0.1; key = k.1; version = v.1; text = t.1 })

pub state_past : (layout : Layout) (above : ℕ) (last : Option ℕ) (bytes : List ℕ) (s : State) (after : List ℕ) → state_at layout above last bytes ≡ Ok (s, after) → is_past last s.key ≡ true
state_past layout above last bytes s after h =
    let p = state_parts layout above last bytes s after h in
    (key_parts last bytes s.key p.from_version p.key).past

state_newer : (layout : Layout) (above : ℕ) (last : Option ℕ) (bytes : List ℕ) (s : State) (after : List ℕ) → state_at layout above last bytes ≡ Ok (s, after) → nat_lt above s.version ≡ true
state_newer layout above last bytes s after h =
    let p = state_parts layout above last bytes s after h in
    (version_newer above p.from_version s.version p.from_text p.version).1

-- a property of each member that was read
rising_all : {X : Type 0} (key : X → ℕ) (one : Option ℕ → List ℕ → Field X) (test : X → Bool) → ((last : Option ℕ) (bytes : List ℕ) (x : X) (after : List ℕ) → one last bytes ≡ Ok (x, after) → test x ≡ true)
    → (n : ℕ) (last : Option ℕ) (bytes : List ℕ) (xs : List X) (rest : List ℕ) → rising_at key one n last bytes ≡ Ok (xs, rest) → list_all test xs ≡ true
rising_all key one test holds zero last bytes xs rest h =
    subst (λ ys. list_all test ys ≡ true) (none_read key one last bytes xs rest h).0 refl
rising_all key one test holds (suc n) last bytes xs rest h =
    let p = rising_parts key one n last bytes xs rest h in
    let here = holds last bytes p.first p.from p.first_read in
    let others = rising_all key one test holds n (Some (key p.first)) p.from p.others rest p.others_read in
    subst (λ ys. list_all test ys ≡ true) p.is (both _ _ here others)

pub states_rise : (layout : Layout) (above n : ℕ) (bytes : List ℕ) (ss : List State) (rest : List ℕ) → states_at layout above n None bytes ≡ Ok (ss, rest) → (keys_rise ss ≡ true) × (length ss ≡ n)
states_rise layout above n bytes ss rest h =
    rising_taken (λ (s : State). s.key) (state_at layout above) (state_past layout above) n None bytes ss rest h

pub states_newer : (layout : Layout) (above n : ℕ) (bytes : List ℕ) (ss : List State) (rest : List ℕ) → states_at layout above n None bytes ≡ Ok (ss, rest) → all_newer above ss ≡ true
states_newer layout above n bytes ss rest h =
    rising_all (λ (s : State). s.key) (state_at layout above) (λ (s : State). nat_lt above s.version) (state_newer layout above) n None bytes ss rest h

and_true : (b : Bool) → (b && (true && true)) ≡ b
and_true true = refl
and_true false = refl

-- a delta can be made of the parts that were read exactly if it carries something
pub delta_made : (layout : Layout) (above heartbeat n : ℕ) (bytes : List ℕ) (ss : List State) (rest : List ℕ) → states_at layout above n None bytes ≡ Ok (ss, rest) → makes_delta above heartbeat ss ≡ carries above heartbeat n
delta_made layout above heartbeat n bytes ss rest h =
    let r = states_rise layout above n bytes ss rest h in
    let newer = states_newer layout above n bytes ss rest h in
    rw (r.0, newer, r.1) (and_true (nat_lt above heartbeat || not (n == 0)))

-- ---- a delta

-- the parts of a delta that was read
pub record DeltaParts (layout : Layout) (last : Option ℕ) (bytes : List ℕ) (d : OwnerDelta) (after : List ℕ) : Type 0 where
  pub from_generation : List ℕ
  pub from_above : List ℕ
  pub from_heartbeat : List ℕ
  pub from_count : List ℕ
  pub from_states : List ℕ
  pub count : ℕ
  pub states : List State
  pub endpoint : endpoint_at last bytes ≡ Ok (d.endpoint, from_generation)
  pub generation : generation_at from_generation ≡ Ok (d.delta.generation, from_above)
  pub above : held_at causes.Above from_above ≡ Ok (d.delta.above, from_heartbeat)
  pub heartbeat : heartbeat_at from_heartbeat ≡ Ok (d.delta.heartbeat, from_count)
  pub counted : state_count_at from_count ≡ Ok (count, from_states)
  pub read : states_at layout d.delta.above count None from_states ≡ Ok (states, after)
  pub carried : carries d.delta.above d.delta.heartbeat count ≡ true
  pub made : d.delta.states ≡ map_of.from_sorted (pairs states)

abbrev delta_from_count : Layout → List ℕ → ℕ → ℕ → ℕ → ℕ → ℕ × List ℕ → Field OwnerDelta
delta_from_count layout bytes e g a b n = states_at layout a n.0 None n.1 >>= λ ss. delta_from bytes e g a b n.0 ss.0 ss.1

abbrev delta_from_heartbeat : Layout → List ℕ → ℕ → ℕ → ℕ → ℕ × List ℕ → Field OwnerDelta
delta_from_heartbeat layout bytes e g a b = state_count_at b.1 >>= delta_from_count layout bytes e g a b.0

abbrev delta_from_above : Layout → List ℕ → ℕ → ℕ → ℕ × List ℕ → Field OwnerDelta
delta_from_above layout bytes e g a = heartbeat_at a.1 >>= delta_from_heartbeat layout bytes e g a.0

abbrev delta_from_generation : Layout → List ℕ → ℕ → ℕ × List ℕ → Field OwnerDelta
delta_from_generation layout bytes e g = held_at causes.Above g.1 >>= delta_from_above layout bytes e g.0

abbrev delta_from_endpoint : Layout → List ℕ → ℕ × List ℕ → Field OwnerDelta
delta_from_endpoint layout bytes e = generation_at e.1 >>= delta_from_generation layout bytes e.0

pub delta_parts : (layout : Layout) (last : Option ℕ) (bytes : List ℕ) (d : OwnerDelta) (after : List ℕ) → delta_at layout last bytes ≡ Ok (d, after) → DeltaParts layout last bytes d after
unfolding delta_at
delta_parts layout last bytes d after h =
    let e = bind_ok (endpoint_at last bytes) (delta_from_endpoint layout bytes) (d, after) h in
    let g = bind_ok (generation_at e.0.1) (delta_from_generation layout bytes e.0.0) (d, after) e.2 in
    let a = bind_ok (held_at causes.Above g.0.1) (delta_from_above layout bytes e.0.0 g.0.0) (d, after) g.2 in
    let b = bind_ok (heartbeat_at a.0.1) (delta_from_heartbeat layout bytes e.0.0 g.0.0 a.0.0) (d, after) a.2 in
    let n = bind_ok (state_count_at b.0.1) (delta_from_count layout bytes e.0.0 g.0.0 a.0.0 b.0.0) (d, after) b.2 in
    let ss = bind_ok (states_at layout a.0.0 n.0.0 None n.0.1) (λ ss. delta_from bytes e.0.0 g.0.0 a.0.0 b.0.0 n.0.0 ss.0 ss.1) (d, after) n.2 in
    let made : OwnerDelta = record { endpoint = e.0.0; delta = record { generation = g.0.0; above = a.0.0; heartbeat = b.0.0; states = map_of.from_sorted (pairs ss.0.0) } } in
    let w = goes_on_by (carries a.0.0 b.0.0 n.0.0) (record { cause = causes.Empty; left = length bytes }) (Ok (made, ss.0.1)) (d, after) ss.2 in
    subst (λ (p : OwnerDelta × List ℕ). DeltaParts layout last bytes p.0 p.1) {x = (made, ss.0.1)} (ok_is (made, ss.0.1) (d, after) w.1)
    (record {
      from_generation = e.0.1;
      from_above = g.0.1;
      from_heartbeat = a.0.1;
      from_count = b.0.1;
      from_states = n.0.1;
      count = n.0.0;
      states = ss.0.0;
      endpoint = e.1;
      generation = g.1;
      above = a.1;
      heartbeat = b.1;
      counted = n.1;
      read = ss.1;
      carried = w.0;
      made = refl {a = map_of.from_sorted (pairs ss.0.0)};
    })

pub delta_past : (layout : Layout) (last : Option ℕ) (bytes : List ℕ) (d : OwnerDelta) (after : List ℕ) → delta_at layout last bytes ≡ Ok (d, after) → is_past last d.endpoint ≡ true
delta_past layout last bytes d after h =
    let p = delta_parts layout last bytes d after h in
    (endpoint_parts last bytes d.endpoint p.from_generation p.endpoint).past

-- ---- lists with their count

pub count_within : (layout : Layout) (bytes : List ℕ) (n : ℕ) (rest : List ℕ) → count_at layout bytes ≡ Ok (n, rest) → (number_at w16 bytes ≡ Ok (n, rest)) × (n ≤ layout.members)
count_within layout bytes n rest h =
    let a = bind_ok (number_at w16 bytes) (λ n. cond (nat_lt layout.members n.0) (Err (record { cause = causes.Count; left = length bytes })) (Ok n)) (n, rest) h in
    let s = goes_by (nat_lt layout.members a.0.0) (record { cause = causes.Count; left = length bytes }) (Ok a.0) (n, rest) a.2 in
    subst (λ (p : ℕ × List ℕ). (number_at w16 bytes ≡ Ok p) × (p.0 ≤ layout.members)) (ok_is a.0 (n, rest) s.1) (a.1, ltb-false layout.members a.0.0 s.0)

-- members that were read with their count make a list
pub read_listed : {X : Type 0} (key : X → ℕ) (one : Option ℕ → List ℕ → Field X) → ((last : Option ℕ) (bytes : List ℕ) (x : X) (after : List ℕ) → one last bytes ≡ Ok (x, after) → is_past last (key x) ≡ true)
    → (layout : Layout) (at : List ℕ) (count : ℕ) (from : List ℕ) (xs : List X) (rest : List ℕ) → layout.members ≤ MEMBER_LIMIT → count_at layout at ≡ Ok (count, from) → rising_at key one count None from ≡ Ok (xs, rest) → is_member_list (map key xs) ≡ true
read_listed {X = X} key one past layout at count from xs rest few counted read =
    let t = rising_taken key one past count None from xs rest read in
    let within = (count_within layout at count from counted).1 in
    let enough : nat_le (length (map key xs)) MEMBER_LIMIT ≡ true = le-leb (length (map key xs)) MEMBER_LIMIT (omega (arith, t.1, length-map {A = X} {B = ℕ})) in
    both _ _ enough t.0

pub counted_parts : {X : Type 0} (key : X → ℕ) (one : Option ℕ → List ℕ → Field X) (layout : Layout) (at : List ℕ) (xs : List X) (rest : List ℕ) → (count_at layout at >>= λ count. rising_at key one count.0 None count.1) ≡ Ok (xs, rest)
    → (c : ℕ × List ℕ) × (count_at layout at ≡ Ok c) × (rising_at key one c.0 None c.1 ≡ Ok (xs, rest))
counted_parts key one layout at xs rest h = bind_ok (count_at layout at) (λ count. rising_at key one count.0 None count.1) (xs, rest) h

pub digests_listed : (layout : Layout) (at : List ℕ) (count : ℕ) (from : List ℕ) (ds : List Digest) (rest : List ℕ) → layout.members ≤ MEMBER_LIMIT → count_at layout at ≡ Ok (count, from) → digests_at count None from ≡ Ok (ds, rest) → is_member_list (endpoints_of_digests ds) ≡ true
digests_listed = read_listed (λ (d : Digest). d.endpoint) digest_at digest_past

pub requests_listed : (layout : Layout) (at : List ℕ) (rs : List RequestValue) (rest : List ℕ) → layout.members ≤ MEMBER_LIMIT → listed_requests_at layout at ≡ Ok (rs, rest) → is_member_list (endpoints_of_requests rs) ≡ true
requests_listed layout at rs rest few h =
    let c = counted_parts (λ (r : RequestValue). r.endpoint) request_at layout at rs rest h in
    read_listed (λ (r : RequestValue). r.endpoint) request_at request_past layout at c.0.0 c.0.1 rs rest few c.1 c.2

pub deltas_listed : (layout : Layout) (at : List ℕ) (ds : List OwnerDelta) (rest : List ℕ) → layout.members ≤ MEMBER_LIMIT → listed_deltas_at layout at ≡ Ok (ds, rest) → is_member_list (endpoints_of_deltas ds) ≡ true
deltas_listed layout at ds rest few h =
    let c = counted_parts (λ (d : OwnerDelta). d.endpoint) (delta_at layout) layout at ds rest h in
    read_listed (λ (d : OwnerDelta). d.endpoint) (delta_at layout) (delta_past layout) layout at c.0.0 c.0.1 ds rest few c.1 c.2

-- ---- a SYN

abbrev pub syn_made : List ℕ → ℕ → List Digest × List ℕ → Field SynValue
syn_made name partitioner digests = Ok (record { cluster = record { name = name; partitioner = partitioner }; digests = digests.0 }, digests.1)

abbrev pub after_count : List ℕ → ℕ → ℕ × List ℕ → Field SynValue
after_count name partitioner count = digests_at count.0 None count.1 >>= syn_made name partitioner

abbrev pub after_partitioner : Layout → List ℕ → ℕ × List ℕ → Field SynValue
after_partitioner layout name partitioner = count_at layout partitioner.1 >>= after_count name partitioner.0

abbrev pub after_name : Layout → List ℕ × List ℕ → Field SynValue
after_name layout name = number_at w8 name.1 >>= after_partitioner layout name.0

pub record SynParts (layout : Layout) (bytes : List ℕ) (m : SynValue) (after : List ℕ) : Type 0 where
  pub count : ℕ
  pub from_partitioner : List ℕ
  pub from_count : List ℕ
  pub from_digests : List ℕ
  pub name : name_at bytes ≡ Ok (m.cluster.name, from_partitioner)
  pub partitioner : number_at w8 from_partitioner ≡ Ok (m.cluster.partitioner, from_count)
  pub counted : count_at layout from_count ≡ Ok (count, from_digests)
  pub digests : digests_at count None from_digests ≡ Ok (m.digests, after)

pub syn_parts : (layout : Layout) (bytes : List ℕ) (m : SynValue) (after : List ℕ) → syn_at layout bytes ≡ Ok (m, after) → SynParts layout bytes m after
unfolding syn_at
syn_parts layout bytes m after h =
    let n = bind_ok (name_at bytes) (after_name layout) (m, after) h in
    let p = bind_ok (number_at w8 n.0.1) (after_partitioner layout n.0.0) (m, after) n.2 in
    let c = bind_ok (count_at layout p.0.1) (after_count n.0.0 p.0.0) (m, after) p.2 in
    let d = bind_ok (digests_at c.0.0 None c.0.1) (syn_made n.0.0 p.0.0) (m, after) c.2 in
    let made : SynValue = record { cluster = record { name = n.0.0; partitioner = p.0.0 }; digests = d.0.0 } in
    subst (λ (q : SynValue × List ℕ). SynParts layout bytes q.0 q.1) {x = (made, d.0.1)} (ok_is (made, d.0.1) (m, after) d.2)
    (record { count = c.0.0; from_partitioner = n.0.1; from_count = p.0.1; from_digests = c.0.1; name = n.1; partitioner = p.1; counted = c.1; digests = d.1 })
