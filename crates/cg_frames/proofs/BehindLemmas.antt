-- A delta that has states, of what is behind its other fields.
use Rattle.std.proofs.Common.{◌≡◌, ℕ, Bool, true, false, List, Result, Ok, Err, refl, ap}
use Rattle.std.specs.Prelude.{◌≢◌, ◌==◌, ◌||◌, not, nat_lt}
use Rattle.std.proofs.lemmas.Bool.{ne_eqb}
use Rattle.cg_types.specs.ResultSteps.{◌>>=◌}
use Rattle.cg_entry.specs.declared.state.State.{State}
use Rattle.cg_entry.specs.State.{delta_of_parts}
use Rattle.cg_entry.specs.Values.{DeltaValue}
use Rattle.cg_messages.specs.declared.owner_delta.OwnerDelta.{OwnerDelta}
use Rattle.cg_frames.specs.Fields.{Field}
use Rattle.cg_frames.specs.Lists.{carries, delta_from}
use Rattle.cg_frames.specs.Readers.{part_of_field}
use Rattle.cg_frames.proofs.ReadIsSpelledParts.{ok_is}

or_true : (b : Bool) → (b || true) ≡ true
or_true true = refl
or_true false = refl

-- a delta with states carries something
pub carries_some : (above heartbeat n : ℕ) → n ≢ 0 → carries above heartbeat n ≡ true
carries_some above heartbeat n some = rw (ne_eqb n 0 some) (or_true (nat_lt above heartbeat))

abbrev read_of : ℕ → DeltaValue × List ℕ → Field OwnerDelta
read_of endpoint x = Ok (record { endpoint = endpoint; delta = x.0 }, x.1)

-- the delta of its states, behind its other fields
pub delta_behind : (bytes : List ℕ) (endpoint generation above heartbeat n : ℕ) (states : Field (List State)) (d : DeltaValue) (rest : List ℕ) → n ≢ 0
    → part_of_field (λ (ss : List State). delta_of_parts generation above heartbeat ss) states ≡ Ok (d, rest)
    → (states >>= (λ s. delta_from bytes endpoint generation above heartbeat n s.0 s.1)) ≡ Ok (record { endpoint = endpoint; delta = d }, rest)
delta_behind bytes endpoint generation above heartbeat n (Ok s) d rest some is =
    let carried = carries_some above heartbeat n some in
    let same = ok_is (delta_of_parts generation above heartbeat s.0, s.1) (d, rest) is in
    rw carried (ap (λ (x : DeltaValue × List ℕ). read_of endpoint x) same)
delta_behind bytes endpoint generation above heartbeat n (Err m) d rest some is = absurd cc
