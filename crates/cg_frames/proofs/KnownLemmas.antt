-- What is known of a text, and of the parts of a message, need not be tested again.
use Rattle.std.proofs.Common.{◌≡◌, ℕ, true, List, Option, None, Ok, Err, IsOk, refl, subst, arith}
use Rattle.std.specs.Str.{IsUtf8}
use Rattle.std.proofs.lemmas.Str.{IsUtf8-from_is_utf8}
use Rattle.cg_types.specs.Text.{plain}
use Rattle.cg_messages.specs.declared.message.Message.{Message}
use Rattle.cg_types.specs.ResultSteps.{◌>>=◌}
use Rattle.cg_types.specs.declared.fault.Cause.TheVariants as causes
use Rattle.cg_messages.specs.Values.{RequestValue}
use Rattle.cg_frames.specs.declared.layout.Layout.{Layout}
use Rattle.cg_frames.specs.Fields.{Field, count_at, endpoint_at, generation_at, held_at, heartbeat_at, state_count_at}
use Rattle.cg_frames.specs.Lists.{states_at, delta_from, delta_at, deltas_at, listed_requests_at, listed_deltas_at}
use Rattle.cg_frames.specs.Reading.{whole_field, as_message, ack_at, ack2_at}
use Rattle.cg_frames.proofs.ListLemmas.{first_ok}

pub utf8_of_plain : (bytes : List ℕ) → plain bytes ≡ true → IsUtf8 bytes
utf8_of_plain bytes is = IsUtf8-from_is_utf8 bytes (grind arith)

pub field_ok : {A : Type 0} (f : A → Message) (r : Field A) → IsOk (as_message f (whole_field r)) → IsOk r
field_ok f (Ok x) h = refl
field_ok f (Err m) h = h

pub states_known : (layout : Layout) (last : Option ℕ) (bytes : List ℕ) (e g a b n : ℕ) (from_generation from_above from_heartbeat from_count from_states : List ℕ) → endpoint_at last bytes ≡ Ok (e, from_generation) → generation_at from_generation ≡ Ok (g, from_above)
    → held_at causes.Above from_above ≡ Ok (a, from_heartbeat) → heartbeat_at from_heartbeat ≡ Ok (b, from_count) → state_count_at from_count ≡ Ok (n, from_states) → IsOk (delta_at layout last bytes) → IsOk (states_at layout a n None from_states)
unfolding delta_at
states_known layout last bytes e g a b n from_generation from_above from_heartbeat from_count from_states e_is g_is a_is b_is n_is ok =
    let is : delta_at layout last bytes ≡ (states_at layout a n None from_states >>= λ ss. delta_from bytes e g a b n ss.0 ss.1) = rw (e_is, g_is, a_is, b_is, n_is) refl in
    first_ok (states_at layout a n None from_states) (λ ss. delta_from bytes e g a b n ss.0 ss.1) (subst IsOk is ok)

pub deltas_known : (layout : Layout) (bytes : List ℕ) (n : ℕ) (from : List ℕ) → count_at layout bytes ≡ Ok (n, from) → IsOk (listed_deltas_at layout bytes) → IsOk (deltas_at layout n None from)
deltas_known layout bytes n from n_is ok =
    let is : listed_deltas_at layout bytes ≡ deltas_at layout n None from = rw n_is refl in
    subst IsOk is ok

pub ack_known : (layout : Layout) (bytes : List ℕ) (rs : List RequestValue) (from : List ℕ) → listed_requests_at layout bytes ≡ Ok (rs, from) → IsOk (ack_at layout bytes) → IsOk (listed_deltas_at layout from)
unfolding ack_at
ack_known layout bytes rs from rs_is ok =
    let is : ack_at layout bytes ≡ (listed_deltas_at layout from >>= λ ds. Ok (record { requests = rs; deltas = ds.0 }, ds.1)) = rw rs_is refl in
    first_ok (listed_deltas_at layout from) (λ ds. Ok (record { requests = rs; deltas = ds.0 }, ds.1)) (subst IsOk is ok)

pub ack2_known : (layout : Layout) (bytes : List ℕ) → IsOk (ack2_at layout bytes) → IsOk (listed_deltas_at layout bytes)
unfolding ack2_at
ack2_known layout bytes ok = first_ok (listed_deltas_at layout bytes) (λ ds. Ok (record { deltas = ds.0 }, ds.1)) ok
