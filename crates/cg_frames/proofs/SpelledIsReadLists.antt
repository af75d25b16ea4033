-- An ACK or an ACK2 that is spelled so is read, whatever follows.
use Rattle.std.proofs.Common.{◌≡◌, ℕ, ◌^◌, ◌<◌, ◌≤◌, List, ◌++◌, length, Ok, ap, ◌∙◌, append_assoc, arith}
use Rattle.cg_messages.specs.declared.owner_delta.OwnerDelta.{OwnerDelta}
use Rattle.cg_messages.specs.Values.{RequestValue, AckValue, Ack2Value}
use Rattle.cg_frames.specs.declared.layout.Layout.{Layout}
use Rattle.cg_entry.specs.declared.spelled.TheConstants.{TOMBSTONE}
use Rattle.cg_types.specs.ResultSteps.{◌>>=◌}
use Rattle.cg_frames.specs.Fields.{Field}
use Rattle.cg_frames.specs.Lists.{request_at, delta_at, listed_deltas_at}
use Rattle.cg_frames.specs.Reading.{ack_at, ack2_at}
use Rattle.cg_frames.specs.Spelling.{members, request, delta}
use Rattle.cg_messages.specs.Contents.{IsRequest}
use Rattle.cg_frames.proofs.FitsFields.{FitsDelta, FitsAck, FitsAck2}
use Rattle.cg_frames.proofs.SpelledIsReadLemmas.{counted_again, length_keys}
use Rattle.cg_frames.proofs.SpelledIsReadMembers.{request_again}
use Rattle.cg_frames.proofs.SpelledIsReadDeltas.{delta_again}

pub ack_again : (layout : Layout) (m : AckValue) (rest : List ℕ) → layout.text < TOMBSTONE → layout.members < 2 ^ 16 → FitsAck layout m → ack_at layout ((members request m.requests ++ members delta m.deltas) ++ rest) ≡ Ok (m, rest)
unfolding ack_at
ack_again layout m rest text wide fits =
    let few : length m.deltas ≤ layout.members = omega (arith, fits.listed.few, length_keys (λ (d : OwnerDelta). d.endpoint) m.deltas) in
    let asked : length m.requests ≤ layout.members = omega (arith, fits.asked.few, length_keys (λ (r : RequestValue). r.endpoint) m.requests) in
    ap (ack_at layout) (append_assoc (members request m.requests) (members delta m.deltas) rest)
    ∙ ap (λ (r : Field (List RequestValue)). r >>= λ requests. listed_deltas_at layout requests.1 >>= λ deltas. Ok (record { requests = requests.0; deltas = deltas.0 }, deltas.1))
    (counted_again (λ (r : RequestValue). r.endpoint) request request_at IsRequest request_again layout m.requests (members delta m.deltas ++ rest) wide asked fits.requests fits.asked.rise)
    ∙ ap (λ (r : Field (List OwnerDelta)). r >>= λ deltas. Ok (record { requests = m.requests; deltas = deltas.0 }, deltas.1))
    (counted_again (λ (d : OwnerDelta). d.endpoint) delta (delta_at layout) (FitsDelta layout) (delta_again layout text) layout m.deltas rest wide few fits.deltas fits.listed.rise)

pub ack2_again : (layout : Layout) (m : Ack2Value) (rest : List ℕ) → layout.text < TOMBSTONE → layout.members < 2 ^ 16 → FitsAck2 layout m → ack2_at layout (members delta m.deltas ++ rest) ≡ Ok (m, rest)
unfolding ack2_at
ack2_again layout m rest text wide fits =
    let few : length m.deltas ≤ layout.members = omega (arith, fits.listed.few, length_keys (λ (d : OwnerDelta). d.endpoint) m.deltas) in
    ap (λ (r : Field (List OwnerDelta)). r >>= λ deltas. Ok (record { deltas = deltas.0 }, deltas.1))
    (counted_again (λ (d : OwnerDelta). d.endpoint) delta (delta_at layout) (FitsDelta layout) (delta_again layout text) layout m.deltas rest wide few fits.deltas fits.listed.rise)
