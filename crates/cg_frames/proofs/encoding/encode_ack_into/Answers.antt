use Rattle.std.proofs.Common.{◌≡◌, ◌++◌, ◌∙◌, ℕ, List, [], ◌∷◌, length, append_assoc, ap, arith}
use Rattle.cg_messages.specs.declared.message.Message.TheVariants as messages
use Rattle.cg_frames.specs.declared.layout.TheConstants.{WRITTEN}
use Rattle.cg_frames.specs.Spelling.{members, request, delta, inside}
use Rattle.cg_frames.proofs.LawLemmas.{inside_fits, third_is_layout}
use Rattle.cg_frames.proofs.encoding.encode_ack_into.Goals as goal

abbrev zeros : List ℕ → List ℕ
zeros xs = 0 ∷ 0 ∷ 0 ∷ 0 ∷ xs

pub put_length-requires-clause-short : goal.put_length-requires-clause-short
put_length-requires-clause-short c =
    let m = messages.Ack c.args.ack.now in
    let whole : c.put_deltas.new.out.items ≡ zeros (inside WRITTEN m) = c.in_ok-put_deltas.ensures
    ∙ ap (λ (ys : List ℕ). ys ++ members delta c.deltas.result.now) (c.in_ok-put_requests.ensures ∙ ap (λ (ys : List ℕ). ys ++ members request c.requests.result.now) c.in_ok-extend_from_slice.ensures.items)
    ∙ (λ i. ((c.clear.ensures.items i ++ zeros (WRITTEN.byte ∷ 2 ∷ [])) ++ members request (c.requests.ensures.value i)) ++ members delta (c.deltas.ensures.value i))
    ∙ append_assoc (zeros (WRITTEN.byte ∷ 2 ∷ [])) (members request c.args.ack.now.requests) (members delta c.args.ack.now.deltas) in
    omega (arith, ap (λ (ys : List ℕ). length ys) whole, inside_fits WRITTEN third_is_layout m c.borrowed_ack_fits.ensures)
