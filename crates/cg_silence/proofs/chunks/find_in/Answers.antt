use Rattle.std.proofs.Common.{◌≡◌, ◌+◌, ◌∙◌, ℕ, drop, false, true, None, ap, sym, subst}
use Rattle.std.specs.Ordering.{nat_cmp}
use Rattle.std.specs.FinMap.Entries.{find}
use Rattle.cg_types.specs.Rising.{Rises}
use Rattle.cg_types.specs.Rows.{keys_of}
use Rattle.cg_silence.specs.Values.{WindowValue}
use Rattle.cg_silence.specs.Walking.{flat, ends_before}
use Rattle.cg_silence.proofs.ChunkLemmas.{Rows, flat_at, rise_front, rise_back, find_after_chunk, find_in_chunk}
use Rattle.cg_silence.proofs.chunks.find_in.Goals as goal

pub window_of-requires : goal.window_of-requires
window_of-requires c =
    let behind = flat (drop (c.loop-chunk.chunk-index + 1) c.args.chunks.now) in
    let here = flat_at c.args.chunks.now c.loop-chunk.chunk-index c.chunk-item.result c.loop-chunk-test.true c.chunk-item.is in
    let rise = subst (λ (rows : Rows). Rises (keys_of rows)) here c.loop-chunk.invariant.rise in
    rw c.rows-then-not-end_before.ensures (rise_front (λ (r : ℕ × WindowValue). r.0) None c.chunk-item.result behind rise)

pub returns-then-not-end_before : goal.returns-then-not-end_before
returns-then-not-end_before c =
    let k = c.args.endpoint in
    let behind = flat (drop (c.loop-chunk.chunk-index + 1) c.args.chunks.now) in
    let here = flat_at c.args.chunks.now c.loop-chunk.chunk-index c.chunk-item.result c.loop-chunk-test.true c.chunk-item.is in
    let rise = subst (λ (rows : Rows). Rises (keys_of rows)) here c.loop-chunk.invariant.rise in
    let ends : ends_before k c.chunk-item.result ≡ false = ap (ends_before k) (sym c.rows.ensures) ∙ sym c.end_before.ensures ∙ c.if-not-end_before.true in
    c.window_of.ensures ∙ ap (find nat_cmp k) c.rows-then-not-end_before.ensures ∙ sym (find_in_chunk k c.chunk-item.result behind rise ends)
    ∙ ap (find nat_cmp k) (sym here) ∙ c.loop-chunk.invariant.same

pub loop-chunk-preserved : goal.loop-chunk-preserved
loop-chunk-preserved c =
    let k = c.args.endpoint in
    let behind = flat (drop (c.loop-chunk.chunk-index + 1) c.args.chunks.now) in
    let here = flat_at c.args.chunks.now c.loop-chunk.chunk-index c.chunk-item.result c.loop-chunk-test.true c.chunk-item.is in
    let rise = subst (λ (rows : Rows). Rises (keys_of rows)) here c.loop-chunk.invariant.rise in
    let ends : ends_before k c.chunk-item.result ≡ true = ap (ends_before k) (sym c.rows.ensures) ∙ sym c.end_before.ensures ∙ c.if-not-end_before.false in
    record {
      rise = rise_back (λ (r : ℕ × WindowValue). r.0) None c.chunk-item.result behind rise;
      same = sym (find_after_chunk k c.chunk-item.result behind rise ends) ∙ ap (find nat_cmp k) (sym here) ∙ c.loop-chunk.invariant.same;
    }
