use Rattle.std.proofs.Common.{◌++◌, ◌+◌, ◌∙◌, ℕ, drop, None, ap, sym, subst, arith, append_assoc}
use Rattle.cg_types.specs.Rising.{Rises}
use Rattle.cg_types.specs.Rows.{keys_of}
use Rattle.cg_silence.specs.Values.{WindowValue}
use Rattle.cg_silence.specs.Walking.{flat, last_key, walk_heard, ArePart}
use Rattle.cg_silence.proofs.ChunkLemmas.{Rows, flat_at, rise_front, rise_back, later_rise}
use Rattle.cg_silence.proofs.WalkLemmas.{walk_part}
use Rattle.cg_silence.proofs.chunks.hear_chunks.Goals as goal

pub hear_chunk-requires : goal.hear_chunk-requires
hear_chunk-requires c =
    let behind = flat (drop (c.loop-at.at + 1) c.args.chunks.now) in
    let here = flat_at c.args.chunks.now c.loop-at.at c.index-chunks-at.result (omega (arith, c.loop-at-test.true)) c.index-chunks-at.is in
    rise_front (λ (r : ℕ × WindowValue). r.0) None c.index-chunks-at.result behind (subst (λ (rows : Rows). Rises (keys_of rows)) here c.loop-at.invariant.rows)

pub loop-at-preserved : goal.loop-at-preserved
loop-at-preserved c =
    let s = c.args.silence in
    let now = c.args.now in
    let chunk = c.index-chunks-at.result in
    let rest = c.loop-at.rest.now in
    let mine = c.part.result.0.now in
    let later = c.part.result.1.now in
    let made = flat c.loop-at.made.items in
    let behind = flat (drop (c.loop-at.at + 1) c.args.chunks.now) in
    let here = flat_at c.args.chunks.now c.loop-at.at chunk (omega (arith, c.loop-at-test.true)) c.index-chunks-at.is in
    let rise = subst (λ (rows : Rows). Rises (keys_of rows)) here c.loop-at.invariant.rows in
    let part = subst (λ (rows : Rows). ArePart (last_key rows) rest mine later) c.rows.ensures c.part.ensures in
    record {
      rows = rise_back (λ (r : ℕ × WindowValue). r.0) None chunk behind rise;
      outcomes = later_rise (last_key chunk) rest mine later part c.loop-at.invariant.outcomes;
      so_far =
          rw c.in_ok-hear_chunk.ensures
          (append_assoc made (walk_heard s now mine chunk) (walk_heard s now later behind)
          ∙ ap (λ (rows : Rows). made ++ rows) (sym (walk_part s now chunk behind rest mine later rise part) ∙ ap (λ (rows : Rows). walk_heard s now rest rows) (sym here))
          ∙ c.loop-at.invariant.so_far);
    }
