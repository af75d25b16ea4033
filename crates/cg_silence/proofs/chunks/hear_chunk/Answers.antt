use Rattle.std.proofs.Common.{◌≡◌, ◌++◌, ◌∙◌, false, ap, sym}
use Rattle.cg_silence.specs.Windows.{any_taken}
use Rattle.cg_silence.specs.Walking.{flat}
use Rattle.cg_silence.proofs.ChunkLemmas.{Rows, flat_more}
use Rattle.cg_silence.proofs.WalkLemmas.{walk_none}
use Rattle.cg_silence.proofs.chunks.hear_chunk.Goals as goal

pub returns-then-not-any_taken : goal.returns-then-not-any_taken
returns-then-not-any_taken c =
    let none : any_taken c.args.outcomes.now ≡ false = sym c.any_taken.ensures ∙ c.if-not-any_taken.true in
    ap flat c.in_ok-push.ensures.items ∙ flat_more c.args.made.now.items c.in_ok-share.field-0
    ∙ ap (λ (rows : Rows). flat c.args.made.now.items ++ rows) (c.in_ok-share.ensures ∙ sym (walk_none c.args.silence c.args.now c.args.outcomes.now c.args.chunk.now none))
