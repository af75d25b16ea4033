use Rattle.std.proofs.Common.{◌∙◌, Some, ap, ℕ, arith}
use Rattle.cg_silence.specs.Values.{WindowValue}
use Rattle.cg_silence.proofs.ChunkLemmas.{last_is}
use Rattle.cg_silence.proofs.rows.last_endpoint.Goals as goal

pub returns : goal.returns
returns c =
    ap Some (c.endpoint.ensures ∙ ap (λ (r : ℕ × WindowValue). r.0) c.index-rows-count.is)
    ∙ last_is c.args.rows.now c.index-rows-count.result (omega (arith, c.if-count-eq0.false))
