use Rattle.std.proofs.Common.{◌≡◌, ◌==◌, ◌∙◌, [], length, true, ap, sym, subst, eqb-true, IfOk}
use Rattle.std.proofs.lemmas.List.{nil_from_length}
use Rattle.cg_silence.specs.Walking.{flat, walk_heard}
use Rattle.cg_silence.proofs.ChunkLemmas.{Rows}
use Rattle.cg_silence.proofs.chunks.hear_all.Goals as goal

pub returns-then-is_empty : goal.returns-then-is_empty
returns-then-is_empty c =
    let chunks = c.args.chunks.now in
    let none : (length chunks == 0) ≡ true = sym c.is_empty.ensures ∙ c.if-is_empty.true in
    let same : [] ≡ flat chunks = sym (ap flat (nil_from_length chunks (eqb-true (length chunks) 0 none))) in
    subst (λ (rows : Rows). IfOk c.hear_first.result (λ made. flat made.items ≡ walk_heard c.args.silence c.args.now c.args.outcomes.now rows)) same c.hear_first.ensures
