use Rattle.std.proofs.Common.{◌≡◌, sym, ◌∙◌, arith}
use Rattle.std.proofs.lemmas.Bool.Decides.{nat_tests}
use Rattle.cg_entry.proofs.BlockLemmas.{row_here}
use Rattle.cg_entry.proofs.block.has_number.Goals as goal

pub returns-then-number-places : goal.returns-then-number-places
returns-then-number-places c = λ e.
    let same : c.key_at.result ≡ c.get.result = grind (arith, nat_tests) in
    row_here c.args.items.now c.args.key c.args.places.now c.args.number c.if-number-places.true (sym c.key_at.ensures ∙ same ∙ c.get.ensures.value)
