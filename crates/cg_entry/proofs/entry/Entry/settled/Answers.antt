use Rattle.std.proofs.Common.{◌≡◌, ◌∙◌, subst, IfOk}
use Rattle.cg_entry.specs.Versioned.{States}
use Rattle.cg_entry.proofs.NewerLemmas.{newer_than-zero}
use Rattle.cg_entry.proofs.entry.Entry.settled.Goals as goal

pub returns : goal.returns
returns c =
    subst (λ (m : States). IfOk c.of.result (λ h. h ≡ m)) (c.in_ok-block.ensures.value ∙ newer_than-zero c.args.self.now.states c.show.ensures.states) c.of.ensures
