use Rattle.std.proofs.Common.{◌∙◌}
use Rattle.cg_history.proofs.Replaying.{replayed_new}
use Rattle.cg_history.proofs.history.History.begin.Goals as goal

pub invariant_of-result : goal.invariant_of-result
invariant_of-result c =
    replayed_new c.args.own c.args.generation c.args.settings c.show.ensures _
    (λ k. record { start = (c.in_ok-copy.ensures ∙ c.in_ok-node.ensures) k; base = (c.in_ok-copy-2.ensures ∙ c.in_ok-node.ensures) k; folded = 0; records = c.new.ensures.items k; node = c.in_ok-node.ensures k })
