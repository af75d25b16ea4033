use Rattle.std.proofs.Common.{ap, ◌∙◌}
use Rattle.cg_core.specs.Values.{NodeValue}
use Rattle.cg_core.specs.Step.{node_step}
use Rattle.cg_fleet.proofs.StartLemmas.{steps_by}
use Rattle.cg_fleet.proofs.single.step_at.Goals as goal

pub returns-clause-stepped : goal.returns-clause-stepped
returns-clause-stepped c =
    steps_by c.args.place c.args.event.now c.args.nodes.now c.index-nodes-place.result c.in_ok-after.after c.in_ok-after.reply
    c.requires c.index-nodes-place.is
    (ap (λ (n : NodeValue). node_step n c.args.event.now) c.index-nodes-place.is ∙ c.in_ok-after.ensures)
