use Rattle.std.proofs.Common.{ℕ, ◌≡◌, subst, arith}
use Rattle.cg_types.specs.declared.limits.TheConstants.{STATE_LIMIT}
use Rattle.cg_core.specs.Step.{starting_node}
use Rattle.cg_fleet.specs.Starting.{SetsKeys, endpoint_at}
use Rattle.cg_fleet.proofs.samples.started.Goals as goal

-- all keys are set
pub returns : goal.returns
returns c =
    (let P : ℕ → Type 0 = λ k. SetsKeys k (starting_node (endpoint_at c.args.place) c.args.generation c.args.settings.now) c.loop-before.node
    in let done : c.loop-before.before ≡ STATE_LIMIT = omega (arith, c.loop-before.auto.before-end, c.loop-before-test.false)
    in subst P done c.loop-before.invariant)
