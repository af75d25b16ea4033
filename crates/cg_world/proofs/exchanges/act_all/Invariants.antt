use Rattle.std.proofs.Common.{◌≡◌, take}
use Rattle.cg_world.specs.World.{run_from}
use Rattle.cg_world.proofs.exchanges.act_all.Given as goal

abbrev pub invariant-loop-action : goal.invariant-loop-action
invariant-loop-action l = l.world ≡ run_from l.initial.world (take l.action-index l.actions)
