use Rattle.cg_core.specs.Step.{starting_node}
use Rattle.cg_fleet.specs.Starting.{SetsKeys, endpoint_at}
use Rattle.cg_fleet.proofs.samples.started.Given as goal

-- the keys so far are set
abbrev pub invariant-loop-before : goal.invariant-loop-before
invariant-loop-before l = SetsKeys l.before (starting_node (endpoint_at l.fn.place) l.fn.generation l.fn.settings) l.node
