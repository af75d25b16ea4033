-- The gate over one node, as clauses see it.
use Rattle.std.specs.Prelude.{Option}
use Rattle.cg_core.specs.Values.{NodeValue}
use Rattle.cg_core.specs.declared.reply.Reply.{Reply}
use Rattle.cg_engine.specs.declared.node_gate.NodeGate.{NodeGate}

abbrev pub node_of : NodeGate → NodeValue
node_of g = g.node

-- the reply of the last event that was done
abbrev pub last_of : NodeGate → Option Reply
last_of g = g.last
