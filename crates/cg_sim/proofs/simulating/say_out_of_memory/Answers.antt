use Rattle.std.proofs.Common.{ℕ, List, subst}
use Rattle.cg_links.specs.Counted.{link_of}
use Rattle.cg_sim.specs.Simulated.{WritesLine}
use Rattle.cg_types.proofs.FaultLines.{out_of_memory_line}
use Rattle.cg_sim.proofs.simulating.say_out_of_memory.Goals as goal

pub returns : goal.returns
returns g c =
    subst (λ (l : List ℕ). WritesLine (g.W.Write.contents (link_of c.args.writer.now)) (g.W.Write.contents (link_of c.say.new.writer)) c.args.writer.now c.say.new.writer l)
    out_of_memory_line c.say.ensures
