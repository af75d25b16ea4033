use Rattle.std.proofs.Common.{◌∙◌, arith}
use Rattle.cg_entry.specs.Versioned.{States}
use Rattle.cg_entry.proofs.VersionLemmas.{newest_brought}
use Rattle.cg_entry.proofs.entry.Entry.advance.Goals as goal

pub invariant_of-result : goal.invariant_of-result
invariant_of-result c =
    let mine : States = c.args.self.now.states in
    let theirs : States = c.args.delta.now.states in
    rw (c.none.ensures, c.in_ok-states.ensures, c.heartbeat.ensures, c.held.ensures)
    (c.requires.newest ∙ newest_brought c.args.self.now.heartbeat c.args.delta.now.heartbeat mine theirs (omega (arith, c.requires.newest, c.requires.newer)))
