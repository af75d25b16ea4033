use Rattle.std.proofs.Common.{◌∙◌}
use Rattle.cg_entry.specs.Removals.{with_tombstones}
use Rattle.cg_entry.proofs.StandingLemmas.{beat_stands}
use Rattle.cg_entry.proofs.entry.Entry.beat.Goals as goal

pub invariant_of-self : goal.invariant_of-self
invariant_of-self c =
    beat_stands c.self.inside.generation c.self.inside.heartbeat c.args.versions.now c.in_ok-version.version (with_tombstones c.self.inside.removals c.self.inside.states) c.args.self.now c.self.view_is c.requires c.in_ok-version.ensures.value

pub returns-clause-stands : goal.returns-clause-stands
returns-clause-stands c =
    c.in_ok-version.ensures.ok
    ∙ beat_stands c.self.inside.generation c.self.inside.heartbeat c.args.versions.now c.in_ok-version.version (with_tombstones c.self.inside.removals c.self.inside.states) c.args.self.now c.self.view_is c.requires c.in_ok-version.ensures.value
