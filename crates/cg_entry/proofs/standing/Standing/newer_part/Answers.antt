use Rattle.std.proofs.Common.{◌∙◌, sym, ap}
use Rattle.cg_entry.specs.Standing.{standing_states}
use Rattle.cg_entry.proofs.NewerLemmas.{newer_of_none}
use Rattle.cg_entry.proofs.standing.Standing.newer_part.Goals as goal

pub returns-in-Bare : goal.returns-in-Bare
returns-in-Bare c = newer_of_none c.args.above c.args.self.now (sym c.self.view_is ∙ ap standing_states c.in-Bare.is)
