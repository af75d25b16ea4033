use Rattle.std.proofs.Common.{◌∙◌, sym, ap}
use Rattle.cg_entry.specs.Entry.{greatest_of}
use Rattle.cg_entry.specs.Standing.{standing_states}
use Rattle.cg_entry.proofs.NewerLemmas.{entries-empty}
use Rattle.cg_entry.proofs.standing.Standing.greatest.Goals as goal

pub returns-in-Bare : goal.returns-in-Bare
returns-in-Bare c = ap (greatest_of c.args.heartbeat) (sym (entries-empty c.args.self.now (sym c.self.view_is ∙ ap standing_states c.in-Bare.is)))
