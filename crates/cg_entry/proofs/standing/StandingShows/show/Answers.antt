use Rattle.std.proofs.Common.{◌∙◌, sym, ap, subst}
use Rattle.std.specs.List.{AllByRecursion}
use Rattle.cg_entry.specs.Contents.{IsState}
use Rattle.cg_entry.specs.Standing.{standing_states}
use Rattle.cg_entry.proofs.NewerLemmas.{entries-empty}
use Rattle.cg_entry.proofs.standing.StandingShows.show.Goals as goal

pub returns-in-Bare : goal.returns-in-Bare
returns-in-Bare c = subst (λ es. AllByRecursion IsState es) (sym (entries-empty c.args.self.now (sym c.self.view_is ∙ ap standing_states c.in-Bare.is))) tt
