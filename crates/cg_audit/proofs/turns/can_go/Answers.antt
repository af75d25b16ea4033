use Rattle.std.proofs.Common.{sym, ap, ◌∙◌}
use Rattle.std.specs.Option.{option_map}
use Rattle.cg_messages.specs.Borrowed.{borrowed_message}
use Rattle.cg_audit.specs.Tracks.{goes}
use Rattle.cg_audit.proofs.TrackLemmas.{among_decides}
use Rattle.cg_audit.proofs.turns.can_go.Goals as goal

pub returns-in-Some : goal.returns-in-Some
returns-in-Some c =
    among_decides c.contains.result c.args.sent.now (borrowed_message c.in-Some.message) c.contains.ensures
    ∙ ap (λ h. goes c.args.sent.now (option_map borrowed_message h)) (sym c.in-Some.is)
