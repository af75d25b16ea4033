use Rattle.std.proofs.Common.{◌≡◌, ap, ◌∙◌}
use Rattle.std.specs.Option.{option_to_list}
use Rattle.cg_audit.specs.Turns as turns
use Rattle.cg_audit.proofs.CursorLemmas.{first_here}
use Rattle.cg_audit.proofs.cursor.first_in.Goals as goal

pub returns : goal.returns
returns c =
    ap option_to_list c.item_at.ensures ∙ first_here c.args.endpoint c.args.histories.now c.settled-at.result c.settled-at.ensures.here
    ∙ ap turns.first (c.settled-at.ensures.same c.args.endpoint)
