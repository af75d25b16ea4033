use Rattle.std.proofs.Common.{◌≡◌, ◌+◌, sym, ap, ◌∙◌}
use Rattle.cg_audit.specs.Turns.{rest}
use Rattle.cg_audit.specs.Tracks.{left_at}
use Rattle.cg_audit.proofs.CursorLemmas.{left_none, has_item}
use Rattle.cg_audit.proofs.cursor.after.Goals as goal

pub returns-in-None : goal.returns-in-None
returns-in-None c = λ e.
    let none = left_none e c.args.histories.now c.args.cursor (sym c.in-None.ensures) in
    none ∙ sym (ap rest none)

pub returns-in-Some : goal.returns-in-Some
returns-in-Some c = λ e.
    let at = sym c.in-Some.ensures in
    let one = has_item e c.args.histories.now c.args.cursor c.in-Some.history.now at (c.requires c.in-Some.history.now at) in
    ap (λ n. left_at e c.args.histories.now (record { life = c.args.cursor.life; number = n })) c.past.ensures ∙ sym (ap rest one.left)
