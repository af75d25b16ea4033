use Rattle.std.proofs.Common.{sym, ◌∙◌, ap}
use Rattle.cg_core.specs.Claims.{owner_keeps}
use Rattle.cg_core.proofs.ClaimLemmas.{beat_keeps}
use Rattle.cg_core.proofs.claims.owner_keeps.Goals as goal

pub returns-then-is_beat : goal.returns-then-is_beat
returns-then-is_beat c =
    let t = c.args.before.now in
    let d = c.args.sent.now in
    let m = c.args.after.now.entries in
    sym (ap (owner_keeps t.entries m) c.requires.outcome ∙ beat_keeps t m d c.requires.row (sym c.is_beat.ensures ∙ c.if-is_beat.true))
