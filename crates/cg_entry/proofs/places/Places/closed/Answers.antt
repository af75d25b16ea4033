use Rattle.std.proofs.Common.{◌∙◌, ◌-◌, ap, cond, nat_lt}
use Rattle.std.proofs.lemmas.List.{take-map}
use Rattle.cg_entry.specs.Block.{closed}
use Rattle.cg_entry.proofs.places.Places.closed.Goals as goal

pub returns : goal.returns
returns c =
    rw c.closed_slots.ensures (take-map (λ p. cond (nat_lt c.args.at p) (p - 1) p) c.self.inside.count c.self.inside.slots ∙ ap (closed c.args.at) c.self.view_is)
