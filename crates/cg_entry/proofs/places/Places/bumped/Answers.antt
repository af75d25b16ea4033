use Rattle.std.proofs.Common.{◌∙◌, ap, suc, cond, nat_lt, List, ℕ, map}
use Rattle.std.specs.Prelude.{◌&&◌, nat_le}
use Rattle.std.proofs.lemmas.List.{take-map}
use Rattle.cg_entry.proofs.BlockLemmas.{bumped_places}
use Rattle.cg_entry.proofs.places.Places.bumped.Goals as goal

pub returns : goal.returns
returns c =
    rw c.bumped_slots.ensures (take-map (λ p. cond (nat_lt p 16 && nat_le c.args.at p) (suc p) p) c.self.inside.count c.self.inside.slots
    ∙ ap (λ (ps : List ℕ). map (λ p. cond (nat_lt p 16 && nat_le c.args.at p) (suc p) p) ps) c.self.view_is ∙ bumped_places c.args.at c.args.self.now c.requires)
