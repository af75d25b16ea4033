use Rattle.std.proofs.Common.{◌∙◌, List, sym, ap}
use Rattle.std.proofs.lemmas.Slice.Eq.{slice_eq-Decides}
use Rattle.cg_messages.specs.declared.owner_delta.OwnerDelta.{OwnerDelta}
use Rattle.cg_messages.specs.Values.{Ack2Value, owner_delta_code}
use Rattle.cg_types.specs.Equality.{same_by-Decides}
use Rattle.cg_messages.proofs.ack2.Ack2PartialEq.eq.Goals as goal

pub returns : goal.returns
returns c =
    let deltas = slice_eq-Decides (same_by-Decides owner_delta_code) c.self.inside.deltas.items c.other.inside.deltas.items c.eq.result c.eq.ensures in (
      λ t. sym c.self.view_is ∙ ap (λ (ds : List OwnerDelta). record { deltas = ds }) (deltas.0 t) ∙ c.other.view_is,
      λ e. deltas.1 (ap (λ (a : Ack2Value). a.deltas) (c.self.view_is ∙ e ∙ sym c.other.view_is)),
    )
