use Rattle.std.proofs.Common.{◌∙◌, sym, ap, rules}
use Rattle.std.proofs.lemmas.Slice.Eq.{slice_eq-Decides}
use Rattle.cg_messages.specs.Values.{RequestValue, AckValue, owner_delta_code}
use Rattle.cg_types.specs.Equality.{same_by-Decides}
use Rattle.cg_messages.proofs.ack.AckPartialEq.eq.Goals as goal

pub returns-then-eq : goal.returns-then-eq
returns-then-eq c =
    let requests = slice_eq-Decides (λ (a b : RequestValue). search rules) c.self.inside.requests.items c.other.inside.requests.items c.eq.result c.eq.ensures in
    let deltas = slice_eq-Decides (same_by-Decides owner_delta_code) c.self.inside.deltas.items c.other.inside.deltas.items c.eq-then-eq.result c.eq-then-eq.ensures in (
      λ t. sym c.self.view_is ∙ (λ i. record { requests = requests.0 c.if-eq.true i; deltas = deltas.0 t i }) ∙ c.other.view_is,
      λ e. deltas.1 (ap (λ (a : AckValue). a.deltas) (c.self.view_is ∙ e ∙ sym c.other.view_is)),
    )

pub returns-else-eq : goal.returns-else-eq
returns-else-eq c =
    let requests = slice_eq-Decides (λ (a b : RequestValue). search rules) c.self.inside.requests.items c.other.inside.requests.items c.eq.result c.eq.ensures in (
      λ t. absurd (let no = c.if-eq.false in cc),
      λ e. requests.1 (ap (λ (a : AckValue). a.requests) (c.self.view_is ∙ e ∙ sym c.other.view_is)),
    )
