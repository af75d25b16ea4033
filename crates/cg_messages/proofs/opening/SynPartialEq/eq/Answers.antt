use Rattle.std.proofs.Common.{◌≡◌, ◌∙◌, sym, ap, rules}
use Rattle.std.specs.Bool.{Decides}
use Rattle.std.proofs.lemmas.Slice.Eq.{slice_eq-Decides}
use Rattle.cg_entry.specs.declared.digest.Digest.{Digest}
use Rattle.cg_messages.specs.Values.{SynValue}
use Rattle.cg_messages.proofs.opening.SynPartialEq.eq.Goals as goal

pub returns-then-eq : goal.returns-then-eq
returns-then-eq c =
    let clusters : Decides c.eq.result (c.self.inside.cluster ≡ c.other.inside.cluster) = search rules in
    let digests = slice_eq-Decides (λ (a b : Digest). search rules) c.self.inside.digests.items c.other.inside.digests.items c.eq-then-eq.result c.eq-then-eq.ensures in (
      λ t. sym c.self.view_is ∙ (λ i. record { cluster = clusters.0 c.if-eq.true i; digests = digests.0 t i }) ∙ c.other.view_is,
      λ e. digests.1 (ap (λ (s : SynValue). s.digests) (c.self.view_is ∙ e ∙ sym c.other.view_is)),
    )
