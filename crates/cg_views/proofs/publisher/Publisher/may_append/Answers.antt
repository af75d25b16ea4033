use Rattle.std.proofs.Common.{subst, ap, ◌∙◌}
use Rattle.std.specs.Prelude.{◌↔◌, IsTrue}
use Rattle.cg_table.specs.Values.{TableValue}
use Rattle.cg_table.specs.Puts.{with_puts}
use Rattle.cg_views.specs.Lists.{PublisherValue, are_all, MayFollow}
use Rattle.cg_views.proofs.Showing.{stands}
use Rattle.cg_views.proofs.publisher.Publisher.may_append.Goals as goal

pub returns : goal.returns
returns g c =
    let at = stands _ _ _ _ _ c.self.invariant ∙ ap (λ (p : PublisherValue). with_puts p.opening (are_all p)) c.self.view_is in
    subst (λ (t : TableValue). IsTrue c.may_follow.result ↔ MayFollow t c.args.puts.now) at c.may_follow.ensures
