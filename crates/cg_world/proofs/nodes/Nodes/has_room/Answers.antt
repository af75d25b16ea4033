use Rattle.std.proofs.Common.{◌≡◌, ap, sym, ◌∙◌, length, None, nat_lt}
use Rattle.std.specs.Prelude.{option_copied}
use Rattle.std.specs.FinMap.{get, entries, len-entries}
use Rattle.cg_types.specs.declared.limits.TheConstants.{MEMBER_LIMIT}
use Rattle.cg_world.specs.World.{WorldValue}
use Rattle.cg_world.proofs.nodes.Nodes.has_room.Goals as goal

pub returns-in-None : goal.returns-in-None
returns-in-None c =
    let nodes = c.args.self.now.nodes in
    let none : get nodes c.args.endpoint ≡ None = sym c.node.ensures ∙ ap option_copied c.in-None.is in
    let rows = c.rows.ensures.value ∙ ap (λ (w : WorldValue). entries w.nodes) c.self.view_is in
    rw none (ap (λ n. nat_lt n MEMBER_LIMIT) (ap length rows ∙ sym (len-entries nodes)))
