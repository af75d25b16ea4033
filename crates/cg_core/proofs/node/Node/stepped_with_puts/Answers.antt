use Rattle.std.proofs.Common.{◌≡◌, ◌∙◌, true, ap, sym, subst, ℕ, Ok}
use Rattle.std.specs.Prelude.{is_some}
use Rattle.std.specs.FinMap.{get}
use Rattle.cg_types.specs.Rising.{Rises}
use Rattle.cg_table.specs.Values.{TableValue}
use Rattle.cg_table.specs.Puts.{rows_at}
use Rattle.cg_core.specs.Changes.{changed_owners}
use Rattle.cg_core.proofs.ChangeLemmas.{changed_owners_rise, puts_are_the_changed_rows}
use Rattle.cg_core.proofs.node.Node.stepped_with_puts.Goals as goal

pub changed_rows-requires : goal.changed_rows-requires
changed_rows-requires c =
    let n = c.args.self.now in
    let own : c.own.result ≡ n.table.own = c.own.ensures.value ∙ ap (λ (t : TableValue). t.own) c.table.ensures in
    let owners = ap (λ (o : ℕ). changed_owners o c.in_ok-node.reply) own in
    subst Rises (sym owners) (changed_owners_rise n c.args.event.now c.in_ok-node.node c.in_ok-node.reply c.show.ensures c.in_ok-node.ensures)

pub returns : goal.returns
returns c =
    let n = c.args.self.now in
    let own : c.own.result ≡ n.table.own = c.own.ensures.value ∙ ap (λ (t : TableValue). t.own) c.table.ensures in
    let owners = ap (λ (o : ℕ). changed_owners o c.in_ok-node.reply) own in
    let held : is_some (get n.table.entries n.table.own) ≡ true = ap (λ (t : TableValue). is_some (get t.entries t.own)) (sym c.table.ensures) ∙ c.own.ensures.own_held in
    let puts = c.in_ok-puts.ensures ∙ (λ i. rows_at (c.table-2.ensures i).entries (owners i)) in
    let law = puts_are_the_changed_rows n c.args.event.now c.in_ok-node.node c.in_ok-node.reply held c.show.ensures c.in_ok-node.ensures in
    rw c.in_ok-node.ensures (λ i. Ok (c.in_ok-node.node, c.in_ok-node.reply, (law ∙ sym puts) i))
