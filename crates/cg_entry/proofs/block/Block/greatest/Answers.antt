use Rattle.std.proofs.Common.{◌≡◌, ◌∙◌, length, sym, ap, rules, List, eqb-true}
use Rattle.cg_entry.specs.declared.state.State.{State}
use Rattle.std.specs.Prelude.{max}
use Rattle.cg_entry.proofs.ReadLemmas.{greatest_last, greatest_none}
use Rattle.cg_entry.proofs.block.Block.greatest.Goals as goal

pub returns-then-is_empty : goal.returns-then-is_empty
returns-then-is_empty c =
    greatest_none c.self.inside.items.items c.self.inside.places c.self.inside.text_bytes c.args.heartbeat c.args.self.now c.self.invariant c.self.view_is
    (ap (λ (xs : List State). length xs) (sym c.as_slice-items.ensures.value) ∙ eqb-true (length c.as_slice-items.result.now) 0 (sym c.is_empty.ensures ∙ c.if-is_empty.true))

pub returns : goal.returns
returns c =
    let is : c.max.result ≡ max c.args.heartbeat c.index-items-items.result.version = search rules in
    is ∙ greatest_last c.as_slice-items.result.now c.self.inside.items.items c.self.inside.places c.self.inside.text_bytes c.args.heartbeat c.index-items-items.result c.args.self.now c.self.invariant c.self.view_is c.as_slice-items.ensures.value
    (sym c.is_empty.ensures ∙ c.if-is_empty.false) c.index-items-items.is
