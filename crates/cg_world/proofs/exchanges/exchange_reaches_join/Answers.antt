use Rattle.std.proofs.Common.{sym, ◌∙◌, ap, map}
use Rattle.std.specs.Prelude.{option_copied}
use Rattle.cg_world.specs.Exchange.{exchange_among}
use Rattle.cg_world.proofs.ExchangeCalls.{joins_both}
use Rattle.cg_world.proofs.exchanges.exchange_reaches_join.Goals as goal

pub returns-clause-join : goal.returns-clause-join
returns-clause-join c =
    let s = c.in-Some-Some in
    joins_both c.args.world c.node.ensures.consistent.reached (exchange_among c.args.opener c.args.answerer c.args.now (map (λ list. list.now) c.args.between)) s.field-0-0.now s.field-0-1.now
    (sym c.node.ensures.value ∙ ap option_copied s.is-0) (sym c.node-2.ensures.value ∙ ap option_copied s.is-1) c.requires
