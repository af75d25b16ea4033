use Rattle.std.proofs.Common.{◌≡◌, sym, ap, ◌∙◌, eqb-true}
use Rattle.std.proofs.lemmas.Bool.{OnTrue_from}
use Rattle.cg_table.specs.Values.{TableValue}
use Rattle.cg_core.specs.Values.{NodeValue}
use Rattle.cg_audit.proofs.StartLemmas.{life_of_base}
use Rattle.cg_audit.proofs.lives.is_of.Goals as goal

pub returns-clause-life : goal.returns-clause-life
returns-clause-life c = OnTrue_from c.eq.result _ (λ e.
    let own : c.own.result ≡ c.args.history.now.base.table.own = c.own.ensures.value ∙ ap (λ (t : TableValue). t.own) c.table.ensures ∙ ap (λ (n : NodeValue). n.table.own) c.base.ensures.value in
    let same : c.own.result ≡ c.args.endpoint = eqb-true c.own.result c.args.endpoint (sym c.eq.ensures ∙ e) in
    life_of_base c.args.endpoint c.args.history.now c.base.ensures.replayed (sym own ∙ same))
