use Rattle.std.proofs.Common.{◌≡◌, sym, ap, ◌∙◌}
use Rattle.std.proofs.lemmas.Option.{get_or_from_slice_get}
use Rattle.std.proofs.lemmas.Result.{IfOk-weaker}
use Rattle.std.proofs.Math.ListN.{set}
use Rattle.cg_audit.specs.Items.{LivesValue}
use Rattle.cg_audit.specs.Lives.{then_life}
use Rattle.cg_tool.proofs.GatheredLemmas.{are_here}
use Rattle.cg_tool.proofs.journals.push_at.Goals as goal

pub push-requires : goal.push-requires
push-requires c =
    let items = c.args.lives.now.items in
    let here = are_here items c.args.place c.args.history.base.table.own c.requires in
    let same : c.index_mut.result.now ≡ here.lives = c.index_mut.ensures.value ∙ get_or_from_slice_get items c.args.place here.lives c.index_mut.result.now here.at in
    sym (ap (λ (l : LivesValue). l.endpoint) same ∙ here.of)

pub returns-clause-ok : goal.returns-clause-ok
returns-clause-ok c =
    let items = c.args.lives.now.items in
    let here = are_here items c.args.place c.args.history.base.table.own c.requires in
    let same : c.index_mut.result.now ≡ here.lives = c.index_mut.ensures.value ∙ get_or_from_slice_get items c.args.place here.lives c.index_mut.result.now here.at in
    IfOk-weaker c.push.result _ _
    (λ v pushed. record { lives = here.lives; at = here.at; set = ap (set items c.args.place) (pushed ∙ ap (λ (l : LivesValue). then_life l c.args.history) same) }) c.push.ensures.ok
