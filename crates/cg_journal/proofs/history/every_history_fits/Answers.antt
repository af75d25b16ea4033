use Rattle.std.proofs.Common.{subst, ◌∙◌}
use Rattle.cg_core.specs.Values.{NodeValue}
use Rattle.cg_history.proofs.Replaying.{base_is_start}
use Rattle.cg_journal.specs.Contents.{MayStart}
use Rattle.cg_journal.proofs.history.every_history_fits.Goals as goal

pub returns : goal.returns
returns c = λ whole.
    let at = c.base.ensures.value ∙ base_is_start c.args.history.now c.base.ensures.replayed whole in
    record {
      replayed = c.base.ensures.replayed;
      whole = whole;
      start = subst (λ (n : NodeValue). MayStart n.table.own n.settings) at c.show_start.ensures;
      events = rw c.records.ensures.value at c.show_events.ensures;
    }
