use Rattle.std.proofs.Common.{◌∙◌, None, nat_lt, sym}
use Rattle.std.specs.Prelude.{option_copied}
use Rattle.cg_types.proofs.RisingLemmas.{rise_filter}
use Rattle.cg_silence.proofs.WalkLemmas.{heard_step}
use Rattle.cg_silence.proofs.rows.hear_rows.Goals as goal

pub loop-outcome-preserved : goal.loop-outcome-preserved
loop-outcome-preserved c =
    let e = c.outcome-item.result.endpoint in
    let held = option_copied c.around.result.1 in
    record {
      rise = rw c.around.ensures.after (rise_filter (λ r. nat_lt e r.0) None c.loop-outcome.rest.now c.loop-outcome.invariant.rise);
      so_far =
          rw (c.in_ok-push_heard.ensures, c.in_ok-copy_all.ensures)
          (heard_step c.args.silence c.args.now c.loop-outcome.made.items c.loop-outcome.rest.now c.around.result.0.now c.around.result.2.now c.args.outcomes.now c.loop-outcome.outcome-index c.outcome-item.result held c.loop-outcome-test.true c.outcome-item.is (sym c.was_taken.ensures ∙ c.if-not-was_taken.false) c.around.ensures.before c.around.ensures.held c.around.ensures.after
          ∙ c.loop-outcome.invariant.so_far);
    }
