use Rattle.std.proofs.Common.{◌+◌, sym, ap, ◌∙◌, arith}
use Rattle.std.specs.Prelude.{vec_len}
use Rattle.cg_table.specs.Values.{TableValue}
use Rattle.cg_agent.proofs.AllWorked.{as_many}
use Rattle.cg_agent.proofs.running.run_named.Goals as goal

pub work-back-requires-clause-seats : goal.work-back-requires-clause-seats
work-back-requires-clause-seats g c κs within =
    let same = as_many (vec_len c.give_out-seats.result.posts) (c.len-receivers.result + c.len-web.result) c.args.plan.input
    (sym c.give_out-seats.ensures.seats ∙ c.in_ok-shared.ensures.seats.0 ∙ c.seats_of.ensures) in
    omega (arith, same, c.len-receivers.ensures, c.len-web.ensures, c.posts_at-posts.ensures)

pub work-back-requires-clause-room : goal.work-back-requires-clause-room
work-back-requires-clause-room g c κs within =
    let same = as_many (vec_len c.give_out-seats.result.posts) (c.len-receivers.result + c.len-web.result) c.args.plan.input
    (sym c.give_out-seats.ensures.seats ∙ c.in_ok-shared.ensures.seats.0 ∙ c.seats_of.ensures) in
    omega (arith, same, c.in_ok-publisher.ensures.back.1)

pub returns : goal.returns
returns g c =
    let base = c.requires.history.2 in
    let own = ap (λ (t : TableValue). t.own) (c.requires.history.3 ∙ c.requires.views.1) in
    let left = c.finish-ended.ensures.text in
    record {
      starts = c.finish-ended.ensures.start ∙ sym base;
      seats = c.work-back.result.items;
      work = rw (sym base, sym own, c.new-site.ensures.1) at c.work-back.ensures.worked;
      counted = c.finish-ended.ensures.count;
      all = left.0;
      fold = left.1;
      seen = left.2;
      text = rw (sym base) at left.3;
    }
