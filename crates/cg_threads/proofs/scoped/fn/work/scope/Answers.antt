use Rattle.cg_threads.proofs.scoped.fn.work.scope.Goals as goal

pub returns : goal.returns
returns g c =
    let sends = c.requires.sends in
    let ticks = c.requires.ticks in
    let operates = c.requires.operates in
    let s = rw (c.start-sender.ensures.promise, sends.0, sends.1, sends.2, sends.3) at c.ended.ensures in
    let t = rw (c.start-ticker.ensures.promise, ticks.0, ticks.1, ticks.2, ticks.3, ticks.4) at c.ended-2.ensures in
    let o = rw (c.start-operator.ensures.promise, operates.0, operates.1) at c.ended-3.ensures in
    record {
      receiver = c.receive_told.ensures.left;
      received = c.receive_told.ensures.work;
      sender = s.0;
      taken = s.1;
      sent = s.2;
      ticker = t.0;
      put = t.1;
      begun = t.2;
      operator = o.0;
      operated = o.1;
    }
