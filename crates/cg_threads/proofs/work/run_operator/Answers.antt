use Rattle.cg_threads.proofs.work.run_operator.Goals as goal

pub returns-clause-work : goal.returns-clause-work
returns-clause-work g c began =
    let after = c.operator-ended.new in
    record {
      parts = c.args.seat.parts;
      left = after.operate;
      gate = after.gate;
      read = after.pass;
      done = rw (c.new-gate.ensures, c.requires.pass) at c.operator-ended.ensures.works;
      same = c.left_of.ensures.receipts;
    }
