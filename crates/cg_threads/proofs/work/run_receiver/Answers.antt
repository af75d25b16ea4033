use Rattle.std.proofs.Common.{subst}
use Rattle.cg_locked.specs.Seats.{SeatValue, Enters, Refuses}
use Rattle.cg_workers.specs.Workers.{Received}
use Rattle.cg_threads.specs.Left.{is_received}
use Rattle.cg_threads.proofs.Gates.{More, left_more, received_more}
use Rattle.cg_threads.proofs.work.run_receiver.Goals as goal

pub returns-clause-left : goal.returns-clause-left
returns-clause-left g c =
    let after = c.receiver-came.new.gate in
    left_more is_received c.args.seat.caller c.args.seat.parts after c.left_of.result
    (subst (λ (x : SeatValue). More is_received x after) c.new-gate.ensures (received_more g.N.Name.start g.N.Naming.opening.own _ _ _ _ _ _ _ _ c.receiver-came.ensures.received))
    c.left_of.ensures.parts c.left_of.ensures.receipts c.left_of.ensures.own

pub returns-clause-work : goal.returns-clause-work
returns-clause-work g c =
    let after = c.receiver-came.new in
    record {
      parts = c.args.seat.parts;
      count = c.receiver-came.result;
      left = after.listener;
      gate = after.gate;
      received = rw c.new-gate.ensures at c.receiver-came.ensures.received;
      same = c.left_of.ensures.receipts;
    }
