use Rattle.std.proofs.Common.{subst}
use Rattle.cg_locked.specs.Seats.{SeatValue}
use Rattle.cg_threads.specs.Left.{is_ack}
use Rattle.cg_threads.proofs.Gates.{More, left_more, sent_more, sent_all}
use Rattle.cg_threads.proofs.work.run_sender.Goals as goal

pub returns-clause-left : goal.returns-clause-left
returns-clause-left g c =
    let after = c.sender-numbers.new.gate in
    left_more is_ack c.args.seat.caller c.args.seat.parts after c.left_of.result
    (subst (λ (x : SeatValue). More is_ack x after) c.new-gate.ensures (sent_more g.N.Name.start g.N.Naming.opening.own _ _ _ _ _ _ _ _ _ c.sender-numbers.ensures.sent))
    c.left_of.ensures.parts c.left_of.ensures.receipts c.left_of.ensures.own

pub returns-clause-work : goal.returns-clause-work
returns-clause-work g c began =
    let after = c.sender-numbers.new in
    record {
      parts = c.args.seat.parts;
      left = after.dialer;
      gate = after.gate;
      sent = sent_all g.N.Name.start g.N.Naming.opening.own _ _ _ _ _ _ _ _ _ _ c.requires.taking c.leave-2.ensures.taken (rw c.new-gate.ensures at c.sender-numbers.ensures.sent);
      same = c.left_of.ensures.receipts;
    }
