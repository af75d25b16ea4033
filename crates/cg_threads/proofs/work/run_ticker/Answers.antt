use Rattle.std.proofs.Common.{List, sym, ap, subst}
use Rattle.cg_history.specs.declared.item.Receipt.{Receipt}
use Rattle.cg_workers.specs.Ends.{put_by}
use Rattle.cg_locked.specs.Seats.{SeatValue}
use Rattle.cg_threads.specs.Left.{AreRoundsOf, is_tick}
use Rattle.cg_threads.proofs.Gates.{More, left_more, ticked_first, ticked_more}
use Rattle.cg_threads.proofs.work.run_ticker.Goals as goal

pub returns-clause-left : goal.returns-clause-left
returns-clause-left g c =
    let after = c.ticker-ticked.new.gate in
    left_more is_tick c.args.seat.caller c.args.seat.parts after c.left_of.result
    (subst (λ (x : SeatValue). More is_tick x after) c.new-gate.ensures (ticked_more _ _ _ _ _ _ _ after _ c.ticker-ticked.new.to c.ticker-ticked.ensures.ticks c.ticker-ticked.ensures.seat))
    c.left_of.ensures.parts c.left_of.ensures.receipts c.left_of.ensures.own

pub returns-clause-put : goal.returns-clause-put
returns-clause-put g c =
    let after = c.ticker-ticked.new.to in
    let first = ticked_first _ _ _ _ _ _ _ c.ticker-ticked.new.gate _ c.ticker-ticked.new.to c.ticker-ticked.ensures.ticks (ap (λ (x : SeatValue). x.receipts) c.new-gate.ensures) c.requires.putting in
    record {
      channel = c.ticker-ticked.ensures.channel;
      rounds = subst (λ (qs : List Receipt). AreRoundsOf qs (put_by after)) (sym c.left_of.ensures.receipts) first;
    }

pub returns-clause-work : goal.returns-clause-work
returns-clause-work g c began = record {
  parts = c.args.seat.parts;
  left = c.ticker-ticked.result;
  gate = c.ticker-ticked.new.gate;
  before = c.args.putting;
  after = c.ticker-ticked.new.to;
  ticks = rw c.new-gate.ensures at c.ticker-ticked.ensures.ticks;
  same = c.left_of.ensures.receipts;
}
