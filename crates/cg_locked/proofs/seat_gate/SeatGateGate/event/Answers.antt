use Rattle.std.proofs.Common.{refl, inr}
use Rattle.std.proofs.lemmas.Result.{err_from_is_err_and}
use Rattle.cg_locked.proofs.SeatLemmas.{entered, refused, still_counted, still_left, entry_fault}
use Rattle.cg_locked.proofs.seat_gate.SeatGateGate.event.Goals as goal

pub returns-in_err-receipt-clause-known : goal.returns-in_err-receipt-clause-known
returns-in_err-receipt-clause-known g c =
    let p = err_from_is_err_and c.from_residual-in_err-receipt.result c.from_residual-in_err-receipt.ensures.1 in
    rw (p.1, p.2) (entry_fault _ _ _ _ _ c.in_err-receipt.ensures.entry)

pub returns-in_err-receipt-clause-fault : goal.returns-in_err-receipt-clause-fault
returns-in_err-receipt-clause-fault g c =
    let p = err_from_is_err_and c.from_residual-in_err-receipt.result c.from_residual-in_err-receipt.ensures.1 in
    let i = c.self.invariant in
    let entry = refused g.N.Name.start c.self.inside.seat c.self.inside.receipts.items c.args.event c.submit.new.seat.seen c.in_err-receipt.field-0.0 i.0 i.2 c.in_err-receipt.ensures.entry c.self.inside.seat.parts c.self.inside.told c.args.self.now c.self.view_is in
    rw (p.1, p.2) (inr entry)

pub invariant_of-self-in_err-receipt : goal.invariant_of-self-in_err-receipt
invariant_of-self-in_err-receipt g c =
    let i = c.self.invariant in
    let not = c.in_err-receipt.ensures in
    still_left g.N.Name.start c.self.inside.seat c.submit.new.seat c.self.inside.receipts.items c.reserve.new.self.items c.args.event c.in_err-receipt.field-0.0 i.0 i.1 i.2 not.entry not.err not.seat.0 c.in_ok-reserve.ensures.items

pub invariant_of-self-2 : goal.invariant_of-self-2
invariant_of-self-2 g c =
    let i = c.self.invariant in
    let done = c.in_ok-receipt.ensures in
    still_counted g.N.Name.start c.self.inside.seat c.self.inside.receipts.items c.args.event c.submit.new.seat.seen c.in_ok-receipt.receipt c.in_ok-receipt.told i.0 i.2 done.entry
    c.submit.new.seat c.reserve.new.self.items c.push_reserved.new.self.items i.1 done.amount done.seat.0 refl c.in_ok-reserve.ensures.items c.push_reserved.ensures.items

pub returns-clause-ok : goal.returns-clause-ok
returns-clause-ok g c =
    let i = c.self.invariant in
    let done = c.in_ok-receipt.ensures in
    entered g.N.Name.start c.self.inside.seat c.self.inside.receipts.items c.args.event c.submit.new.seat.seen c.in_ok-receipt.receipt c.in_ok-receipt.told i.0 i.2 done.entry
    g.N.Naming.opening.own c.self.inside.seat.parts c.self.inside.told c.args.self.now c.submit.new.seat.caller c.submit.new.seat.parts c.reserve.new.self.items c.push_reserved.new.self.items c.self.view_is done.shown done.seat.0 done.seat.1 c.in_ok-reserve.ensures.items c.push_reserved.ensures.items
