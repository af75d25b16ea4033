use Rattle.std.proofs.Common.{List, sym, subst}
use Rattle.cg_history.specs.declared.item.Item.{Item}
use Rattle.cg_history.specs.declared.item.Receipt.{Receipt}
use Rattle.cg_history.specs.Confirming.{AreConfirmed}
use Rattle.cg_history.specs.History.{IsFoldOf}
use Rattle.cg_ahead_seats.proofs.GateLemmas.{never_unconfirmed}
use Rattle.cg_ahead_seats.proofs.shared.submit_confirmed.Goals as goal

pub returns-in-Ok-clause-confirmed : goal.returns-in-Ok-clause-confirmed
returns-in-Ok-clause-confirmed g c =
    let h = c.history.result.now in
    record {
      history = h;
      starts = c.history.ensures.start;
      fold = subst (λ (l : List Item). IsFoldOf l h) (sym c.in_ok-receipt.ensures.seen) c.history.ensures.fold;
      confirmed = subst (λ (qs : List Receipt). AreConfirmed h.folded h.records qs) c.from_ref.ensures.value c.in-Ok.ensures;
    }

pub returns-in-Err-clause-entry : goal.returns-in-Err-clause-entry
returns-in-Err-clause-entry g c =
    let done = c.in_ok-receipt.ensures in
    let now = c.history.ensures in
    absurd (never_unconfirmed g.N.Name.start c.args.seat.now c.args.event c.submit.new.seat.seen c.submit.new.self.board.log c.in_ok-receipt.receipt c.in_ok-receipt.told done.entry done.seen
    c.submit.new.self.board.history c.history.result.now now.fold now.value done.number c.from_ref.result.now c.from_ref.ensures.value c.in-Err.unconfirmed c.in-Err.ensures)

pub returns-in-Err-clause-err : goal.returns-in-Err-clause-err
returns-in-Err-clause-err g c =
    let done = c.in_ok-receipt.ensures in
    let now = c.history.ensures in
    absurd (never_unconfirmed g.N.Name.start c.args.seat.now c.args.event c.submit.new.seat.seen c.submit.new.self.board.log c.in_ok-receipt.receipt c.in_ok-receipt.told done.entry done.seen
    c.submit.new.self.board.history c.history.result.now now.fold now.value done.number c.from_ref.result.now c.from_ref.ensures.value c.in-Err.unconfirmed c.in-Err.ensures)
