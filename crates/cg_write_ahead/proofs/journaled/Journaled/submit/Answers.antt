use Rattle.std.proofs.Common.{inr, sym, ap, ◌∙◌}
use Rattle.std.proofs.lemmas.Result.{err_from_is_err_and}
use Rattle.cg_history.specs.Items.{puts_of}
use Rattle.cg_locked.proofs.Showing.{entry_shows}
use Rattle.cg_write_ahead.proofs.Entries.{entry_told}
use Rattle.cg_write_ahead.proofs.journaled.Journaled.submit.Goals as goal

pub returns-in_err-receipt-clause-entry : goal.returns-in_err-receipt-clause-entry
returns-in_err-receipt-clause-entry g c =
    let made = c.from_residual-in_err-receipt in
    let p = err_from_is_err_and made.result made.ensures.1 in
    rw (p.1, p.2) (inr c.in_err-receipt.ensures.entry)

pub returns-in-Ok-clause-entry : goal.returns-in-Ok-clause-entry
returns-in-Ok-clause-entry g c =
    entry_told g.N.Name.start c.args.seat.now c.args.event c.enter_and_write.new.seat.seen c.in_ok-receipt.receipt c.in_ok-receipt.ensures.entry c.in-Ok.told
    (c.in-Ok.ensures.told ∙ ap puts_of (c.catch_up.ensures.same.2 ∙ sym c.enter_and_write.ensures.seen))

pub returns-in-Ok-clause-shown : goal.returns-in-Ok-clause-shown
returns-in-Ok-clause-shown g c =
    entry_shows g.N.Name.start c.args.seat.now c.args.event _ _ (returns-in-Ok-clause-entry g c) g.N.Naming.opening c.in-Ok.ensures.opening
