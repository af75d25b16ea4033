use Rattle.std.proofs.Common.{◌≤◌, length, refl, ap, ◌∙◌, arith}
use Rattle.std.proofs.lemmas.Result.{err_from_is_err_and}
use Rattle.cg_history.specs.Items.{puts_of}
use Rattle.cg_history.specs.History.{unfolded}
use Rattle.cg_history.proofs.Folding.{all_counted}
use Rattle.cg_locked.proofs.Folding.{whole_replayed}
use Rattle.cg_locked.proofs.Showing.{entry_done, entry_refused, entry_shows}
use Rattle.cg_locked.proofs.board.Board.enter_and_tell.Goals as goal

pub returns-in_err-receipt-clause-entry : goal.returns-in_err-receipt-clause-entry
returns-in_err-receipt-clause-entry g c =
    let s = c.args.self.now in
    let not = c.in_err-receipt.ensures in
    let led = whole_replayed s.log s.history s.listed g.N.Name.start s.start s.replays c.show.ensures in
    let count = all_counted s.log s.history s.listed in
    let few = not.long in
    let long : c.args.seat.now.amount ≤ length s.log = omega (arith, count, few) in
    let p = err_from_is_err_and c.from_residual.result c.from_residual.ensures.1 in
    rw (p.1, p.2) (entry_refused g.N.Name.start c.args.seat.now c.args.event _ (unfolded s.log s.history) refl s.start led not.begins long c.in_err-receipt.field-0.0 not.whole (not.seen ∙ not.err.1))

pub returns-in-Ok-clause-entry : goal.returns-in-Ok-clause-entry
returns-in-Ok-clause-entry g c =
    let s = c.args.self.now in
    let done = c.in_ok-receipt.ensures in
    let led = whole_replayed s.log s.history s.listed g.N.Name.start s.start s.replays c.show.ensures in
    let count = all_counted s.log s.history s.listed in
    let few = done.long in
    let long : c.args.seat.now.amount ≤ length s.log = omega (arith, count, few) in
    entry_done g.N.Name.start c.args.seat.now c.args.event c.enter.new.seat.seen (unfolded s.log s.history) refl s.start led done.begins long (unfolded c.enter.new.self.log c.enter.new.self.history) c.in_ok-receipt.receipt _ done.whole done.seen
    (c.in-Ok.ensures.told ∙ ap puts_of c.catch_up.ensures.same.2)

pub returns-in-Ok-clause-shown : goal.returns-in-Ok-clause-shown
returns-in-Ok-clause-shown g c =
    entry_shows g.N.Name.start c.args.seat.now c.args.event _ _ (returns-in-Ok-clause-entry g c) g.N.Naming.opening c.in-Ok.ensures.opening

pub returns-in-Err-clause-entry : goal.returns-in-Err-clause-entry
returns-in-Err-clause-entry g c =
    let s = c.args.self.now in
    let done = c.in_ok-receipt.ensures in
    let led = whole_replayed s.log s.history s.listed g.N.Name.start s.start s.replays c.show.ensures in
    let count = all_counted s.log s.history s.listed in
    let few = done.long in
    let long : c.args.seat.now.amount ≤ length s.log = omega (arith, count, few) in
    entry_done g.N.Name.start c.args.seat.now c.args.event c.enter.new.seat.seen (unfolded s.log s.history) refl s.start led done.begins long (unfolded c.enter.new.self.log c.enter.new.self.history) c.in_ok-receipt.receipt _ done.whole done.seen tt
