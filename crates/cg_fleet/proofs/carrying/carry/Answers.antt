use Rattle.std.proofs.Common.{ℕ, ◌∙◌, ap}
use Rattle.cg_messages.specs.declared.message.Message.{Message}
use Rattle.cg_messages.specs.Borrowed.{borrowed_message}
use Rattle.cg_fleet.proofs.CarryLemmas.{read_back}
use Rattle.cg_fleet.proofs.carrying.carry.Goals as goal

pub returns-clause-message : goal.returns-clause-message
returns-clause-message c =
    let gives = rw c.in-Ok-Some.field-0-is at c.in-Ok-Some.ensures.only in
    ap (λ (x : Message × ℕ). x.0)
    (read_back (borrowed_message c.args.message) c.as_slice.result.now c.in-Ok-Some.read
    c.what_is_written_is_read.ensures.read c.in_ok-frame.ensures.fits (c.as_slice.ensures ∙ c.in_ok-frame.ensures.written) gives)

pub returns-clause-length : goal.returns-clause-length
returns-clause-length c =
    let gives = rw c.in-Ok-Some.field-0-is at c.in-Ok-Some.ensures.only in
    ap (λ (x : Message × ℕ). x.1)
    (read_back (borrowed_message c.args.message) c.as_slice.result.now c.in-Ok-Some.read
    c.what_is_written_is_read.ensures.read c.in_ok-frame.ensures.fits (c.as_slice.ensures ∙ c.in_ok-frame.ensures.written) gives)
