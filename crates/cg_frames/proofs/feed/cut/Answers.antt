use Rattle.std.proofs.Common.{rules, arith, ◌≡◌, drop, Some, Ok, length-drop, subst}
use Rattle.cg_frames.specs.Choosing.{frame_among}
use Rattle.cg_types.specs.Answer.{IsRefusal}
use Rattle.cg_frames.proofs.CuttingLemmas.{some_taken, one_more, ends_in_none, ends_in_fault}
use Rattle.cg_types.proofs.AnswerLemmas.{refused}
use Rattle.cg_frames.proofs.feed.cut.Goals as goal

pub overflow_add-taken : goal.overflow_add-taken
overflow_add-taken c =
    let due : frame_among c.args.layouts.now (drop c.loop-message.taken c.args.bytes.now) ≡ Ok (Some (c.in-Ok-Some.message, c.in-Ok-Some.size)) = search rules in
    let fits = some_taken c.args.layouts.now (drop c.loop-message.taken c.args.bytes.now) (c.in-Ok-Some.message, c.in-Ok-Some.size) due in
    omega (arith, fits.1, length-drop c.loop-message.taken c.args.bytes.now)

pub loop-message-smaller : goal.loop-message-smaller
loop-message-smaller c =
    let due : frame_among c.args.layouts.now (drop c.loop-message.taken c.args.bytes.now) ≡ Ok (Some (c.in-Ok-Some.message, c.in-Ok-Some.size)) = search rules in
    let fits = some_taken c.args.layouts.now (drop c.loop-message.taken c.args.bytes.now) (c.in-Ok-Some.message, c.in-Ok-Some.size) due in
    omega (arith, fits.0, fits.1, length-drop c.loop-message.taken c.args.bytes.now)

pub loop-message-preserved : goal.loop-message-preserved
loop-message-preserved c =
    let due : frame_among c.args.layouts.now (drop c.loop-message.taken c.args.bytes.now) ≡ Ok (Some (c.in-Ok-Some.message, c.in-Ok-Some.size)) = search rules in
    let more = one_more c.args.layouts.now c.args.bytes.now c.loop-message.messages.items c.loop-message.taken c.in-Ok-Some.message c.in-Ok-Some.size c.loop-message.invariant due in
    search (rules, more)

pub returns-in-Ok-None-clause-ok : goal.returns-in-Ok-None-clause-ok
returns-in-Ok-None-clause-ok c = ends_in_none c.args.layouts.now c.args.bytes.now c.loop-message.messages.items c.loop-message.taken c.loop-message.invariant (search rules)

pub returns-in_default-clause-ok : goal.returns-in_default-clause-ok
returns-in_default-clause-ok c =
    let is : IsRefusal c.in-Err.fault (frame_among c.args.layouts.now (drop c.loop-message.taken c.args.bytes.now)) =
    subst (λ l. IsRefusal c.in-Err.fault (frame_among c.args.layouts.now l)) c.split_at.ensures.back c.in-Err.ensures.exact in
    let due = refused c.in-Err.fault (frame_among c.args.layouts.now (drop c.loop-message.taken c.args.bytes.now)) c.in_default.not-OutOfMemory is in
    ends_in_fault c.args.layouts.now c.args.bytes.now c.loop-message.messages.items c.loop-message.taken c.in-Err.fault c.loop-message.invariant due
