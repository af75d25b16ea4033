use Rattle.std.proofs.Common.{None}
use Rattle.std.proofs.lemmas.Result.{err_from_is_err_and}
use Rattle.cg_messages.specs.declared.owner_delta.OwnerDelta.{OwnerDelta}
use Rattle.cg_frames.specs.Lists.{deltas_at, delta_at}
use Rattle.cg_frames.proofs.ListLemmas.{goes_on, ends, is_done, next_ok}
use Rattle.cg_frames.proofs.deltas.deltas_of.Goals as goal

pub returns-in_err-delta : goal.returns-in_err-delta
returns-in_err-delta c =
    let p = err_from_is_err_and c.from_residual-in_err-delta.result c.from_residual-in_err-delta.ensures.1 in
    rw (p.1, p.2) (ends (λ (d : OwnerDelta). d.endpoint) (delta_at c.args.layout.now) c.in_err-delta.field-0.0 c.loop.deltas.items c.args.count c.loop.counter c.loop.last c.loop.ahead (deltas_at c.args.layout.now c.args.count None c.args.reader.now) c.loop-test.true c.in_err-delta.ensures c.loop.invariant)

pub loop-preserved : goal.loop-preserved
loop-preserved c =
    rw c.in_ok-push.ensures.items (goes_on (λ (d : OwnerDelta). d.endpoint) (delta_at c.args.layout.now) c.loop.deltas.items c.args.count c.loop.counter c.loop.last c.loop.ahead c.in_ok-delta.delta c.delta_of.new.reader (deltas_at c.args.layout.now c.args.count None c.args.reader.now) c.loop-test.true c.in_ok-delta.ensures c.loop.invariant)

pub returns : goal.returns
returns c =
    is_done (λ (d : OwnerDelta). d.endpoint) (delta_at c.args.layout.now) c.loop.deltas.items c.args.count c.loop.counter c.loop.last c.loop.ahead (deltas_at c.args.layout.now c.args.count None c.args.reader.now) c.loop-test.false c.loop.invariant

pub delta_of-requires-clause-known : goal.delta_of-requires-clause-known
delta_of-requires-clause-known c is =
    next_ok (λ (d : OwnerDelta). d.endpoint) (delta_at c.args.layout.now) c.loop.deltas.items c.args.count c.loop.counter c.loop.last c.loop.ahead (deltas_at c.args.layout.now c.args.count None c.args.reader.now) c.loop-test.true c.loop.invariant (c.requires.known is)
