use Rattle.std.proofs.Common.{None}
use Rattle.std.proofs.lemmas.Result.{err_from_is_err_and}
use Rattle.cg_messages.specs.declared.owner_delta.OwnerDelta.{OwnerDelta}
use Rattle.cg_frames.specs.Lists.{deltas_at, delta_at}
use Rattle.cg_frames.specs.Readers.{behind}
use Rattle.cg_frames.proofs.ListLemmas.{passes_on_key, passes_fault_key, passed}
use Rattle.cg_frames.proofs.deltas.check_deltas.Goals as goal

pub returns-in_err-endpoint : goal.returns-in_err-endpoint
returns-in_err-endpoint c =
    let p = err_from_is_err_and c.from_residual.result c.from_residual.ensures.1 in
    rw (p.1, p.2) (passes_fault_key (λ (d : OwnerDelta). d.endpoint) (delta_at c.args.layout.now) c.in_err-endpoint.field-0.0 c.args.count c.loop.counter c.loop.last c.loop.reader (behind (deltas_at c.args.layout.now c.args.count None c.args.reader.now)) c.loop-test.true c.in_err-endpoint.ensures c.loop.invariant)

pub loop-preserved : goal.loop-preserved
loop-preserved c =
    passes_on_key (λ (d : OwnerDelta). d.endpoint) (delta_at c.args.layout.now) c.args.count c.loop.counter c.loop.last c.loop.reader c.in_ok-endpoint.endpoint c.check_delta.new.reader (behind (deltas_at c.args.layout.now c.args.count None c.args.reader.now)) c.loop-test.true c.in_ok-endpoint.ensures c.loop.invariant

pub returns : goal.returns
returns c =
    passed (λ (d : OwnerDelta). d.endpoint) (delta_at c.args.layout.now) c.args.count c.loop.counter c.loop.last c.loop.reader (behind (deltas_at c.args.layout.now c.args.count None c.args.reader.now)) c.loop-test.false c.loop.invariant
