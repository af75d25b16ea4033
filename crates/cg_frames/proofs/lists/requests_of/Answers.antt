use Rattle.std.proofs.Common.{None}
use Rattle.std.proofs.lemmas.Result.{err_from_is_err_and}
use Rattle.cg_messages.specs.Values.{RequestValue}
use Rattle.cg_frames.specs.declared.misread.ReadError.TheVariants as errors
use Rattle.cg_frames.specs.Lists.{requests_at, request_at}
use Rattle.cg_frames.proofs.ListLemmas.{goes_on, ends, is_done}
use Rattle.cg_frames.proofs.lists.requests_of.Goals as goal

pub returns-in_err-request : goal.returns-in_err-request
returns-in_err-request c =
    let p = err_from_is_err_and c.from_residual-in_err-request.result c.from_residual-in_err-request.ensures.1 in
    rw (p.1, p.2) (ends (λ (r : RequestValue). r.endpoint) request_at (errors.Misread c.in_err-request.field-0.0) c.loop.requests.items c.args.count c.loop.counter c.loop.last c.loop.reader (requests_at c.args.count None c.args.reader.now) c.loop-test.true c.in_err-request.ensures c.loop.invariant)

pub loop-preserved : goal.loop-preserved
loop-preserved c =
    rw (c.endpoint.ensures, c.in_ok-push.ensures.items) (goes_on (λ (r : RequestValue). r.endpoint) request_at c.loop.requests.items c.args.count c.loop.counter c.loop.last c.loop.reader c.in_ok-request.request c.request.new.self (requests_at c.args.count None c.args.reader.now) c.loop-test.true c.in_ok-request.ensures c.loop.invariant)

pub returns : goal.returns
returns c =
    is_done (λ (r : RequestValue). r.endpoint) request_at c.loop.requests.items c.args.count c.loop.counter c.loop.last c.loop.reader (requests_at c.args.count None c.args.reader.now) c.loop-test.false c.loop.invariant
