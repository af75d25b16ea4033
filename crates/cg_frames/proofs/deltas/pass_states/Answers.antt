use Rattle.std.proofs.Common.{None}
use Rattle.std.proofs.lemmas.Result.{err_from_is_err_and}
use Rattle.cg_entry.specs.declared.state.State.{State}
use Rattle.cg_frames.specs.Lists.{states_at, state_at}
use Rattle.cg_frames.specs.Readers.{behind}
use Rattle.cg_frames.proofs.ListLemmas.{passes_on_key, passes_fault_key, passed, passes_ok}
use Rattle.cg_frames.proofs.deltas.pass_states.Goals as goal

pub returns-in_err-key : goal.returns-in_err-key
returns-in_err-key c =
    let p = err_from_is_err_and c.from_residual.result c.from_residual.ensures.1 in
    rw (p.1, p.2) (passes_fault_key (λ (s : State). s.key) (state_at c.args.layout.now c.args.above) c.in_err-key.field-0.0 c.args.count c.loop.counter c.loop.last c.loop.reader (behind (states_at c.args.layout.now c.args.above c.args.count None c.args.reader.now)) c.loop-test.true c.in_err-key.ensures c.loop.invariant)

pub loop-preserved : goal.loop-preserved
loop-preserved c =
    passes_on_key (λ (s : State). s.key) (state_at c.args.layout.now c.args.above) c.args.count c.loop.counter c.loop.last c.loop.reader c.in_ok-key.key c.pass_state.new.reader (behind (states_at c.args.layout.now c.args.above c.args.count None c.args.reader.now)) c.loop-test.true c.in_ok-key.ensures c.loop.invariant

pub returns : goal.returns
returns c =
    passed (λ (s : State). s.key) (state_at c.args.layout.now c.args.above) c.args.count c.loop.counter c.loop.last c.loop.reader (behind (states_at c.args.layout.now c.args.above c.args.count None c.args.reader.now)) c.loop-test.false c.loop.invariant

pub pass_state-requires : goal.pass_state-requires
pass_state-requires c =
    passes_ok (λ (s : State). s.key) (state_at c.args.layout.now c.args.above) c.args.count c.loop.counter c.loop.last c.loop.reader (states_at c.args.layout.now c.args.above c.args.count None c.args.reader.now) c.loop-test.true c.loop.invariant c.requires
