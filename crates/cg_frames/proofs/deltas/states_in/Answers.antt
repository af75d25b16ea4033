use Rattle.std.proofs.Common.{None, [], arith}
use Rattle.std.proofs.lemmas.Result.{err_from_is_err_and}
use Rattle.cg_entry.specs.declared.state.State.{State}
use Rattle.cg_frames.specs.Lists.{states_at, state_at}
use Rattle.cg_frames.proofs.ListLemmas.{goes_on, ends, is_done, known_ok, next_ok}
use Rattle.cg_frames.proofs.SectionLemmas.{all_read, end_bytes, still_end}
use Rattle.cg_frames.proofs.deltas.states_in.Goals as goal

pub returns-in_err-state : goal.returns-in_err-state
returns-in_err-state c =
    let p = err_from_is_err_and c.from_residual-in_err-state.result c.from_residual-in_err-state.ensures.1 in
    rw (p.1, p.2) (ends (λ (s : State). s.key) (state_at c.args.layout.now c.args.above) c.in_err-state.field-0.0 c.loop.states.items c.args.count c.loop.counter c.loop.last c.loop.reader (states_at c.args.layout.now c.args.above c.args.count None c.args.section.now) c.loop-test.true c.in_err-state.ensures c.loop.invariant.0)

pub state_of-requires-clause-known : goal.state_of-requires-clause-known
state_of-requires-clause-known c =
    let ok = known_ok (states_at c.args.layout.now c.args.above c.args.count None c.args.section.now) [] c.requires.known in
    next_ok (λ (s : State). s.key) (state_at c.args.layout.now c.args.above) c.loop.states.items c.args.count c.loop.counter c.loop.last c.loop.reader (states_at c.args.layout.now c.args.above c.args.count None c.args.section.now) c.loop-test.true c.loop.invariant.0 ok

pub loop-preserved : goal.loop-preserved
loop-preserved c =
    let small = end_bytes c.args.section.now c.loop.reader (λ i. omega (arith, c.type_inv.section i)) c.loop.invariant.1 in
    rw c.in_ok-push.ensures.items (
      goes_on (λ (s : State). s.key) (state_at c.args.layout.now c.args.above) c.loop.states.items c.args.count c.loop.counter c.loop.last c.loop.reader c.in_ok-state.state c.state_of.new.reader (states_at c.args.layout.now c.args.above c.args.count None c.args.section.now) c.loop-test.true c.in_ok-state.ensures c.loop.invariant.0,
      still_end c.args.layout.now c.args.above c.args.section.now c.loop.reader c.loop.last c.in_ok-state.state c.state_of.new.reader small c.loop.invariant.1 c.in_ok-state.ensures,
    )

pub returns : goal.returns
returns c =
    all_read (states_at c.args.layout.now c.args.above c.args.count None c.args.section.now) c.loop.states.items c.loop.reader c.requires.known (is_done (λ (s : State). s.key) (state_at c.args.layout.now c.args.above) c.loop.states.items c.args.count c.loop.counter c.loop.last c.loop.reader (states_at c.args.layout.now c.args.above c.args.count None c.args.section.now) c.loop-test.false c.loop.invariant.0)
