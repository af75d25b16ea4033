use Rattle.std.proofs.Common.{ℕ, ◌+◌, [], ◌∷◌, ◌++◌, length, ap, sym, ◌∙◌}
use Rattle.cg_engine.proofs.TurnLemmas.{turn_of, turn_added, reply_added, length_snoc, next_at, fewer_at}
use Rattle.cg_engine.proofs.ExchangeLemmas.{exchange_broken, reply_broken}
use Rattle.cg_engine.proofs.exchange.take_turns.Goals as goal

pub returns-in-Err : goal.returns-in-Err
returns-in-Err g c =
    let (turns, many, counted, done, wrote) = c.loop-kind.invariant in
    let index = c.loop-kind.kind-index in
    exchange_broken g.G.Gate.does g.G.Gate.refuses g.G.Gate.stays g.G.Gate.last c.args.kinds.now c.args.now [] _ _ _ _ _
    turns _ _ _ _ _ done wrote c.loop-kind.done (many ∙ sym counted) _
    (next_at c.args.kinds.now c.loop-kind.done index _ counted c.loop-kind-test.true) (fewer_at c.loop-kind.done index _ counted c.loop-kind-test.true) _ _ _ _ c.in-Err.ensures

pub returns-in-Err-send_last : goal.returns-in-Err-send_last
returns-in-Err-send_last g c =
    let (turns, many, counted, done, wrote) = c.loop-kind.invariant in
    let index = c.loop-kind.kind-index in
    let one = rw c.in-Ok-true.field-0-test at c.in-Ok-true.ensures in
    let failed = rw one.shown at c.in-Err-send_last.ensures in
    reply_broken g.G.Gate.does g.G.Gate.refuses g.G.Gate.stays g.G.Gate.last c.args.kinds.now c.args.now [] _ _ _ _ _
    turns _ _ _ _ _ done wrote c.loop-kind.done (many ∙ sym counted) _
    (next_at c.args.kinds.now c.loop-kind.done index _ counted c.loop-kind-test.true) (fewer_at c.loop-kind.done index _ counted c.loop-kind-test.true) _ _ _ one _ _ _ failed

pub loop-kind-preserved : goal.loop-kind-preserved
loop-kind-preserved g c =
    let (turns, many, counted, done, wrote) = c.loop-kind.invariant in
    let index = c.loop-kind.kind-index in
    let one = rw c.in-Ok-true.field-0-test at c.in-Ok-true.ensures in
    let sent = rw one.shown at c.in_default.ensures in (
      turns ++ (turn_of one ∷ []),
      length_snoc turns (turn_of one) ∙ ap (λ (n : ℕ). n + 1) many,
      ap (λ (n : ℕ). n + 1) counted,
      turn_added g.G.Gate.does c.args.kinds.now c.args.now _ _ _ g.G.Gate.refuses g.G.Gate.stays g.G.Gate.last _ turns _ _ _ _ _ _ done
          (next_at c.args.kinds.now (length turns) index _ many c.loop-kind-test.true) one,
      reply_added [] _ _ turns (turn_of one) _ _ _ _ wrote sent,
    )
