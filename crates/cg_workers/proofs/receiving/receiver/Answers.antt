use Rattle.std.proofs.Common.{ℕ, ◌+◌, ap}
use Rattle.cg_workers.proofs.WorkLemmas.{came_more}
use Rattle.cg_workers.proofs.receiving.receiver.Goals as goal

pub loop-preserved : goal.loop-preserved
loop-preserved g c = (
  ap (λ (n : ℕ). n + 1) c.loop.invariant.0,
  came_more g.G.Gate.does g.G.Gate.refuses g.G.Gate.stays g.L.Reader.Read.remaining g.L.Writer.Write.contents g.L.Listen.accepts
      (g.C.Milliseconds.shows c.args.clock.now) c.loop.came c.in-Ok-Some.link _ (c.loop.listener, c.loop.gate) _ c.loop.invariant.1
      (record { accepted = rw c.in-Ok-Some.field-0-is at c.in-Ok-Some.ensures.accepts; answered = c.answer-broken.ensures.0 }),
)
