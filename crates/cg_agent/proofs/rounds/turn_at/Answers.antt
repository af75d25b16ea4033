use Rattle.std.proofs.Common.{ℕ, List, ap, subst}
use Rattle.rand_core.specs.Stream.{Stream}
use Rattle.cg_agent.specs.Work.{Turned}
use Rattle.cg_agent.proofs.MoreWork.{none_turned, turned_more}
use Rattle.cg_agent.proofs.rounds.turn_at.Goals as goal

pub loop-init : goal.loop-init
loop-init g c =
    none_turned g.N.Name.start g.N.Naming.opening.own g.D.Reader.Read.remaining g.D.Writer.Write.contents g.D.Dial.dials
    (g.C.Milliseconds.shows c.args.site.now.clock) (g.G.Rng.stream c.args.generator.now, (c.args.dialer.now, c.args.gate.now))

pub loop-preserved : goal.loop-preserved
loop-preserved g c =
    let words = c.next_words-words.ensures in
    let by = Turned g.N.Name.start g.N.Naming.opening.own g.D.Reader.Read.remaining g.D.Writer.Write.contents g.D.Dial.dials (g.C.Milliseconds.shows c.args.site.now.clock) in
    turned_more g.N.Name.start g.N.Naming.opening.own g.D.Reader.Read.remaining g.D.Writer.Write.contents g.D.Dial.dials
    (g.C.Milliseconds.shows c.args.site.now.clock) c.turn-turned.result
    (g.G.Rng.stream c.args.generator.now, (c.args.dialer.now, c.args.gate.now))
    (g.G.Rng.stream c.loop.generator, (c.loop.dialer, c.loop.gate))
    (g.G.Rng.stream c.next_words-words.new.generator, (c.turn-turned.new.dialer, c.turn-turned.new.gate))
    c.loop.invariant
    (record {
      words = ap (λ (p : List ℕ × Stream). p.1) words;
      turned = subst (λ (ws : List ℕ). by ws c.turn-turned.result (c.loop.dialer, c.loop.gate) (c.turn-turned.new.dialer, c.turn-turned.new.gate))
          (ap (λ (p : List ℕ × Stream). p.0) words) c.turn-turned.ensures;
    })
