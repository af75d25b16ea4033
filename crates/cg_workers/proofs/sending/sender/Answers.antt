use Rattle.std.proofs.Common.{[], ◌∷◌, ◌++◌, refl, sym, ◌∙◌, append-nil}
use Rattle.cg_workers.specs.Ends.{taken_by}
use Rattle.cg_workers.specs.Workers.{SentRound}
use Rattle.cg_workers.proofs.EachLemmas.{each_more}
use Rattle.cg_workers.proofs.WorkLemmas.{rounds_more, numbers_after}
use Rattle.cg_workers.proofs.sending.sender.Goals as goal

pub loop-init : goal.loop-init
loop-init g c = ([], refl, sym (append-nil (taken_by c.args.from.now)), c.with_room-numbers.ensures.items, refl)

pub loop-preserved : goal.loop-preserved
loop-preserved g c =
    let (rounds, channel, taken, numbered, steps) = c.loop.invariant in
    let round = c.in-Some-take.round in (
      rounds ++ (round ∷ []),
      c.in-Some-take.ensures.channel ∙ channel,
      rounds_more (taken_by c.args.from.now) (taken_by c.loop.from) (taken_by c.take.new.self) rounds round c.in-Some-take.ensures.taken taken,
      numbers_after c.loop.numbers.items c.reserve.new.self.items c.push_reserved.new.self.items rounds round c.push_reserved.ensures.items c.reserve.ensures.items numbered,
      each_more (SentRound g.G.Gate.does g.G.Gate.refuses g.G.Gate.stays g.D.Reader.Read.remaining g.D.Writer.Write.contents g.D.Dial.dials
          (g.C.Milliseconds.shows c.args.clock.now)) rounds round (c.args.dialer.now, c.args.gate.now) (c.loop.dialer, c.loop.gate)
          (c.send_round.new.dialer, c.send_round.new.gate) steps c.send_round.ensures,
    )
