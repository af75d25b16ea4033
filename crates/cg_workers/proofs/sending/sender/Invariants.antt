-- Each round so far was sent.
use Rattle.std.proofs.Common.{◌≡◌, List, ◌++◌}
use Rattle.cg_workers.specs.declared.round.Round.{Round}
use Rattle.cg_workers.specs.Ends.{taken_by, TakesWhere}
use Rattle.cg_workers.specs.Each.{Each}
use Rattle.cg_workers.specs.Workers.{SentRound, numbers_of}
use Rattle.cg_workers.proofs.sending.sender.Given as goal

abbrev pub invariant-loop : goal.invariant-loop
invariant-loop g l = (rounds : List Round) × TakesWhere l.from l.initial.from × (taken_by l.from ≡ taken_by l.initial.from ++ rounds)
    × (l.numbers.items ≡ numbers_of rounds)
    × Each (SentRound g.G.Gate.does g.G.Gate.refuses g.G.Gate.stays g.D.Reader.Read.remaining g.D.Writer.Write.contents g.D.Dial.dials
    (g.C.Milliseconds.shows l.clock)) rounds (l.initial.dialer, l.initial.gate) (l.dialer, l.gate)
