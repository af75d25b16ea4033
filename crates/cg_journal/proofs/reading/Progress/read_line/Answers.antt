use Rattle.std.proofs.Common.{refl, ap, ◌∙◌, Option}
use Rattle.cg_history.specs.History.{HistoryValue}
use Rattle.cg_journal.specs.Reading.{after_line}
use Rattle.cg_journal.proofs.ReadLemmas.{read_behind}
use Rattle.cg_journal.proofs.reading.Progress.read_line.Goals as goal

pub returns-in-Some-clause-read : goal.returns-in-Some-clause-read
returns-in-Some-clause-read c = read_behind c.args.self.now.history _ _ c.args.line.now c.apply_line.result c.in-Some.is c.apply_line.ensures

pub returns-in_ok-life_in-in-None-clause-read : goal.returns-in_ok-life_in-in-None-clause-read
returns-in_ok-life_in-in-None-clause-read c =
    (_, ap (λ (o : Option HistoryValue). after_line o c.args.line.now) c.in-None.is ∙ c.in_ok-life_in-in-None.ensures, refl)
