use Rattle.std.proofs.Common.{[], ap, sym, append-nil, ◌∙◌}
use Rattle.cg_links.specs.Lines.{lines_of}
use Rattle.cg_journal.proofs.LinesRead.{ended, lines_of-ended}
use Rattle.cg_journal.proofs.EventsRead.{event_words, event_line-ended, event_again, event_words-lack}
use Rattle.cg_journal.proofs.laws.written_events_are_read.Goals as goal

pub returns : goal.returns
returns c = λ e is. record {
  line = event_words e;
  only = ap lines_of (event_line-ended e ∙ sym (append-nil (ended (event_words e)))) ∙ lines_of-ended (event_words e) [] (event_words-lack e is);
  read = event_again e is;
}
