use Rattle.std.proofs.Common.{Option, Some, None, sym, ◌∙◌}
use Rattle.clap.specs.Words.{Text, found_of}
use Rattle.cg_tool.proofs.Matched.{cut_from}
use Rattle.cg_tool.proofs.job.is_cut.Goals as goal

abbrev none : Option Text
none = None

pub returns-in-Some : goal.returns-in-Some
returns-in-Some c = c.eq.ensures ∙ sym (cut_from (found_of c.args.found.now) (Some c.in-Some.value.now) c.in-Some.ensures)

pub returns-in-None : goal.returns-in-None
returns-in-None c = sym (cut_from (found_of c.args.found.now) none c.in-None.ensures)
