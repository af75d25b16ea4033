-- The sources before the index were read, and their histories are in `journals`.
use Rattle.std.proofs.Common.{[]}
use Rattle.cg_tool.proofs.SourceLemmas.{AtSource}
use Rattle.cg_tool.proofs.auditing.gathered.Given as goal

abbrev pub invariant-loop-source : goal.invariant-loop-source
invariant-loop-source g l = AtSource g.S.Source.reads g.S.Source.fails l.source-index l.initial.sources l.sources [] l.journals
