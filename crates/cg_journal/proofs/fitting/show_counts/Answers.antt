use Rattle.std.proofs.Common.{arith}
use Rattle.cg_journal.proofs.Writable.{counts_of}
use Rattle.cg_journal.proofs.fitting.show_counts.Goals as goal

pub returns : goal.returns
returns c = counts_of c.args.words.now (λ i. omega (arith, c.type_inv.words i))
