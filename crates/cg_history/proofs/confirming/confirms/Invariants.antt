use Rattle.std.proofs.Common.{take}
use Rattle.cg_history.specs.Greatest.{AreAtMost}
use Rattle.cg_history.specs.Confirming.{AreConfirmed}
use Rattle.cg_history.proofs.confirming.confirms.Given as goal

abbrev pub invariant-loop-place : goal.invariant-loop-place
invariant-loop-place l = record {
  confirmed : AreConfirmed l.folded l.records (take l.place l.receipts);
  at_most : AreAtMost l.greatest (take l.place l.receipts);
}
