-- The results of all workers.
use Rattle.std.specs.Prelude.{Bool, ◌&&◌}
use Rattle.cg_workers.specs.Ends.{taken_in}
use Rattle.cg_threads.specs.declared.left.WorkersLeft.{WorkersLeft}
use Rattle.cg_threads.specs.Left.{Work}

-- true if all workers began
abbrev pub all_began : {N : Type 0} → WorkersLeft N → Bool
all_began w = w.receiver.began && (w.sender.left.began && (w.ticker.left.began && w.operator.began))

-- the receipts that the workers left, and the rounds that were taken
abbrev pub work_of : {N : Type 0} → WorkersLeft N → Work
work_of w = record {
  receiver = w.receiver.receipts;
  sender = w.sender.left.receipts;
  ticker = w.ticker.left.receipts;
  operator = w.operator.receipts;
  taken = taken_in w.sender.taken;
}
