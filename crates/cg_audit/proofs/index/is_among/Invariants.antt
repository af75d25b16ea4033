use Rattle.std.proofs.Common.{map, length}
use Rattle.cg_messages.specs.Borrowed.{borrowed_message}
use Rattle.cg_audit.proofs.IndexLemmas.{IsPassed}
use Rattle.cg_audit.proofs.index.is_among.Given as goal

abbrev pub invariant-loop-number : goal.invariant-loop-number
invariant-loop-number l = IsPassed (map borrowed_message l.messages) l.hashes (length l.last) (borrowed_message l.wanted) l.number

abbrev pub decreases-loop-number : goal.decreases-loop-number
decreases-loop-number l = l.number
