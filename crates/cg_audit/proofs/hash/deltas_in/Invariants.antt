use Rattle.std.proofs.Common.{◌≡◌, take}
use Rattle.std.specs.List.{fold}
use Rattle.cg_audit.specs.Hash.{hash_with_delta}
use Rattle.cg_audit.proofs.hash.deltas_in.Given as goal

-- the parts so far are in the hash
abbrev pub invariant-loop-sent : goal.invariant-loop-sent
invariant-loop-sent l = l.hash ≡ fold hash_with_delta l.fn.hash (take l.sent-index l.deltas)
