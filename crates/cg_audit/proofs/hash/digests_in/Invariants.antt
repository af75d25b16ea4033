use Rattle.std.proofs.Common.{◌≡◌, take}
use Rattle.std.specs.List.{fold}
use Rattle.cg_audit.specs.Hash.{hash_with_digest}
use Rattle.cg_audit.proofs.hash.digests_in.Given as goal

-- the parts so far are in the hash
abbrev pub invariant-loop-digest : goal.invariant-loop-digest
invariant-loop-digest l = l.hash ≡ fold hash_with_digest l.fn.hash (take l.digest-index l.digests)
