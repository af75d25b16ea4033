use Rattle.std.proofs.Common.{◌≡◌, take}
use Rattle.std.specs.List.{fold}
use Rattle.cg_audit.specs.Hash.{hash_with_request}
use Rattle.cg_audit.proofs.hash.requests_in.Given as goal

-- the parts so far are in the hash
abbrev pub invariant-loop-request : goal.invariant-loop-request
invariant-loop-request l = l.hash ≡ fold hash_with_request l.fn.hash (take l.request-index l.requests)
