use Rattle.std.proofs.Common.{◌<◌, ℕ, List, length}
use Rattle.cg_vectors.specs.Vector.{IsVector}
use Rattle.cg_vectors.proofs.vector.vector_in.Given as goal

abbrev pub invariant-loop-place : goal.invariant-loop-place
invariant-loop-place l = (given expected : List ℕ) → length given < l.place → ¬ IsVector l.line given expected
