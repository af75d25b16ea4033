use Rattle.std.proofs.Common.{◌≡◌}
use Rattle.cg_http.specs.Paths.{key_named}
use Rattle.cg_http.proofs.KeyLemmas.{left}
use Rattle.cg_http.proofs.paths.key_named.Given as goal

abbrev pub invariant-loop-number : goal.invariant-loop-number
invariant-loop-number l = key_named l.name ≡ left l.number l.name
