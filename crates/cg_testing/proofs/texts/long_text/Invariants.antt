use Rattle.std.proofs.Common.{◌≡◌, replicate, string_bytes}
use Rattle.cg_testing.proofs.texts.long_text.Given as goal

abbrev pub invariant-loop : goal.invariant-loop
invariant-loop l = string_bytes l.text ≡ replicate l.counter 120
