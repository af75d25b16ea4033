use Rattle.std.proofs.Common.{◌≡◌}
use Rattle.cg_core.specs.declared.limits.TheConstants.{SEED_LIMIT}
use Rattle.cg_text.specs.Words.{endpoints_in}
use Rattle.cg_text.proofs.SeedLemmas.{behind, left}
use Rattle.cg_text.proofs.seeds.endpoints_in.Given as goal

abbrev pub invariant-loop : goal.invariant-loop
invariant-loop l = endpoints_in l.at SEED_LIMIT l.text ≡ behind l.endpoints.items (left l.at l.counter l.rest)
