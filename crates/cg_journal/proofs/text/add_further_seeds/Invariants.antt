use Rattle.std.proofs.Common.{◌≡◌, ◌++◌, take, string_bytes}
use Rattle.std.specs.List.{flat_map}
use Rattle.cg_journal.specs.Text.{further_seed}
use Rattle.cg_journal.proofs.text.add_further_seeds.Given as goal

abbrev pub invariant-loop-seed : goal.invariant-loop-seed
invariant-loop-seed l = string_bytes l.text ≡ string_bytes l.initial.text ++ flat_map further_seed (take l.seed-index l.seeds)
