-- The names of verdicts.
use Rattle.std.specs.Prelude.{ℕ, List, codes}
use Rattle.cg_silence.specs.declared.verdict.Verdict.{Verdict}
use Rattle.cg_silence.specs.declared.verdict.Verdict.TheVariants as verdict

-- the verdict's name
abbrev pub verdict_name : Verdict → List ℕ
verdict_name verdict.Alive = codes "Alive"
verdict_name verdict.Silent = codes "Silent"
verdict_name verdict.Unheard = codes "Unheard"
