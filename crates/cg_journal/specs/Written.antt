-- Writing some lines: the results.
use Rattle.std.specs.Prelude.{◌≡◌, ℕ, ◌⊎◌, List, ◌++◌, take, Option, Result, MatchResult}
use Rattle.std.specs.Io.KnownBytes.{Appends}
use Rattle.cg_types.specs.declared.fault.Fault.{Fault}
use Rattle.cg_types.specs.declared.fault.Fault.TheVariants.{OutOfMemory, WriteFault}
use Rattle.cg_links.specs.declared.counted.Counted.{Counted}
use Rattle.cg_links.specs.Counted.{KeepsCounts, CountsFailed, CountsIdle}
use Rattle.cg_journal.specs.Text.{joined}

module _ {L : Type 0} (held holds : Option (List ℕ)) (old new : Counted L) (lines : List (List ℕ)) where
  -- all of them were written
  pub record WritesAll : Type 0 where
    pub written : Appends held holds (joined lines)
    pub kept : KeepsCounts old new

  -- memory ran out: the first lines were written, each whole
  pub record WritesFirst (f : Fault) : Type 0 where
    pub fault : f ≡ OutOfMemory
    pub front : List (List ℕ)
    pub rest : List (List ℕ)
    pub are : lines ≡ front ++ rest
    pub written : Appends held holds (joined front)
    pub kept : KeepsCounts old new

  -- the writer failed or took nothing: a prefix of the text was written
  pub record BreaksOff (f : Fault) : Type 0 where
    pub fault : f ≡ WriteFault
    pub count : ℕ
    pub written : Appends held holds (take count (joined lines))
    pub caused : CountsFailed old new ⊎ CountsIdle old new

  abbrev pub Writes : {T : Type 0} → Result T Fault → Type 0
  Writes result = MatchResult result (λ _. WritesAll) (λ f. WritesFirst f ⊎ BreaksOff f)
