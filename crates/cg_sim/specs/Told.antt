-- The bytes written of the texts of some lines as these are done.
use Rattle.std.specs.Prelude.{◌≡◌, ℕ, ◌⊎◌, List, [], take, Option}
use Rattle.std.specs.Io.KnownBytes.{Appends}
use Rattle.cg_types.specs.declared.fault.Fault.{Fault}
use Rattle.cg_types.specs.declared.fault.Fault.TheVariants.{OutOfMemory, WriteFault}
use Rattle.cg_links.specs.declared.counted.Counted.{Counted}
use Rattle.cg_links.specs.Counted.{KeepsCounts, CountsFailed, CountsIdle}
use Rattle.cg_sim.specs.declared.play.Play.{Play}
use Rattle.cg_sim.specs.Script.{after_lines, lines_text}

-- the lines were done, and their texts written
pub record AreTold {L : Type 0} (p q : Play) (lines : List (List ℕ))
    (before after : Option (List ℕ)) (old new : Counted L) : Type 0 where
  pub play : q ≡ after_lines p lines
  pub text : Appends before after (lines_text p lines)
  pub kept : KeepsCounts old new

-- memory ran out before a text was known, and nothing was written
pub record IsUntold {L : Type 0} (before after : Option (List ℕ)) (old new : Counted L) (f : Fault) : Type 0 where
  pub fault : f ≡ OutOfMemory
  pub text : Appends before after []
  pub kept : KeepsCounts old new

-- memory ran out: the texts of the first lines were written, whole
pub record RunsOut {L : Type 0} (p : Play) (lines : List (List ℕ))
    (before after : Option (List ℕ)) (old new : Counted L) (f : Fault) : Type 0 where
  pub fault : f ≡ OutOfMemory
  pub count : ℕ
  pub text : Appends before after (lines_text p (take count lines))
  pub kept : KeepsCounts old new

-- the writer failed or took nothing: a prefix of the texts was written
pub record BreaksOff {L : Type 0} (p : Play) (lines : List (List ℕ))
    (before after : Option (List ℕ)) (old new : Counted L) (f : Fault) : Type 0 where
  pub fault : f ≡ WriteFault
  pub count : ℕ
  pub text : Appends before after (take count (lines_text p lines))
  pub caused : CountsFailed old new ⊎ CountsIdle old new
