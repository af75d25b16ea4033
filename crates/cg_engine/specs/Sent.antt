-- Writing some bytes and flushing: the results.
use Rattle.std.specs.Prelude.{◌≡◌, ℕ, ◌<◌, ◌⊎◌, List, [], length, take, Option, Result, MatchResult}
use Rattle.std.specs.Io.KnownBytes.{Appends}
use Rattle.cg_types.specs.declared.fault.Fault.{Fault}
use Rattle.cg_types.specs.declared.fault.Fault.TheVariants as fault
use Rattle.cg_links.specs.declared.counted.Counted.{Counted}
use Rattle.cg_links.specs.Counted.{IsFlushed, KeepsCounts, CountsFailed, CountsIdle}

-- If there are some bytes to write, or nothing waited for a flush before, nothing waits for one afterwards.
abbrev pub LeavesFlushed : {L : Type 0} → List ℕ → Counted L → Counted L → Type 0
LeavesFlushed due old new = (0 < length due) ⊎ IsFlushed old → IsFlushed new

module _ {L : Type 0} (held holds : Option (List ℕ)) (old new : Counted L) (due : List ℕ) where
  -- all of them were written, and the writer was flushed after them
  pub record SendsAll : Type 0 where
    pub written : Appends held holds due
    pub flushed : LeavesFlushed due old new
    pub kept : KeepsCounts old new

  -- There were some bytes to write, and memory ran out before the writer was called.
  pub record SendsNothing (f : Fault) : Type 0 where
    pub fault : f ≡ fault.OutOfMemory
    pub some : 0 < length due
    pub written : Appends held holds []
    pub same : new ≡ old

  -- There were some bytes to write, a prefix of them was written, and then the writer failed, or took nothing.
  pub record SendsFront (f : Fault) : Type 0 where
    pub fault : f ≡ fault.WriteFault
    pub some : 0 < length due
    pub count : ℕ
    pub written : Appends held holds (take count due)
    pub caused : CountsFailed old new ⊎ CountsIdle old new

  -- the faults of writing
  abbrev pub FailsToSend : Fault → Type 0
  FailsToSend f = SendsNothing f ⊎ SendsFront f

  abbrev pub Sends : {T : Type 0} → Result T Fault → Type 0
  Sends result = MatchResult result (λ _. SendsAll) FailsToSend
