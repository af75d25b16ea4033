-- The results of `sim`: the text written for the script that it reads, and the status.
use Rattle.std.specs.Prelude.{◌≡◌, ℕ, ◌⊎◌, List, [], ◌++◌, take, Option}
use Rattle.std.specs.Io.KnownBytes.{Appends, Consumes, IsAtEnd}
use Rattle.cg_types.specs.declared.fault.Fault.{Fault}
use Rattle.cg_types.specs.declared.fault.Fault.TheVariants.{OutOfMemory, ReadFault}
use Rattle.cg_types.specs.Fault.{fault_text}
use Rattle.cg_links.specs.declared.counted.Counted.{Counted}
use Rattle.cg_links.specs.Counted.{KeepsCounts, CountsCalls, CountsFailed, CountsIdle}
use Rattle.cg_links.specs.declared.transfer.TheConstants.{MOST_READS}
use Rattle.cg_text.specs.Written.{WroteFront, Wrote}
use Rattle.cg_links.specs.Lines.{ended_lines, lines_of}
use Rattle.cg_sim.specs.Script.{first_play, lines_text, script_text}
use Rattle.cg_sim.specs.Told.{RunsOut, BreaksOff}

-- ---- reading and writing, to the end or to a fault

-- All of the script was read, and the text that it prints was written.
pub record IsPlayed {R W : Type 0} (before after held holds : Option (List ℕ))
    (r0 r1 : Counted R) (w0 w1 : Counted W) : Type 0 where
  pub script : List ℕ
  pub read : Consumes before after script
  pub end : IsAtEnd after
  pub kept : KeepsCounts r0 r1
  pub text : Appends held holds (script_text script)
  pub same : KeepsCounts w0 w1

-- Memory ran out or the writer failed in a line that a line feed ends.
pub record Stops {R W : Type 0} (before after held holds : Option (List ℕ))
    (r0 r1 : Counted R) (w0 w1 : Counted W) (f : Fault) : Type 0 where
  pub script : List ℕ
  pub read : Consumes before after script
  pub kept : KeepsCounts r0 r1
  pub stops : RunsOut first_play (ended_lines [] script) held holds w0 w1 f
      ⊎ BreaksOff first_play (ended_lines [] script) held holds w0 w1 f

-- The writer failed in the last line.
pub record BreaksLast {R W : Type 0} (before after held holds : Option (List ℕ))
    (r0 r1 : Counted R) (w0 w1 : Counted W) (f : Fault) : Type 0 where
  pub script : List ℕ
  pub read : Consumes before after script
  pub end : IsAtEnd after
  pub kept : KeepsCounts r0 r1
  pub breaks : BreaksOff first_play (lines_of script) held holds w0 w1 f

-- A read failed, or all reads that are allowed were made: the text of the lines that were read whole was written.
pub record IsUnread {R W : Type 0} (before after held holds : Option (List ℕ))
    (r0 r1 : Counted R) (w0 w1 : Counted W) (f : Fault) : Type 0 where
  pub script : List ℕ
  pub read : Consumes before after script
  pub fault : f ≡ ReadFault
  pub caused : CountsFailed r0 r1 ⊎ CountsCalls r0 r1 MOST_READS
  pub text : Appends held holds (lines_text first_play (ended_lines [] script))
  pub same : KeepsCounts w0 w1

abbrev pub FailsInTurn : {R W : Type 0}
    → Option (List ℕ) → Option (List ℕ) → Option (List ℕ) → Option (List ℕ)
    → Counted R → Counted R → Counted W → Counted W → Fault → Type 0
FailsInTurn before after held holds r0 r1 w0 w1 f =
    Stops before after held holds r0 r1 w0 w1 f
    ⊎ (BreaksLast before after held holds r0 r1 w0 w1 f ⊎ IsUnread before after held holds r0 r1 w0 w1 f)

-- A line was written, or a prefix of it before the writer failed or took nothing.
abbrev pub WritesLine : {L : Type 0} → Option (List ℕ) → Option (List ℕ) → Counted L → Counted L → List ℕ → Type 0
WritesLine before after old new line =
    (Appends before after line × KeepsCounts old new)
    ⊎ ((count : ℕ) × Appends before after (take count line) × (CountsFailed old new ⊎ CountsIdle old new))

-- ---- the expected text and status

-- the reader was read to its end, and the text is the one that the script prints
pub record IsWhole {L : Type 0} (before after : Option (List ℕ)) (old new : Counted L)
    (text : List ℕ) (status : ℕ) : Type 0 where
  pub script : List ℕ
  pub read : Consumes before after script
  pub end : IsAtEnd after
  pub kept : KeepsCounts old new
  pub text_is : text ≡ script_text script
  pub status_is : status ≡ 0

-- memory ran out: the text is that of some of the first lines, and the fault
pub record EndsForMemory {L : Type 0} (before after : Option (List ℕ)) (old new : Counted L)
    (text : List ℕ) (status : ℕ) : Type 0 where
  pub script : List ℕ
  pub read : Consumes before after script
  pub kept : KeepsCounts old new
  pub count : ℕ
  pub text_is : text ≡ lines_text first_play (take count (ended_lines [] script)) ++ fault_text OutOfMemory
  pub status_is : status ≡ 1

-- a read failed, or all reads that are allowed were made: the text is that of the lines read whole, and the fault
pub record EndsUnread {L : Type 0} (before after : Option (List ℕ)) (old new : Counted L)
    (text : List ℕ) (status : ℕ) : Type 0 where
  pub script : List ℕ
  pub read : Consumes before after script
  pub caused : CountsFailed old new ⊎ CountsCalls old new MOST_READS
  pub text_is : text ≡ lines_text first_play (ended_lines [] script) ++ fault_text ReadFault
  pub status_is : status ≡ 1

abbrev pub IsExpected : {L : Type 0} → Option (List ℕ) → Option (List ℕ) → Counted L → Counted L → List ℕ → ℕ → Type 0
IsExpected before after old new text status =
    IsWhole before after old new text status
    ⊎ (EndsForMemory before after old new text status ⊎ EndsUnread before after old new text status)

-- a part of the script was read, and the text is the one that its lines print
pub record IsBegun {L : Type 0} (before after : Option (List ℕ)) (old new : Counted L) (text : List ℕ) : Type 0 where
  pub script : List ℕ
  pub read : Consumes before after script
  pub kept : KeepsCounts old new
  pub text_is : text ≡ lines_text first_play (ended_lines [] script)

-- ---- the bytes written of it

-- The expected text was written, or a prefix of it before the writer failed.
abbrev pub Simulates : {R W : Type 0}
    → Option (List ℕ) → Option (List ℕ) → Option (List ℕ) → Option (List ℕ)
    → Counted R → Counted R → Counted W → Counted W → ℕ → Type 0
Simulates before after held holds r0 r1 w0 w1 result =
    ((text : List ℕ) × (status : ℕ) × IsExpected before after r0 r1 text status × Wrote held holds w0 w1 text status result)
    ⊎ ((text : List ℕ) × IsBegun before after r0 r1 text × WroteFront held holds w0 w1 text result)

-- ---- if no link failed

-- all of the script was read, and the text that it prints was written
pub record PlaysAll (after held holds : Option (List ℕ)) (script : List ℕ) (result : ℕ) : Type 0 where
  pub end : IsAtEnd after
  pub text : Appends held holds (script_text script)
  pub status : result ≡ 0

-- memory ran out: the text of some of the first lines was written, and the fault
pub record SaysOutOfMemory (held holds : Option (List ℕ)) (script : List ℕ) (result : ℕ) : Type 0 where
  pub count : ℕ
  pub text : Appends held holds (lines_text first_play (take count (lines_of script)) ++ fault_text OutOfMemory)
  pub status : result ≡ 1
