-- The results of `answer`: the text written, and the status.
use Rattle.std.specs.Prelude.{◌≡◌, ℕ, ◌⊎◌, List, Option}
use Rattle.std.specs.Io.KnownBytes.{Appends, Consumes, IsAtEnd}
use Rattle.cg_types.specs.declared.fault.Fault.TheVariants as fault
use Rattle.cg_types.specs.Fault.{fault_text}
use Rattle.cg_links.specs.declared.counted.Counted.{Counted}
use Rattle.cg_links.specs.declared.transfer.TheConstants.{MOST_READS}
use Rattle.cg_links.specs.Counted.{KeepsCounts, CountsCalls, CountsFailed}
use Rattle.cg_tool.specs.Answer.{answer_to, text_of, status_of}

-- the reader was read to its end, and the text answers all that was read
pub record AnswersInput {L : Type 0} (before after : Option (List ℕ)) (old new : Counted L)
    (text : List ℕ) (status : ℕ) : Type 0 where
  pub input : List ℕ
  pub read : Consumes before after input
  pub end : IsAtEnd after
  pub kept : KeepsCounts old new
  pub text_is : text ≡ text_of (answer_to input)
  pub status_is : status ≡ status_of (answer_to input)

-- memory ran out, no read failed, and the text says so
pub record ExpectsOutOfMemory {L : Type 0} (before after : Option (List ℕ)) (old new : Counted L)
    (text : List ℕ) (status : ℕ) : Type 0 where
  pub input : List ℕ
  pub read : Consumes before after input
  pub kept : KeepsCounts old new
  pub text_is : text ≡ fault_text fault.OutOfMemory
  pub status_is : status ≡ 1

-- a read failed, or all reads that are allowed were made, and the text says so
pub record ExpectsReadFault {L : Type 0} (before after : Option (List ℕ)) (old new : Counted L)
    (text : List ℕ) (status : ℕ) : Type 0 where
  pub input : List ℕ
  pub read : Consumes before after input
  pub caused : CountsFailed old new ⊎ CountsCalls old new MOST_READS
  pub text_is : text ≡ fault_text fault.ReadFault
  pub status_is : status ≡ 1

-- the expected text and status
abbrev pub IsExpectedAnswer : {L : Type 0}
    → Option (List ℕ) → Option (List ℕ) → Counted L → Counted L → List ℕ → ℕ → Type 0
IsExpectedAnswer before after old new text status =
    AnswersInput before after old new text status
    ⊎ (ExpectsOutOfMemory before after old new text status ⊎ ExpectsReadFault before after old new text status)

-- all of the input was read, and its answer was written
pub record AnswersAll (after held holds : Option (List ℕ)) (input : List ℕ) (result : ℕ) : Type 0 where
  pub end : IsAtEnd after
  pub text : Appends held holds (text_of (answer_to input))
  pub status : result ≡ status_of (answer_to input)

-- memory ran out, and that was written
pub record SaysOutOfMemory (held holds : Option (List ℕ)) (result : ℕ) : Type 0 where
  pub text : Appends held holds (fault_text fault.OutOfMemory)
  pub status : result ≡ 1
