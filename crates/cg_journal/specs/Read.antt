-- Reading a journal: the history, or the line that ends reading and its fault.
use Rattle.std.specs.Prelude.{◌≡◌, ℕ, ◌+◌, ◌≤◌, ◌⊎◌, List, [], ◌++◌, length, Option, Some, None, Result, Ok, Err, MatchResult}
use Rattle.std.specs.Io.KnownBytes.{Consumes, IsAtEnd}
use Rattle.cg_types.specs.declared.fault.Fault.{Fault}
use Rattle.cg_types.specs.declared.fault.Fault.TheVariants.{OutOfMemory, BadText, ReadFault}
use Rattle.cg_links.specs.declared.counted.Counted.{Counted}
use Rattle.cg_links.specs.Counts.{one_more}
use Rattle.cg_links.specs.Counted.{KeepsCounts, CountsCalls, CountsFailed}
use Rattle.cg_links.specs.declared.transfer.TheConstants.{MOST_READS}
use Rattle.cg_history.specs.History.{HistoryValue}
use Rattle.cg_links.specs.declared.lines.TheConstants.{PIECE_LIMIT}
use Rattle.cg_links.specs.Lines.{ended_lines, lines_of}
use Rattle.cg_journal.specs.declared.reading.Progress.{Progress}
use Rattle.cg_journal.specs.declared.unread.Unread.{Unread}
use Rattle.cg_journal.specs.Reading.{after_line, journal_in, told_number}

-- ---- a line

-- The line was read, and is counted.
abbrev pub TakesLine : Progress → List ℕ → Progress → Type 0
TakesLine p line q =
    (h : HistoryValue) × (after_line p.history line ≡ Some h) × (q.history ≡ Some h) × (q.lines ≡ one_more p.lines)

-- The line can't be read, or memory ran out on the way; it is not counted.
abbrev pub RefusesLine : Progress → List ℕ → Progress → Fault → Type 0
RefusesLine p line q f =
    ((f ≡ OutOfMemory) ⊎ ((f ≡ BadText) × (after_line p.history line ≡ None))) × (q.lines ≡ p.lines)

-- ---- a journal, by the reader's rest before and after, and its counts

-- No line of the text before the one of this number is unreadable.
abbrev pub NoneBefore : List ℕ → ℕ → Type 0
NoneBefore text number = (n : ℕ) → journal_in text ≡ Err n → number ≤ n

module _ {R : Type 0} (before after : Option (List ℕ)) (old new : Counted R) where
  -- all of it was read
  pub record ReadsHistory (h : HistoryValue) : Type 0 where
    pub text : List ℕ
    pub read : Consumes before after text
    pub end : IsAtEnd after
    pub kept : KeepsCounts old new
    pub history : journal_in text ≡ Ok h

  -- The line of this number is the first that can't be read, whatever text follows; or the text was all there is.
  pub record MeetsUnreadable (u : Unread) : Type 0 where
    pub fault : u.fault ≡ BadText
    pub text : List ℕ
    pub read : Consumes before after text
    pub kept : KeepsCounts old new
    pub number : ℕ
    pub told : u.line ≡ told_number number
    pub first : ((rest : List ℕ) → journal_in (text ++ rest) ≡ Err number)
        ⊎ (IsAtEnd after × (journal_in text ≡ Err number))

  -- Memory ran out in the line after these of the text, and none of them is unreadable. They are all that end before
  -- the piece that was read last, and maybe some that end in it.
  pub record LacksMemory (u : Unread) : Type 0 where
    pub fault : u.fault ≡ OutOfMemory
    pub earlier : List ℕ
    pub piece : List ℕ
    pub read : Consumes before after (earlier ++ piece)
    pub small : length piece ≤ PIECE_LIMIT
    pub kept : KeepsCounts old new
    pub front : List (List ℕ)
    pub rest : List (List ℕ)
    pub are : lines_of (earlier ++ piece) ≡ front ++ rest
    pub behind : length (ended_lines [] earlier) ≤ length front
    pub told : u.line ≡ told_number (1 + length front)
    pub unhidden : NoneBefore (earlier ++ piece) (1 + length front)

  -- A read failed, or all reads that are allowed were made, in the line after those that end in the text, and none of
  -- them is unreadable.
  pub record MeetsReadFault (u : Unread) : Type 0 where
    pub fault : u.fault ≡ ReadFault
    pub text : List ℕ
    pub read : Consumes before after text
    pub caused : CountsFailed old new ⊎ CountsCalls old new MOST_READS
    pub told : u.line ≡ told_number (1 + length (ended_lines [] text))
    pub unhidden : NoneBefore text (1 + length (ended_lines [] text))

  abbrev pub FailsToRead : Unread → Type 0
  FailsToRead u = MeetsUnreadable u ⊎ (LacksMemory u ⊎ MeetsReadFault u)

  abbrev pub Reads : Result HistoryValue Unread → Type 0
  Reads result = MatchResult result ReadsHistory FailsToRead

  -- the same, with the fault and without the line
  abbrev pub ReadsUntold : Result HistoryValue Fault → Type 0
  ReadsUntold result =
      MatchResult result ReadsHistory (λ f. (line : ℕ) × FailsToRead (record { line = line; fault = f }))
