-- Lines that are handed over one after the other, and their outcomes.
use Rattle.std.specs.Prelude.{◌≡◌, ℕ, ◌≤◌, ◌⊎◌, List, [], ◌∷◌, ◌++◌, length, Option, Result, MatchResult}
use Rattle.std.specs.Io.KnownBytes.{Consumes, IsAtEnd}
use Rattle.cg_types.specs.declared.fault.Fault.{Fault}
use Rattle.cg_types.specs.declared.fault.Fault.TheVariants.{OutOfMemory, ReadFault}
use Rattle.cg_links.specs.declared.counted.Counted.{Counted}
use Rattle.cg_links.specs.Counted.{KeepsCounts, CountsCalls, CountsFailed}
use Rattle.cg_links.specs.declared.transfer.TheConstants.{MOST_READS}
use Rattle.cg_links.specs.declared.lines.Next.{Next}
use Rattle.cg_links.specs.declared.lines.Next.TheVariants.{More, Stop}
use Rattle.cg_links.specs.declared.lines.TheConstants.{PIECE_LIMIT}
use Rattle.cg_links.specs.Lines.{ended_lines, unended_line, last_line, lines_of}

-- A taker of lines, by its ghost members: a state, a line and the state that it leads to; a state, a line that is
-- refused, the state that is left, and the fault.
module _ {S : Type 0} (takes : S → List ℕ → S → Type 0) (refuses : S → List ℕ → S → Fault → Type 0) where
  -- The lines were taken, one after the other.
  abbrev pub Takes : S → List (List ℕ) → S → Type 0
  Takes s [] t = s ≡ t
  Takes s (line ∷ lines) t = (m : S) × takes s line m × Takes m lines t

  -- The first of these lines were taken, and the next one was refused.
  pub record Refuses (s : S) (lines : List (List ℕ)) (t : S) (f : Fault) : Type 0 where
    pub front : List (List ℕ)
    pub line : List ℕ
    pub rest : List (List ℕ)
    pub are : lines ≡ front ++ line ∷ rest
    pub middle : S
    pub taken : Takes s front middle
    pub refused : refuses middle line t f

  -- The first of these lines were taken, and memory ran out for the bytes of a later one.
  pub record Lacks (s : S) (lines : List (List ℕ)) (t : S) (f : Fault) : Type 0 where
    pub fault : f ≡ OutOfMemory
    pub front : List (List ℕ)
    pub rest : List (List ℕ)
    pub are : lines ≡ front ++ rest
    pub taken : Takes s front t

  -- one of these lines was refused, or memory ran out for it
  abbrev pub StopsAmong : S → List (List ℕ) → S → Fault → Type 0
  StopsAmong s lines t f = Refuses s lines t f ⊎ Lacks s lines t f

  -- ---- the ends of reading a text, by what is left of the reader before and after, and its counts

  module _ {R : Type 0} (before after : Option (List ℕ)) (old new : Counted R) (s t : S) where
    -- all of the text was read, and its lines were taken
    pub record TakesAll : Type 0 where
      pub text : List ℕ
      pub read : Consumes before after text
      pub end : IsAtEnd after
      pub kept : KeepsCounts old new
      pub taken : Takes s (lines_of text) t

    -- It stopped in the piece that was read last: the lines that end before the piece were taken, and it stopped in a
    -- line that ends in the piece, or for want of memory.
    pub record Stops (f : Fault) : Type 0 where
      pub earlier : List ℕ
      pub piece : List ℕ
      pub read : Consumes before after (earlier ++ piece)
      pub small : length piece ≤ PIECE_LIMIT
      pub kept : KeepsCounts old new
      pub middle : S
      pub taken : Takes s (ended_lines [] earlier) middle
      pub stops : StopsAmong middle (ended_lines (unended_line [] earlier) piece) t f

    -- all of the text was read, and its last line, which no line feed ends, was refused
    pub record StopsLast (f : Fault) : Type 0 where
      pub text : List ℕ
      pub read : Consumes before after text
      pub end : IsAtEnd after
      pub kept : KeepsCounts old new
      pub middle : S
      pub taken : Takes s (ended_lines [] text) middle
      pub stops : Refuses middle (last_line (unended_line [] text)) t f

    -- A read failed, or the most reads allowed were made: the lines that were read whole were taken.
    pub record IsUnread (f : Fault) : Type 0 where
      pub text : List ℕ
      pub read : Consumes before after text
      pub fault : f ≡ ReadFault
      pub caused : CountsFailed old new ⊎ CountsCalls old new MOST_READS
      pub taken : Takes s (ended_lines [] text) t

    abbrev pub Fails : Fault → Type 0
    Fails f = Stops f ⊎ (StopsLast f ⊎ IsUnread f)

-- no line ends the reading
abbrev pub NeverEnds : {S : Type 0} → S → List ℕ → S → Type 0
NeverEnds s line t = ⊥

-- A taker whose lines may end the reading: ends has a state, such a line and the state that is left.
module _ {S : Type 0} (takes ends : S → List ℕ → S → Type 0) where
  -- The line was taken, or it ended the reading.
  abbrev pub Goes : Next → S → List ℕ → S → Type 0
  Goes More s line t = takes s line t
  Goes Stop s line t = ends s line t

  module _ (refuses : S → List ℕ → S → Fault → Type 0) where
    -- The first of these lines were taken, and the next one ended the reading.
    pub record EndsAmong (s : S) (lines : List (List ℕ)) (t : S) : Type 0 where
      pub front : List (List ℕ)
      pub line : List ℕ
      pub rest : List (List ℕ)
      pub are : lines ≡ front ++ line ∷ rest
      pub middle : S
      pub taken : Takes takes refuses s front middle
      pub ended : ends middle line t

    -- The lines were taken, or one of them ended the reading.
    abbrev pub GoesOn : Next → S → List (List ℕ) → S → Type 0
    GoesOn More s lines t = Takes takes refuses s lines t
    GoesOn Stop s lines t = EndsAmong s lines t

    module _ {R : Type 0} (before after : Option (List ℕ)) (old new : Counted R) (s t : S) where
      -- A line of the text that was read ended the reading: with a line feed, or as the last line of all there is.
      pub record EndsEarly : Type 0 where
        pub text : List ℕ
        pub read : Consumes before after text
        pub kept : KeepsCounts old new
        pub among : EndsAmong s (ended_lines [] text) t ⊎ (IsAtEnd after × EndsAmong s (lines_of text) t)

      abbrev pub TakesLines : {T : Type 0} → Result T Fault → Type 0
      TakesLines result =
          MatchResult result
          (λ _. TakesAll takes refuses before after old new s t ⊎ EndsEarly)
          (Fails takes refuses before after old new s t)
