-- Lines of the operator, one after the other, and the text written of them.
use Rattle.std.specs.Prelude.{ℕ, ◌≡◌, ◌⊎◌, List, [], ◌∷◌, ◌++◌, take, Option, Result, Ok, MatchResult}
use Rattle.std.specs.Io.KnownBytes.{Appends, Consumes, IsAtEnd}
use Rattle.cg_types.specs.declared.fault.Fault.{Fault}
use Rattle.cg_types.specs.declared.fault.Fault.TheVariants.{OutOfMemory, WriteFault, NoSuchNode}
use Rattle.cg_table.specs.Values.{TableValue}
use Rattle.cg_table.specs.Puts.{Put}
use Rattle.cg_core.specs.Values.{NodeValue}
use Rattle.cg_links.specs.declared.counted.Counted.{Counted}
use Rattle.cg_links.specs.Counted.{link_of, KeepsCounts, CountsFailed, CountsIdle, IsFlushed}
use Rattle.cg_links.specs.Lines.{ended_lines, lines_of}
use Rattle.cg_links.specs.declared.lines.Next.{Next}
use Rattle.cg_links.specs.Taken.{Takes, TakesAll, Fails, Goes}
use Rattle.cg_text.specs.declared.view.View.{View}
use Rattle.cg_locked.specs.Seats.{SeatValue}
use Rattle.cg_operator.specs.declared.command.OperatorCommand.TheVariants.{Show, Quit}
use Rattle.cg_operator.specs.Commands.{command_in}
use Rattle.cg_operator.specs.Doing.{Does, RunsOut}

-- the progress of an operator: its gate, the puts that its pass has read or learnt, and its writer
pub record At (W : Type 0) : Type 0 where
  pub gate : SeatValue
  pub pass : List Put
  pub writer : Counted W

-- Parameters: a writer's contents, the node's start, and the table that the views opened with.
module _ {W : Type 0} (holds : W → Option (List ℕ)) (start : NodeValue) (opening : TableValue) where
  abbrev pub held : At W → Option (List ℕ)
  held s = holds (link_of s.writer)

  -- The line was done, and its text written and flushed.
  pub record DoesLine (s : At W) (line : List ℕ) (t : At W) : Type 0 where
    pub text : List ℕ
    pub done : Does start opening (command_in line) s.gate s.pass text t.gate t.pass
    pub written : Appends (held s) (held t) text
    pub kept : KeepsCounts s.writer t.writer
    pub flushed : IsFlushed t.writer

  -- Memory ran out in the line: it did nothing but its one change, and nothing was written of it.
  pub record LacksMemory (s : At W) (line : List ℕ) (t : At W) (f : Fault) : Type 0 where
    pub fault : f ≡ OutOfMemory
    pub done : RunsOut start opening (command_in line) s.gate s.pass t.gate t.pass
    pub writer : t.writer ≡ s.writer

  -- The line is to show the table, and there is nothing to read it from.
  pub record ReadsNothing (s : At W) (line : List ℕ) (t : At W) (f : Fault) : Type 0 where
    pub fault : f ≡ NoSuchNode
    pub view : View
    pub asked : command_in line ≡ Ok (Show view)
    pub same : t ≡ s

  -- The line was done, and a prefix of its text was written before the writer failed or took nothing.
  pub record WritesFront (s : At W) (line : List ℕ) (t : At W) (f : Fault) : Type 0 where
    pub fault : f ≡ WriteFault
    pub text : List ℕ
    pub done : Does start opening (command_in line) s.gate s.pass text t.gate t.pass
    pub count : ℕ
    pub written : Appends (held s) (held t) (take count text)
    pub caused : CountsFailed s.writer t.writer ⊎ CountsIdle s.writer t.writer

  -- The line ended the operator by a fault.
  abbrev pub EndsAt : At W → List ℕ → At W → Fault → Type 0
  EndsAt s line t f = LacksMemory s line t f ⊎ (ReadsNothing s line t f ⊎ WritesFront s line t f)

  -- The line requested the end, and did nothing.
  abbrev pub QuitsAt : At W → List ℕ → At W → Type 0
  QuitsAt s line t = (command_in line ≡ Ok Quit) × (t ≡ s)

  -- the outcome of a line
  abbrev pub TellsLine : At W → List ℕ → At W → Result Next Fault → Type 0
  TellsLine s line t result = MatchResult result (λ next. Goes DoesLine QuitsAt next s line t) (EndsAt s line t)

  module _ {R : Type 0} (before after : Option (List ℕ)) (old new : Counted R) (s t : At W) where
    -- A line requested the end: those before it were done, and those after it are not looked at. It ends with a line
    -- feed, or all was read.
    pub record Quits : Type 0 where
      pub text : List ℕ
      pub read : Consumes before after text
      pub kept : KeepsCounts old new
      pub front : List (List ℕ)
      pub line : List ℕ
      pub rest : List (List ℕ)
      pub are : (ended_lines [] text ≡ front ++ line ∷ rest) ⊎ (IsAtEnd after × (lines_of text ≡ front ++ line ∷ rest))
      pub asked : command_in line ≡ Ok Quit
      pub done : Takes DoesLine EndsAt s front t

    abbrev pub ReachesTheEnd : Type 0
    ReachesTheEnd = TakesAll DoesLine EndsAt before after old new s t ⊎ Quits

    -- The lines were done to the end of the input or to a quit, or to the line that ended the operator by a fault.
    abbrev pub Operates : {T : Type 0} → Result T Fault → Type 0
    Operates result = MatchResult result (λ _. ReachesTheEnd) (Fails DoesLine EndsAt before after old new s t)
