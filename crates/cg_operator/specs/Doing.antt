-- The effect of a line of the operator at a gate and a pass, and the text that it shows.
use Rattle.std.specs.Prelude.{ℕ, ◌≡◌, ◌⊎◌, List, Option, Some, None, Result, Ok, Err}
use Rattle.cg_types.specs.declared.fault.Fault.{Fault}
use Rattle.cg_types.specs.declared.fault.Fault.TheVariants.{OutOfMemory, NoSuchNode}
use Rattle.cg_types.specs.Fault.{fault_text}
use Rattle.cg_table.specs.Values.{TableValue}
use Rattle.cg_table.specs.Puts.{Put, with_puts}
use Rattle.cg_core.specs.declared.event.Event.{Event}
use Rattle.cg_core.specs.declared.event.Event.TheVariants as event
use Rattle.cg_core.specs.declared.reply.Reply.TheVariants as reply
use Rattle.cg_core.specs.Values.{NodeValue}
use Rattle.cg_views.specs.Lists.{StartsWith}
use Rattle.cg_text.specs.Printed.{version_line}
use Rattle.cg_locked.specs.Seats.{SeatValue, with_told, Enters, Refuses}
use Rattle.cg_text.specs.declared.view.View.{View}
use Rattle.cg_operator.specs.declared.command.OperatorCommand.{OperatorCommand}
use Rattle.cg_operator.specs.declared.command.OperatorCommand.TheVariants.{Show, Set, Remove, Quit}
use Rattle.cg_operator.specs.Shown.{table_lines, unpublished_line}

-- The answer to a change of a key is its version, once the pass has learnt the told of the change; if there is none,
-- it is the line of an unpublished version.
abbrev pub TellsChange : ℕ → Option (List Put) → List Put → List Put → List ℕ → Type 0
TellsChange version None p q text = (q ≡ p) × (text ≡ unpublished_line version)
TellsChange version (Some told) p q text = StartsWith q told × (text ≡ version_line version)

module _ (start : NodeValue) where
  -- The gate entered the event, a Set or a Remove, and its told was handed over.
  pub record ChangesKey (own : ℕ) (e : Event) (g : SeatValue) (p : List Put) (text : List ℕ) (h : SeatValue)
      (q : List Put) : Type 0 where
    pub version : ℕ
    pub told : Option (List Put)
    pub entered : Enters start own g e (reply.Done version) (with_told h told)
    pub handed : h.told ≡ None
    pub later : StartsWith q p
    pub tells : TellsChange version told p q text

  -- The event was refused, and the text is its fault.
  pub record RefusesKey (e : Event) (g : SeatValue) (p : List Put) (text : List ℕ) (h : SeatValue) (q : List Put)
      : Type 0 where
    pub fault : Fault
    pub refused : Refuses start g e fault
    pub text_is : text ≡ fault_text fault
    pub gate : h ≡ g
    pub pass : q ≡ p

  abbrev pub Changes : ℕ → Event → SeatValue → List Put → List ℕ → SeatValue → List Put → Type 0
  Changes own e g p text h q = ChangesKey own e g p text h q ⊎ RefusesKey e g p text h q

  -- Memory ran out in a change: nothing was done, or the change was entered.
  abbrev pub ChangeRunsOut : ℕ → Event → SeatValue → List Put → SeatValue → List Put → Type 0
  ChangeRunsOut own e g p h q = ((h ≡ g) × (q ≡ p)) ⊎ ((text : List ℕ) × ChangesKey own e g p text h q)

  -- The step of a line, from a gate and the puts that a pass has read to those after it, and its text.
  abbrev pub Does : TableValue → Result OperatorCommand Fault → SeatValue → List Put → List ℕ → SeatValue → List Put → Type 0
  Does opening (Ok (Show view)) g p text h q =
      (h ≡ g) × StartsWith q p × (text ≡ table_lines (with_puts opening q) view)
  Does opening (Ok (Set key value)) g p text h q = Changes opening.own (event.Set key value) g p text h q
  Does opening (Ok (Remove key)) g p text h q = Changes opening.own (event.Remove key) g p text h q
  Does opening (Ok Quit) g p text h q = ⊥
  Does opening (Err f) g p text h q = (h ≡ g) × (q ≡ p) × (text ≡ fault_text f)

  -- A line is answered with its text, or is the one that requests the end.
  abbrev pub AnswersLine : TableValue → Result OperatorCommand Fault → SeatValue → List Put → Option (List ℕ) → SeatValue
      → List Put → Type 0
  AnswersLine opening command g p None h q = (command ≡ Ok Quit) × (h ≡ g) × (q ≡ p)
  AnswersLine opening command g p (Some text) h q = Does opening command g p text h q

  -- Memory ran out in a line, which did nothing but its one change. Where it shows the table, its pass may have read on.
  abbrev pub RunsOut : TableValue → Result OperatorCommand Fault → SeatValue → List Put → SeatValue → List Put → Type 0
  RunsOut opening (Ok (Show view)) g p h q = (h ≡ g) × StartsWith q p
  RunsOut opening (Ok (Set key value)) g p h q = ChangeRunsOut opening.own (event.Set key value) g p h q
  RunsOut opening (Ok (Remove key)) g p h q = ChangeRunsOut opening.own (event.Remove key) g p h q
  RunsOut opening (Ok Quit) g p h q = (h ≡ g) × (q ≡ p)
  RunsOut opening (Err f) g p h q = (h ≡ g) × (q ≡ p)

  -- A line is not answered: memory ran out, or it is to show the table and there is nothing to read.
  abbrev pub Unanswered : TableValue → Result OperatorCommand Fault → SeatValue → List Put → SeatValue → List Put → Fault
      → Type 0
  Unanswered opening command g p h q f =
      ((f ≡ OutOfMemory) × RunsOut opening command g p h q)
      ⊎ ((view : View) × (command ≡ Ok (Show view)) × (f ≡ NoSuchNode) × (h ≡ g) × (q ≡ p))
