-- The work of an operator's lines, by the gate of a seat.
use Rattle.std.specs.Prelude.{◌≡◌, ◌⊎◌, ℕ, List, Option, Ok}
use Rattle.cg_types.specs.declared.fault.Fault.{Fault}
use Rattle.cg_core.specs.Values.{NodeValue}
use Rattle.cg_core.specs.declared.event.Event.TheVariants as event
use Rattle.cg_operator.specs.declared.command.OperatorCommand.{OperatorCommand}
use Rattle.cg_operator.specs.declared.command.OperatorCommand.TheVariants.{Set, Remove}
use Rattle.cg_operator.specs.Commands.{command_in}
use Rattle.cg_workers.specs.Each.{Each}
use Rattle.cg_ahead_seats.specs.Gates.{AheadValue}
pub use Rattle.cg_web.specs.Changes.{fault_told, Changed}

module _ (start : NodeValue) (own : ℕ) where
  -- A command that changes a key is done by its event; no other does anything.
  abbrev pub Obeyed : OperatorCommand → Option Fault → AheadValue → AheadValue → Type 0
  Obeyed (Set key text) told g h = Changed start own (event.Set key text) told g h
  Obeyed (Remove key) told g h = Changed start own (event.Remove key) told g h
  Obeyed command told g h = h ≡ g

  -- The line has this command, which was done; or memory ran out before, or the line has none, and nothing was done.
  abbrev pub DoneLine : List ℕ → AheadValue → AheadValue → Type 0
  DoneLine line g h =
      (h ≡ g) ⊎ ((command : OperatorCommand) × (command_in line ≡ Ok command)
      × ((told : Option Fault) × Obeyed command told g h))

  -- lines were done, one after the other
  abbrev pub DoneLines : AheadValue → AheadValue → Type 0
  DoneLines g h = (lines : List (List ℕ)) × Each DoneLine lines g h
