-- The outcome of an event at a board that writes its journal ahead.
use Rattle.std.specs.Prelude.{◌≡◌, ◌⊎◌, List, [], ◌∷◌, ◌++◌, Result, Ok, Err}
use Rattle.cg_types.specs.declared.fault.Fault.{Fault}
use Rattle.cg_types.specs.declared.fault.Fault.TheVariants.{OutOfMemory, WriteFault}
use Rattle.cg_core.specs.declared.event.Event.{Event}
use Rattle.cg_core.specs.declared.reply.Reply.{Reply}
use Rattle.cg_core.specs.Values.{NodeValue}
use Rattle.cg_history.specs.declared.item.Item.{Item}
use Rattle.cg_locked.specs.Seat.{SeatState}
use Rattle.cg_locked.specs.Entry.{Answer, IsEntered}

-- The event was entered as a board enters it, or refused as a board refuses it; or memory was short before it was
-- entered, or the journal could not be written.
abbrev pub IsEntryAhead : NodeValue → SeatState → Event → List Item → Result Answer Fault → Type 0
IsEntryAhead start seat e seen (Ok answer) = IsEntered start seat e seen (Ok answer)
IsEntryAhead start seat e seen (Err fault) =
    (fault ≡ OutOfMemory) ⊎ ((fault ≡ WriteFault) ⊎ IsEntered start seat e seen (Err fault))

-- The new records are the old ones, and one of the event and the reply.
pub record IsOneMore (e : Event) (answer : Reply) (old new : List Item) : Type 0 where
  pub item : Item
  pub are : new ≡ old ++ item ∷ []
  pub event : item.event ≡ e
  pub reply : item.reply ≡ answer
