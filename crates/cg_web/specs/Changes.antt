-- Changes of a key, by the gate of a seat.
use Rattle.std.specs.Prelude.{ℕ, ◌≡◌, ◌⊎◌, List, Option, None, Some, Result, Ok, Err}
use Rattle.cg_types.specs.declared.fault.Fault.{Fault}
use Rattle.cg_table.specs.Puts.{Put}
use Rattle.cg_core.specs.Values.{NodeValue}
use Rattle.cg_core.specs.declared.event.Event.{Event}
use Rattle.cg_core.specs.declared.reply.Reply.{Reply}
use Rattle.cg_core.specs.declared.reply.Reply.TheVariants as reply
use Rattle.cg_operator.specs.Doing.{TellsChange}
use Rattle.cg_ahead_seats.specs.Gates.{AheadValue, Enters, Stays, with_told}

-- the fault that is told, if one is
abbrev pub fault_told : {X : Type 0} → Result X Fault → Option Fault
fault_told (Ok text) = None
fault_told (Err f) = Some f

module _ (start : NodeValue) (own : ℕ) where
  -- The event was entered, and its told handed over.
  abbrev pub Entered : Event → AheadValue → AheadValue → Type 0
  Entered e g h = (answer : Reply) × (u : AheadValue) × Enters start own g e answer u × (h ≡ with_told u None)

  -- It was; or a fault is told: it was refused, or memory ran out after it.
  abbrev pub Changed : Event → Option Fault → AheadValue → AheadValue → Type 0
  Changed e None g h = Entered e g h
  Changed e (Some f) g h = Stays g h ⊎ Entered e g h

  -- The event was entered, its told handed over, and the text is that of its version. The pass has learnt what was told.
  pub record TellsEntered (e : Event) (g : AheadValue) (p : List Put) (text : List ℕ) (h : AheadValue) (q : List Put)
      : Type 0 where
    pub version : ℕ
    pub between : AheadValue
    pub entered : Enters start own g e (reply.Done version) between
    pub handed : h ≡ with_told between None
    pub tells : TellsChange version between.told p q text
