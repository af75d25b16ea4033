-- The runs and the lives of a node that runs until it is stopped.
use Rattle.std.specs.Prelude.{◌≡◌, ◌⊎◌, ◌||◌, not, ℕ, Bool, List, Option, None, Some, Ok, if◌then◌else◌}
use Rattle.std.specs.List.{All, sum_by}
use mathlib.Core.List.{IsPrefix}
use Rattle.cg_types.specs.declared.fault.Fault.{Fault}
use Rattle.cg_types.specs.declared.fault.Fault.TheVariants as fault
use Rattle.cg_core.specs.Values.{NodeValue}
use Rattle.cg_core.specs.Step.{starting_node}
use Rattle.cg_history.specs.declared.item.Item.{Item}
use Rattle.cg_history.specs.History.{HistoryValue, IsFoldOf, count_of}
use Rattle.cg_links.specs.Counted.{link_of}
use Rattle.cg_locked.specs.Seat.{SeatState}
use Rattle.cg_settings_file.specs.Agent.{AgentValue}
use Rattle.cg_write_ahead.specs.declared.journaled.Ended.{Ended}
use Rattle.cg_write_ahead.specs.Text.{AlwaysTells, HoldsText}
use Rattle.cg_host.specs.Disk.{Call}
use Rattle.cg_host.specs.Kept.{Advances, IsUnkept}
use Rattle.cg_host.specs.AgentKept.{AgentSettles, AgentUnsettled}

-- The history began at this start. It counted as many records as the seats of its workers, each of which was left by
-- such work. It is a fold of records that begin with all that each seat has seen, and whose text the journal's writer
-- holds, if it tells what it holds.
pub record IsRunOf {W : Type 0} (contents : W → Option (List ℕ)) (start : NodeValue) (worked : SeatState → Type 0)
    (e : Ended W) : Type 0 where
  pub starts : e.history.start ≡ start
  pub seats : List SeatState
  pub work : All worked seats
  pub counted : count_of e.history ≡ sum_by (λ s. s.amount) seats
  pub all : List Item
  pub fold : IsFoldOf all e.history
  pub seen : All (λ s. IsPrefix s.seen all) seats
  pub text : AlwaysTells contents → HoldsText start all e.torn (contents (link_of e.sink))

-- the fault by which a node ended that ran: by whether its journal is torn, whether that was synced, and whether no
-- further connection came
abbrev pub fault_after : Bool → Bool → Bool → Option Fault
fault_after torn synced deaf =
    if torn || not synced then Some fault.WriteFault else if deaf then Some fault.ReadFault else None

abbrev pub status_after : Option Fault → ℕ
status_after None = 0
status_after (Some f) = 1

-- ---- a life, by the calls of a disk that were made, and the bytes that an open file has left or holds

module _ {F : Type 0} (did : Call F → Type 0) (remaining contents : F → Option (List ℕ)) (file : List ℕ) where
  -- The file held settings, and a generation was stored for a node by them.
  pub record IsBorn (start : NodeValue) : Type 0 where
    pub told : AgentValue
    pub are_told : AgentSettles did remaining file told
    pub generation : ℕ
    pub kept : Advances did remaining contents told.generation_file (Ok generation)
    pub is : start ≡ starting_node told.listen generation told.node

  -- The history is of a node by the file's settings, in the generation that was stored for it.
  pub record IsLived (h : HistoryValue) : Type 0 where
    pub born : IsBorn h.start

  -- There are settings, and no generation could be stored.
  pub record IsUnborn (f : Fault) : Type 0 where
    pub told : AgentValue
    pub are_told : AgentSettles did remaining file told
    pub caused : IsUnkept did remaining contents told.generation_file f

  -- The file holds no settings, no generation could be stored, or a node by them did not run.
  abbrev pub IsUnlived : Fault → Type 0
  IsUnlived f =
      ((key : Option (List ℕ)) × AgentUnsettled did remaining file f key)
      ⊎ (IsUnborn f ⊎ ((start : NodeValue) × IsBorn start))

  -- The status is 0 only after a life that was lived, and else 1.
  abbrev pub AgentLives : ℕ → Type 0
  AgentLives status =
      ((status ≡ 0) × ((h : HistoryValue) × IsLived h))
      ⊎ ((status ≡ 1) × (((h : HistoryValue) × IsLived h) ⊎ ((f : Fault) × IsUnlived f)))
