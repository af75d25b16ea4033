-- A run worked by hand.
use Rattle.std.specs.Prelude.{◌≡◌, true, List, [], ◌∷◌, length, Some, is_some, Ok, Err}
use Rattle.std.specs.FinMap as map
use Rattle.cg_types.specs.Answer.{fault_of}
use Rattle.cg_types.specs.declared.fault.Fault.TheVariants.{OutOfMemory, NotRising, NoSuchMessage, NoSuchNode}
use Rattle.cg_entry.specs.Entry.{starting_entry}
use Rattle.cg_core.specs.SettingsValues.{SettingsValue}
use Rattle.cg_core.specs.Values.{NodeValue}
use Rattle.cg_places.specs.PlaceWorld.{world_after}
use Rattle.cg_places.specs.WorkedPlaces.{first_exchange}
use Rattle.cg_world.specs.declared.world.Shown.{Shown}
use Rattle.cg_world.specs.Acting.{Ran}
use Rattle.cg_world.specs.World.{Action, Start, Local, Opening, Deliver, WorldValue, new_world, run, acting, place_world}
use Rattle.cg_world.specs.Terms.{Runs}

-- the first exchange, on nodes that run
abbrev pub worked_exchange : List Action
worked_exchange = Start 1 9 ∷ Start 2 5 ∷ Local 1 Opening ∷ Deliver 1 2 100 ∷ Deliver 2 1 200 ∷ Deliver 3 2 300 ∷ []

pub record WorkedRun (settings : SettingsValue) : Type 0 where
  -- none of its actions is refused
  pub all_done : place_world worked_exchange ≡ world_after first_exchange
  pub three_messages : length (run settings worked_exchange).sent ≡ 3
  -- both nodes run, and each holds the other's entry
  pub opener_runs : is_some (map.get (run settings worked_exchange).nodes 1) ≡ true
  pub answerer_runs : is_some (map.get (run settings worked_exchange).nodes 2) ≡ true
  pub opener : (n : NodeValue)
      → Runs (run settings worked_exchange) 1 n → map.get n.table.entries 2 ≡ Some (starting_entry 5)
  pub answerer : (n : NodeValue) → Runs (run settings worked_exchange) 2 n
      → map.get n.table.entries 1 ≡ Some (starting_entry 9)
  -- a start that does not rise, a message that was never sent, and a node that does not run
  pub not_rising : fault_of (acting (run settings worked_exchange) (Start 2 5)) ≡ Some NotRising
  pub no_message : fault_of (acting (run settings worked_exchange) (Deliver 99 7 400)) ≡ Some NoSuchMessage
  pub no_node : fault_of (acting (run settings worked_exchange) (Deliver 1 7 400)) ≡ Some NoSuchNode
  -- a run whose third action finds no memory keeps the world after two
  pub short : (first second third : Action) (one two : Shown) (c : WorldValue)
      → Ran (new_world settings) (first ∷ second ∷ third ∷ []) (Ok one ∷ Ok two ∷ Err OutOfMemory ∷ []) c
      → c ≡ run settings (first ∷ second ∷ [])

abbrev pub WorkedRuns : Type 0
WorkedRuns = (settings : SettingsValue) → WorkedRun settings
