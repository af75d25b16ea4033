-- Properties of the nodes that run after a list of actions, by the places of these. The headline says what is so of
-- nodes, replies and messages.
use Rattle.std.specs.Prelude.{ℕ, ◌≡◌, ◌++◌, List}
use Rattle.cg_core.specs.SettingsValues.{SettingsValue}
use Rattle.cg_core.specs.Values.{NodeValue}
use Rattle.cg_places.specs.Join.{sources, SamePlaces}
use Rattle.cg_places.specs.TableLaws.{IsJoined}
use Rattle.cg_world.specs.World.{Action, WorldValue, run, place_world}
use Rattle.cg_world.specs.Terms.{Runs, AreEqual}
use Rattle.cg_world.specs.WorldLaws.{IsReached, SpellsWorld}
use Rattle.cg_world.specs.Taken.{IsTold}
use Rattle.cg_world.specs.Headline.{Headline}

pub record IsConsistent (settings : SettingsValue) (actions : List Action) (c : WorldValue) : Type 0 where
  -- the actions lead here
  pub led : c ≡ run settings actions
  -- the nodes hold and have sent what the places of the actions say: so each action that may be done is done, and each
  -- node's table is that of its own endpoint
  pub spelled : SpellsWorld c (place_world actions)
  -- the changes by places of what a node took are those that the node's replies report
  pub told : (earlier later : List Action) → earlier ++ later ≡ actions → IsTold settings earlier
  -- each node's table is the join of its own newest entry and of those to which the deltas led that it took
  pub joined : (node : ℕ) (n : NodeValue) → Runs c node n → IsJoined (place_world actions) node n.table.entries
  -- nodes that took the same have equal tables and rings
  pub equal_sets : (a b : ℕ) (one other : NodeValue) → Runs c a one → Runs c b other
      → ((owner : ℕ) → SamePlaces (sources (place_world actions) a owner) (sources (place_world actions) b owner))
      → AreEqual one.table.entries other.table.entries

-- A world is one that some actions lead to. After each list of actions that leads to it the headline holds of these,
-- and it is consistent.
pub record IsConsistentWorld (c : WorldValue) : Type 0 where
  pub reached : IsReached c
  pub headline : (actions : List Action) → c ≡ run c.settings actions → Headline c.settings actions c
  pub consistent : (actions : List Action) → c ≡ run c.settings actions → IsConsistent c.settings actions c
