-- Tables of nodes that run fit into one table.
use Rattle.std.proofs.Common.{◌≡◌, ◌≤◌, ℕ, Bool, List, length, Result, Ok, Err, refl, ap, subst, arith}
use Rattle.std.specs.Prelude.{◌↔◌, IsTrue, IfOk, map as map_list}
use Rattle.std.proofs.lemmas.Bool.{le-ltb}
use Rattle.cg_types.specs.declared.fault.Fault.{Fault}
use Rattle.cg_types.specs.Answer.{Answers}
use Rattle.cg_types.specs.declared.limits.TheConstants.{MEMBER_LIMIT}
use Rattle.cg_core.specs.SettingsValues.{SettingsValue}
use Rattle.cg_core.specs.Values.{NodeValue}
use Rattle.cg_table.specs.Values.{TableValue}
use Rattle.cg_table.specs.Table.{digests_of}
use Rattle.cg_tokens.specs.Ring.{ring}
use Rattle.cg_table.specs.Merge.{merge_of, merging, owners_together}
use Rattle.cg_places.specs.PlaceWorld.{PlaceAction, PlaceWorld, nobody, world_after}
use Rattle.cg_places.specs.Refusals.{done_from}
use Rattle.cg_places.specs.Join.{join}
use Rattle.cg_world.specs.Merging.{merged_three, FitTogether, IsJoinIn, TellsOfNodes}
use Rattle.cg_world.specs.declared.action.Action.{Action}
use Rattle.cg_world.specs.World.{WorldValue, run, plain_action}
use Rattle.cg_world.specs.Terms.{Runs}
use Rattle.cg_world.specs.WorldLaws.{IsReached}
use Rattle.cg_places.proofs.ListLemmas.{all_done}
use Rattle.cg_places.proofs.PlaceLaws.{done_actions_keep_limits}
use Rattle.cg_places.proofs.TableLaws.{two_joined, tables_find_room}
use Rattle.cg_world.proofs.WorldLaws.{spelled, merges_of_nodes_are_the_join, equal_digests_give_equal_tables}

-- the merge of two tables with room for both
pub merge_done : (one other : TableValue) → owners_together one.entries other.entries ≤ MEMBER_LIMIT → merging one other ≡ Ok (record { own = one.own; entries = merge_of one.entries other.entries })
merge_done one other room = rw (le-ltb MEMBER_LIMIT (owners_together one.entries other.entries) room) refl

pub same_answer : (x y : TableValue) → ◌≡◌ {A = Result TableValue Fault} (Ok x) (Ok y) → x ≡ y
same_answer x y is = cc

-- a property of the expected answer is one of the answer
pub if_answered : (P : TableValue → Type 0) (t : TableValue) (r : Result TableValue Fault) → Answers (λ t. t) (Ok t) r → P t → IfOk r P
if_answered P t (Ok x) is p = subst P (same_answer t x is) p
if_answered P t (Err f) is p = tt

-- Three nodes' tables fit into one, which is the join.
pub record FindTheJoin (c : WorldValue) (x y z : ℕ) (one two three : NodeValue) : Type 0 where
  pub fit : FitTogether one.table two.table three.table
  pub join : IsJoinIn c x y z (merged_three one.table two.table three.table)

module _ (settings : SettingsValue) (actions : List Action) (x y z : ℕ) (one two three : NodeValue)
    (rx : Runs (run settings actions) x one) (ry : Runs (run settings actions) y two) (rz : Runs (run settings actions) z three) where
  abbrev done : List PlaceAction
  done = done_from nobody (map_list plain_action actions)

  few : length (world_after done).owners ≤ MEMBER_LIMIT
  few = (done_actions_keep_limits done (all_done nobody (map_list plain_action actions))).owners

  first_room : owners_together one.table.entries two.table.entries ≤ MEMBER_LIMIT
  first_room =
      let w : PlaceWorld = world_after done in
      let room = (tables_find_room done).merges one.table.entries two.table.entries (w.places x) (w.places y) (spelled settings actions x one rx) (spelled settings actions y two ry) in
      omega (arith, room, few)

  second_room : owners_together (merge_of one.table.entries two.table.entries) three.table.entries ≤ MEMBER_LIMIT
  second_room =
      let w : PlaceWorld = world_after done in
      let both = two_joined done x y one.table.entries two.table.entries (spelled settings actions x one rx) (spelled settings actions y two ry) in
      let room = (tables_find_room done).merges (merge_of one.table.entries two.table.entries) three.table.entries (join (w.places x) (w.places y)) (w.places z) both (spelled settings actions z three rz) in
      omega (arith, room, few)

-- three nodes of a world that is reached
pub find_the_join : (c : WorldValue) → IsReached c → (x y z : ℕ) (one two three : NodeValue) → Runs c x one → Runs c y two → Runs c z three → FindTheJoin c x y z one two three
find_the_join c r x y z one two three rx ry rz =
    let runs_x : Runs (run c.settings r.actions) x one = subst (λ d. Runs d x one) r.is rx in
    let runs_y : Runs (run c.settings r.actions) y two = subst (λ d. Runs d y two) r.is ry in
    let runs_z : Runs (run c.settings r.actions) z three = subst (λ d. Runs d z three) r.is rz in
    record {
      fit = record {
        both = first_room c.settings r.actions x y z one two three runs_x runs_y runs_z;
        all = second_room c.settings r.actions x y z one two three runs_x runs_y runs_z;
      };
      join = record {
        reached = r;
        join = λ actions is. merges_of_nodes_are_the_join c.settings actions x y z one two three
            (subst (λ d. Runs d x one) is rx) (subst (λ d. Runs d y two) is ry) (subst (λ d. Runs d z three) is rz);
      };
    }

-- ---- tables compared

pub tells_equal : (c : WorldValue) → IsReached c → (x y : ℕ) (one other : NodeValue) → Runs c x one → Runs c y other → (same : Bool) → IsTrue same ↔ (one.table.entries ≡ other.table.entries) → TellsOfNodes c x y same
tells_equal c r x y one other rx ry same entries =
    let runs_x : Runs (run c.settings r.actions) x one = subst (λ d. Runs d x one) r.is rx in
    let runs_y : Runs (run c.settings r.actions) y other = subst (λ d. Runs d y other) r.is ry in
    record {
      one = one;
      other = other;
      runs_one = rx;
      runs_other = ry;
      tells = record {
        digests = (λ t. ap digests_of (entries.0 t), λ d. entries.1 (equal_digests_give_equal_tables c.settings r.actions x y one other runs_x runs_y d).entries);
        entries = entries;
        rings = λ t. ap ring (entries.0 t);
      };
    }
