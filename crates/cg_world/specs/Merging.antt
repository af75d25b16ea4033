-- The tables of nodes that run, merged and compared.
use Rattle.std.specs.Prelude.{ℕ, ◌≡◌, ◌≤◌, ◌↔◌, Bool, IsTrue, List, Option, Some, None, Result, Ok, Err}
use Rattle.std.specs.FinMap as map
use Rattle.cg_types.specs.declared.fault.Fault.{Fault}
use Rattle.cg_types.specs.declared.fault.Fault.TheVariants.{NoSuchNode}
use Rattle.cg_core.specs.Values.{NodeValue}
use Rattle.cg_table.specs.Values.{TableValue, Entries}
use Rattle.cg_table.specs.Table.{digests_of}
use Rattle.cg_tokens.specs.Ring.{ring}
use Rattle.cg_world.specs.Terms.{Runs}
use Rattle.cg_world.specs.WorldLaws.{IsReached}
use Rattle.cg_table.specs.Merge.{merge_of, owners_together}
use Rattle.cg_types.specs.declared.limits.TheConstants.{MEMBER_LIMIT}
use Rattle.cg_places.specs.TableLaws.{IsMergedOf}
use Rattle.cg_world.specs.declared.action.Action.{Action}
use Rattle.cg_world.specs.World.{WorldValue, run, place_world}

-- a computation with a node that runs; NoSuchNode if it does not run
abbrev pub of_node : {X : Type 0} → Option NodeValue → (NodeValue → Result X Fault) → Result X Fault
of_node None go = Err NoSuchNode
of_node (Some n) go = go n

-- the first table, with the entries of all three merged
abbrev pub merged_three : TableValue → TableValue → TableValue → TableValue
merged_three one two three =
    record { own = one.own; entries = merge_of (merge_of one.entries two.entries) three.entries }

-- A table has room for the owners of all three.
pub record FitTogether (one two three : TableValue) : Type 0 where
  pub both : owners_together one.entries two.entries ≤ MEMBER_LIMIT
  pub all : owners_together (merge_of one.entries two.entries) three.entries ≤ MEMBER_LIMIT

-- the merged tables of three nodes
abbrev pub merging_nodes : WorldValue → ℕ → ℕ → ℕ → Result TableValue Fault
merging_nodes c x y z =
    of_node (map.get c.nodes x) (λ one. of_node (map.get c.nodes y) (λ two. of_node (map.get c.nodes z)
    (λ three. Ok (merged_three one.table two.table three.table))))

-- The table is the join of what three nodes of a world hold, whatever list of actions leads to the world.
pub record IsJoinIn (c : WorldValue) (x y z : ℕ) (t : TableValue) : Type 0 where
  pub reached : IsReached c
  pub join : (actions : List Action) → c ≡ run c.settings actions → IsMergedOf (place_world actions) x y z t.entries

-- ---- tables compared

-- The flag says if the digests of two tables are equal, which they are exactly if the entries are. Then the rings are
-- equal too.
pub record TellsEqual (same : Bool) (one other : Entries) : Type 0 where
  pub digests : IsTrue same ↔ (digests_of one ≡ digests_of other)
  pub entries : IsTrue same ↔ (one ≡ other)
  pub rings : IsTrue same → ring one ≡ ring other

-- Both nodes run, and the flag says this of their tables.
pub record TellsOfNodes (c : WorldValue) (x y : ℕ) (same : Bool) : Type 0 where
  pub one : NodeValue
  pub other : NodeValue
  pub runs_one : Runs c x one
  pub runs_other : Runs c y other
  pub tells : TellsEqual same one.table.entries other.table.entries
