-- The headline: properties of the nodes of a cluster after any list of starts, local changes, openings, ticks and
-- deliveries, with any messages lost, repeated and reordered. A refused action changes nothing.
use Rattle.std.specs.Prelude.{ℕ, ◌≡◌, ◌↔◌, ◌==◌, ◌&&◌, ◌++◌, IsTrue, IsOk, IsSome, is_ok, List, [], ◌∷◌, All, Some, if◌then◌else◌}
use Rattle.std.specs.List.{Contains}
use Rattle.std.specs.FinMap as map
use Rattle.cg_entry.specs.Values.{EntryValue}
use Rattle.cg_table.specs.Own.{own_entry}
use Rattle.cg_table.specs.Table.{digests_of}
use Rattle.cg_messages.specs.declared.outcome.Outcome.{Outcome}
use Rattle.cg_messages.specs.declared.owner_delta.OwnerDelta.{OwnerDelta}
use Rattle.cg_core.specs.SettingsValues.{SettingsValue}
use Rattle.cg_core.specs.Values.{NodeValue}
use Rattle.cg_world.specs.World.{Action, Start, Local, Deliver, WorldValue, new_world, acting, act, run}
use Rattle.cg_world.specs.Terms.{Runs, own_at, own_after, WasOwn, AreEqual, delta_sent, outcome_told, is_gap, Mark, mark_of, HasGreatest, LiesPast, with_delta}

-- The marks of the deltas of an owner that were handed to a node since its start and were no gap, with what one action
-- brings; a start that is done forgets all.
abbrev pub with_action : WorldValue → ℕ → ℕ → List Mark → Action → List Mark
with_action c node owner marks (Start other generation) =
    if other == node && is_ok (acting c (Start other generation)) then [] else marks
with_action c node owner marks (Local other change) = marks
with_action c node owner marks (Deliver number to now) =
    if to == node then with_delta marks (outcome_told c number to now owner) (delta_sent c number owner) else marks

abbrev pub took_from : WorldValue → ℕ → ℕ → List Mark → List Action → List Mark
took_from c node owner marks [] = marks
took_from c node owner marks (action ∷ actions) =
    took_from (act c action) node owner (with_action c node owner marks action) actions

-- ---- after a list of actions

module _ (settings : SettingsValue) (actions : List Action) where
  -- the marks of an owner at a node: its own entry's mark, if it is the owner, and those that it took since its start
  abbrev pub marks_of : ℕ → NodeValue → ℕ → List Mark
  marks_of node n owner =
      if owner == node then mark_of (own_entry n.table) ∷ took_from (new_world settings) node owner [] actions
      else took_from (new_world settings) node owner [] actions

  -- After some of the first actions this was the owner's own entry.
  abbrev pub Was : ℕ → EntryValue → Type 0
  Was owner entry = WasOwn (new_world settings) actions owner entry

  -- Such an entry has this mark.
  abbrev pub IsMarked : ℕ → Mark → Type 0
  IsMarked owner mark = (entry : EntryValue) × Was owner entry × (mark_of entry ≡ mark)

  -- nodes with the same of every owner
  abbrev pub SameMarks : ℕ → NodeValue → ℕ → NodeValue → Type 0
  SameMarks a one b other =
      (owner : ℕ) (mark : Mark) → Contains (marks_of a one owner) mark ↔ Contains (marks_of b other owner) mark

  pub record Headline (c : WorldValue) : Type 0 where
    -- an action that is done starts its node's own entry, beats it, sets or removes one of its keys, or leaves it, and
    -- leaves all others
    pub own : (earlier later : List Action) (action : Action) → earlier ++ action ∷ later ≡ actions
        → IsOk (acting (run settings earlier) action) → (node : ℕ)
        → own_at (act (run settings earlier) action) node ≡ own_after action node (own_at (run settings earlier) node)
    -- each table is the join of the node's own entry and the deltas that it took: it holds the furthest of each owner
    pub joined : (node : ℕ) (n : NodeValue) → Runs c node n
        → (owner : ℕ) → HasGreatest (map.get n.table.entries owner) (marks_of node n owner)
    -- each delta of a message that was sent is told of by the node that it is handed to
    pub told : (earlier later : List Action) → earlier ++ later ≡ actions → (number node now owner : ℕ) (n : NodeValue)
        → Runs (run settings earlier) node n → (d : OwnerDelta)
        → delta_sent (run settings earlier) number owner ≡ Some d
        → IsSome (outcome_told (run settings earlier) number node now owner)
    -- it is left out, as a gap, exactly if it lies past what the node then held
    pub gaps : (earlier later : List Action) → earlier ++ later ≡ actions → (number node now owner : ℕ) (n : NodeValue)
        → Runs (run settings earlier) node n → (outcome : Outcome) (d : OwnerDelta)
        → outcome_told (run settings earlier) number node now owner ≡ Some outcome
        → delta_sent (run settings earlier) number owner ≡ Some d
        → IsTrue (is_gap outcome.took) ↔ LiesPast d.delta (map.get n.table.entries owner)
    -- each entry in it was its owner's own, whole, at one past time
    pub whole : (node : ℕ) (n : NodeValue) → Runs c node n
        → (owner : ℕ) (entry : EntryValue) → map.get n.table.entries owner ≡ Some entry → Was owner entry
    -- so was the entry that each delta led to, and a mark names one entry of its owner
    pub marked : (node : ℕ) (n : NodeValue) → Runs c node n → (owner : ℕ) → All (IsMarked owner) (marks_of node n owner)
    pub named : (owner : ℕ) (x y : EntryValue) → Was owner x → Was owner y → mark_of x ≡ mark_of y → x ≡ y
    -- so nodes that took the same have equal tables and rings
    pub equal_sets : (a b : ℕ) (one other : NodeValue) → Runs c a one → Runs c b other
        → SameMarks a one b other → AreEqual one.table.entries other.table.entries
    -- and so have nodes with equal digests
    pub equal_digests : (a b : ℕ) (one other : NodeValue) → Runs c a one → Runs c b other
        → digests_of one.table.entries ≡ digests_of other.table.entries → AreEqual one.table.entries other.table.entries

-- The headline holds after every list of actions.
abbrev pub HeadlineHolds : Type 0
HeadlineHolds = (settings : SettingsValue) (actions : List Action) → Headline settings actions (run settings actions)
