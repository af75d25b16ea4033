-- The headline of lives that are one run: the tables at the end of each endpoint's last life. It is stated by the marks
-- of entries and deltas, as the headline of a world is.
use Rattle.std.specs.Prelude.{ℕ, ◌≡◌, ◌↔◌, ◌⊎◌, ◌==◌, ◌++◌, IsTrue, List, [], ◌∷◌, All, Option, Some, None, if◌then◌else◌}
use Rattle.std.specs.List.{AllByRecursion, Contains}
use Rattle.std.specs.Option.{option_and_then}
use Rattle.std.specs.FinMap as map
use Rattle.cg_entry.specs.Values.{EntryValue}
use Rattle.cg_table.specs.Own.{own_entry}
use Rattle.cg_table.specs.Table.{digests_of}
use Rattle.cg_messages.specs.declared.outcome.Outcome.{Outcome}
use Rattle.cg_messages.specs.declared.owner_delta.OwnerDelta.{OwnerDelta}
use Rattle.cg_places.specs.MessageSpelling.{delta_about, outcome_about}
use Rattle.cg_core.specs.declared.event.Event.{Event}
use Rattle.cg_core.specs.Values.{NodeValue}
use Rattle.cg_core.specs.Replies.{outcomes_in}
use Rattle.cg_places.specs.Step.{handed_message}
use Rattle.cg_world.specs.Terms.{AreEqual, deltas_in, is_gap, Mark, mark_of, HasGreatest, LiesPast, with_delta}
use Rattle.cg_history.specs.declared.item.Item.{Item}
use Rattle.cg_history.specs.History.{HistoryValue, Replays}
use Rattle.cg_audit.specs.Items.{RunItem, LivesValue, AreLives, AreWhole}
use Rattle.cg_audit.specs.OneRun.{IsOneRun}

-- ---- lives

-- the histories of an endpoint, which may have none
abbrev pub histories_at : List LivesValue → ℕ → List HistoryValue
histories_at [] endpoint = []
histories_at (l ∷ ls) endpoint = if l.endpoint == endpoint then l.histories else histories_at ls endpoint

-- the last of some histories, or else this one
abbrev pub last_or : Option HistoryValue → List HistoryValue → Option HistoryValue
last_or before [] = before
last_or before (h ∷ hs) = last_or (Some h) hs

-- The endpoint's last life is this history.
abbrev pub EndsWith : List LivesValue → ℕ → HistoryValue → Type 0
EndsWith lives endpoint h = last_or None (histories_at lives endpoint) ≡ Some h

-- ---- deltas that a life took

-- the delta about an owner that an event hands over, if it hands one over
abbrev pub delta_handed : ℕ → Event → Option OwnerDelta
delta_handed owner e = option_and_then (λ m. delta_about owner (deltas_in m)) (handed_message e)

-- the marks of an owner that a node took: those of the deltas in its records that were no gap
abbrev pub took_from : ℕ → List Mark → List Item → List Mark
took_from owner marks [] = marks
took_from owner marks (r ∷ rs) =
    took_from owner (with_delta marks (outcome_about owner (outcomes_in r.reply)) (delta_handed owner r.event)) rs

-- the marks of an owner that a life has at its end: its own entry's, if it is the owner's, and those that it took
abbrev pub marks_of : ℕ → HistoryValue → ℕ → List Mark
marks_of endpoint h owner =
    if owner == endpoint then mark_of (own_entry h.node.table) ∷ took_from owner [] h.records
    else took_from owner [] h.records

-- In the records after this node, a delta is a gap exactly if it lies past what the node then held.
abbrev pub GapsLiePast : NodeValue → List Item → Type 0
GapsLiePast begun records =
    (earlier : List Item) (r : Item) (later : List Item) (n : NodeValue) → earlier ++ r ∷ later ≡ records
    → Replays begun earlier n → (owner : ℕ) (outcome : Outcome) (d : OwnerDelta)
    → outcome_about owner (outcomes_in r.reply) ≡ Some outcome → delta_handed owner r.event ≡ Some d
    → IsTrue (is_gap outcome.took) ↔ LiesPast d.delta (map.get n.table.entries owner)

-- The same is true in each of these histories.
abbrev pub AllGapsLiePast : List HistoryValue → Type 0
AllGapsLiePast histories = AllByRecursion (λ (h : HistoryValue). GapsLiePast h.base h.records) histories

-- ---- own entries of owners

-- After some of the first of these records, which follow this node, the entry was its own.
pub record WasOwnFrom (begun : NodeValue) (records : List Item) (entry : EntryValue) : Type 0 where
  pub earlier : List Item
  pub later : List Item
  pub in_order : earlier ++ later ≡ records
  pub node : NodeValue
  pub leads : Replays begun earlier node
  pub own : own_entry node.table ≡ entry

-- The entry was its own in one of these histories.
abbrev pub WasOwnIn : List HistoryValue → EntryValue → Type 0
WasOwnIn [] entry = ⊥
WasOwnIn (h ∷ hs) entry = WasOwnFrom h.base h.records entry ⊎ WasOwnIn hs entry

-- ---- the headline

module _ (lives : List LivesValue) where
  -- At one time of one of its lives this was the owner's own entry.
  abbrev pub Was : ℕ → EntryValue → Type 0
  Was owner entry = WasOwnIn (histories_at lives owner) entry

  -- Such an entry has this mark.
  abbrev pub IsMarked : ℕ → Mark → Type 0
  IsMarked owner mark = (entry : EntryValue) × Was owner entry × (mark_of entry ≡ mark)

  -- lives with the same marks of every owner
  abbrev pub SameMarks : ℕ → HistoryValue → ℕ → HistoryValue → Type 0
  SameMarks a one b other =
      (owner : ℕ) (mark : Mark) → Contains (marks_of a one owner) mark ↔ Contains (marks_of b other owner) mark

  pub record RunHeadline : Type 0 where
    -- each table is the join of the node's own entry and the deltas that it took: it holds the furthest of each owner
    pub joined : (endpoint : ℕ) (h : HistoryValue) → EndsWith lives endpoint h
        → (owner : ℕ) → HasGreatest (map.get h.node.table.entries owner) (marks_of endpoint h owner)
    -- a delta is left out, as a gap, exactly if it lies past what the node then held
    pub gaps : (endpoint : ℕ) → AllGapsLiePast (histories_at lives endpoint)
    -- each entry in it was its owner's own, whole, at one past time
    pub whole : (endpoint : ℕ) (h : HistoryValue) → EndsWith lives endpoint h
        → (owner : ℕ) (entry : EntryValue) → map.get h.node.table.entries owner ≡ Some entry → Was owner entry
    -- so was the entry that each delta led to, and a mark names one entry of its owner
    pub marked : (endpoint : ℕ) (h : HistoryValue) → EndsWith lives endpoint h
        → (owner : ℕ) → All (IsMarked owner) (marks_of endpoint h owner)
    pub named : (owner : ℕ) (x y : EntryValue) → Was owner x → Was owner y → mark_of x ≡ mark_of y → x ≡ y
    -- so lives that took the same end with equal tables and rings
    pub equal_sets : (a b : ℕ) (one other : HistoryValue) → EndsWith lives a one → EndsWith lives b other
        → SameMarks a one b other → AreEqual one.node.table.entries other.node.table.entries
    -- and so do lives with equal digests
    pub equal_digests : (a b : ℕ) (one other : HistoryValue) → EndsWith lives a one → EndsWith lives b other
        → digests_of one.node.table.entries ≡ digests_of other.node.table.entries
        → AreEqual one.node.table.entries other.node.table.entries

-- The headline is true of the ends of lives that are one run, none of whose records is folded, whatever the settings of
-- each and however many endpoints there are.
abbrev pub RunsHaveTheHeadline : Type 0
RunsHaveTheHeadline =
    (lives : List LivesValue) (order : List RunItem) → AreLives lives → AreWhole lives → IsOneRun lives order
    → RunHeadline lives
