-- The headline of lives that are one run.
use Rattle.std.proofs.Common.{◌≡◌, inl, inr, ℕ, zero, suc, ◌<◌, ◌≤◌, List, [], ◌∷◌, length, map, refl, sym, ◌∙◌, ap, subst, arith, Bool, true, false, cond, Some}
use Rattle.std.specs.Prelude.{◌==◌, All, nat_lt}
use Rattle.std.specs.List.{AllByRecursion, Contains}
use Rattle.std.specs.Cmp.{nat_cmp_total}
use Rattle.std.specs.FinMap as table
use Rattle.std.specs.FinMap.{same_map, nat_cmp-IsAntisymmetric}
use Rattle.std.proofs.lemmas.Bool.Decides.{nat_tests}
use Rattle.cg_types.specs.Rising.{Rises, rise_past}
use Rattle.cg_types.proofs.RisingLemmas.{both}
use Rattle.cg_entry.specs.Values.{EntryValue}
use Rattle.cg_entry.specs.History.{at_place}
use Rattle.cg_entry.proofs.HistoryLaws.{versions_name_entries}
use Rattle.cg_entry.proofs.PlaceLemmas.{at_place_some}
use Rattle.cg_table.specs.Own.{own_entry}
use Rattle.cg_table.specs.Table.{digests_of}
use Rattle.cg_table.proofs.DigestLemmas.{equal_digests_equal_entries}
use Rattle.cg_tokens.specs.Ring.{ring}
use Rattle.cg_messages.specs.declared.message.Message.{Message}
use Rattle.cg_places.specs.PlaceWorld.{PlaceWorld, nobody}
use Rattle.cg_places.specs.Join.{targets, sources}
use Rattle.cg_places.specs.Laws.{IsWorld}
use Rattle.cg_places.proofs.PutLemmas.{same_number}
use Rattle.cg_places.proofs.WorldLemmas.{nobody_sound, places_join}
use Rattle.cg_places.proofs.OwnerLemmas.{nobody_knows}
use Rattle.cg_places.proofs.PlaceLaws.{world_is}
use Rattle.cg_places.proofs.StepLaws.{own_held}
use Rattle.cg_world.specs.Terms.{AreEqual, Mark, mark_of, HasGreatest}
use Rattle.cg_world.proofs.MarkLemmas.{mark_at, mark_here}
use Rattle.cg_world.proofs.HeadlineLaws.{Each, each_all, HasEntries, marks_by_targets, targets_have, greatest_held, same_held}
use Rattle.cg_history.specs.History.{HistoryValue}
use Rattle.cg_audit.specs.Items.{RunItem, LivesValue, IsLife, AreLives, AreWhole, generation_of, items_of_lives, items_at}
use Rattle.cg_audit.specs.OneRun.{GenerationsRise, IsOneRun, messages_of}
use Rattle.cg_audit.specs.RunHeadline.{histories_at, EndsWith, took_from, marks_of, Was, IsMarked, SameMarks, RunsHaveTheHeadline}
use Rattle.cg_audit.specs.RunWorld.{RunsHaveAWorld}
use Rattle.cg_audit.proofs.Stages.{IsWholeLife, Stage, Idle}
use Rattle.cg_audit.proofs.Walks.{IsAt, EndsAt, Ends, walk, life_generation}

-- ---- before the first item

items_by_histories : (ls : List LivesValue) (e : ℕ) → items_at ls e ≡ items_of_lives e (histories_at ls e)
items_by_histories [] e = refl
items_by_histories (l ∷ ls) e = by (l.endpoint == e) (items_by_histories ls e)
  where
    by : (b : Bool) → items_at ls e ≡ items_of_lives e (histories_at ls e) → cond b (items_of_lives e l.histories) (items_at ls e) ≡ items_of_lives e (cond b l.histories (histories_at ls e))
    by true more = refl
    by false more = more

whole_lives : (e : ℕ) (hs : List HistoryValue) → AllByRecursion (IsLife e) hs → AllByRecursion (λ (h : HistoryValue). h.folded ≡ 0) hs → AllByRecursion (IsWholeLife e) hs
whole_lives e [] lives whole = tt
whole_lives e (h ∷ hs) lives whole = (record { is = lives.0; whole = whole.0 }, whole_lives e hs lives.1 whole.1)

lives_at : (ls : List LivesValue) → AreLives ls → AreWhole ls → (e : ℕ) → AllByRecursion (IsWholeLife e) (histories_at ls e)
lives_at [] are whole e = tt
lives_at (l ∷ ls) are whole e = by (l.endpoint == e) refl (lives_at ls are.1 whole.1 e)
  where
    by : (b : Bool) → (l.endpoint == e) ≡ b → AllByRecursion (IsWholeLife e) (histories_at ls e) → AllByRecursion (IsWholeLife e) (cond b l.histories (histories_at ls e))
    by true same more = whole_lives e l.histories (subst (λ (k : ℕ). AllByRecursion (IsLife k) l.histories) (same_number l.endpoint e same) are.0) whole.0
    by false apart more = more

rise_at : (ls : List LivesValue) → GenerationsRise ls → (e : ℕ) → Rises (map generation_of (histories_at ls e))
rise_at [] rise e = refl
rise_at (l ∷ ls) rise e = by (l.endpoint == e) (rise_at ls rise.1 e)
  where
    by : (b : Bool) → Rises (map generation_of (histories_at ls e)) → Rises (map generation_of (cond b l.histories (histories_at ls e)))
    by true more = rise.0
    by false more = more

-- generations of lives are not 0
rise_past_none : (e : ℕ) (hs : List HistoryValue) → AllByRecursion (IsWholeLife e) hs → Rises (map generation_of hs) → rise_past (Some 0) (map generation_of hs) ≡ true
rise_past_none e [] lives rise = refl
rise_past_none e (h ∷ hs) lives rise =
    let begun = lives.0.is.replayed.begun in
    let some : 0 < begun.generation = begun.in_range.0 in
    let same : generation_of h ≡ begun.generation = life_generation e h lives.0 in
    let past : nat_lt 0 (generation_of h) ≡ true = grind (arith, nat_tests, some, same) in
    both (nat_lt 0 (generation_of h)) (rise_past (Some (generation_of h)) (map generation_of hs)) past rise

nothing_sent : (m : Message) → Contains (messages_of []) m → ⊥
nothing_sent m c = let none = c.1 in absurd (omega (arith, none))

module _ (lives : List LivesValue) (order : List RunItem) (are : AreLives lives) (are_whole : AreWhole lives) (run : IsOneRun lives order) where
  abbrev stages : ℕ → Stage
  stages e = Idle (histories_at lives e)

  at_start : IsAt nobody [] stages
  unfolding nobody
  at_start = record {
    sound = nobody_sound;
    knows = nobody_knows;
    said = λ m c. absurd (nothing_sent m c);
    stages = λ e. record {
      idle = refl;
      rise = rise_past_none e (histories_at lives e) (lives_at lives are are_whole e) (rise_at lives run.rise e);
      lives = lives_at lives are are_whole e;
    };
  }

  ends : Ends nobody stages order
  ends = walk order nobody [] stages at_start run.sent (λ e. run.items e ∙ items_by_histories lives e)

  abbrev w : PlaceWorld
  w = ends.final

  is_world : IsWorld w
  is_world = world_is w ends.sound ends.knows

  -- an entry of a history was its owner's own
  was_own : (owner place : ℕ) (entry : EntryValue) → at_place (w.histories owner) place ≡ Some entry → Was lives owner entry
  unfolding nobody
  was_own owner place entry there = elim (ends.old owner place entry there) [ inl before ↦ absurd (nowhere place before) | inr was ↦ was ]
    where
      nowhere : (place : ℕ) → at_place (nobody.histories owner) place ≡ Some entry → ⊥
      nowhere zero e = cc
      nowhere (suc place) e = cc

  named : (owner : ℕ) (x y : EntryValue) → Was lives owner x → Was lives owner y → mark_of x ≡ mark_of y → x ≡ y
  named owner x y wx wy same =
      let px = ends.stood owner x wx in
      let py = ends.stood owner y wy in
      (versions_name_entries (w.histories owner) (ends.sound.histories owner) px.0 py.0 x y px.1 py.1 (ap (λ (m : Mark). m.0) same) (ap (λ (m : Mark). m.1) same)).1

  module _ (e : ℕ) (h : HistoryValue) (last : EndsWith lives e h) where
    at_end : EndsAt w e h
    at_end = ends.lasts e h last

    module _ (owner : ℕ) where
      own_mark : (owner == e) ≡ true → mark_of (own_entry h.node.table) ≡ mark_at (w.histories owner) (length (w.histories e))
      own_mark same =
          let is : owner ≡ e = same_number owner e same in
          subst (λ (k : ℕ). mark_of (own_entry h.node.table) ≡ mark_at (w.histories k) (length (w.histories e))) (sym is)
          (sym (mark_here (w.histories e) (length (w.histories e)) (own_entry h.node.table) (own_held w is_world e h.node at_end.placed)))

      marks_are : marks_of e h owner ≡ map (mark_at (w.histories owner)) (sources w e owner)
      marks_are = go (owner == e) refl
        where
          targets_are : took_from owner [] h.records ≡ map (mark_at (w.histories owner)) (targets (w.taken e owner))
          targets_are = (at_end.marked owner).0 ∙ marks_by_targets (w.histories owner) (w.taken e owner)

          go : (b : Bool) → (owner == e) ≡ b
              → cond b (mark_of (own_entry h.node.table) ∷ took_from owner [] h.records) (took_from owner [] h.records)
              ≡ map (mark_at (w.histories owner)) (cond b (length (w.histories e) ∷ targets (w.taken e owner)) (targets (w.taken e owner)))
          go true same = λ i. own_mark same i ∷ targets_are i
          go false apart = targets_are

      sources_have : HasEntries (w.histories owner) (sources w e owner)
      sources_have = go (owner == e) refl
        where
          runs_now : 0 < length (w.histories e)
          runs_now = let r = at_end.placed.runs_here in grind (arith, nat_tests, r)

          go : (b : Bool) → (owner == e) ≡ b → HasEntries (w.histories owner) (cond b (length (w.histories e) ∷ targets (w.taken e owner)) (targets (w.taken e owner)))
          go true same =
              let is : owner ≡ e = same_number owner e same in
              let stands : length (w.histories e) ≤ length (w.histories owner) = omega (arith, ap (λ (k : ℕ). length (w.histories k)) is) in
              ((runs_now, stands), targets_have (w.histories owner) (w.taken e owner) (at_end.marked owner).1)
          go false apart = targets_have (w.histories owner) (w.taken e owner) (at_end.marked owner).1

      held_greatest : HasGreatest (table.get h.node.table.entries owner) (marks_of e h owner)
      held_greatest =
          subst (λ (marks : List Mark). HasGreatest (table.get h.node.table.entries owner) marks) (sym marks_are)
          (subst (λ o. HasGreatest o (map (mark_at (w.histories owner)) (sources w e owner))) (sym (at_end.placed.spells.at owner ∙ ap (at_place (w.histories owner)) (places_join w ends.sound e owner)))
          (greatest_held (w.histories owner) (ends.sound.histories owner) (sources w e owner) sources_have))

      whole : (entry : EntryValue) → table.get h.node.table.entries owner ≡ Some entry → Was lives owner entry
      whole entry held = was_own owner (w.places e owner) entry (sym (at_end.placed.spells.at owner) ∙ held)

      all_marked : All (IsMarked lives owner) (marks_of e h owner)
      all_marked = subst (λ (marks : List Mark). All (IsMarked lives owner) marks) (sym marks_are)
          (each_all (IsMarked lives owner) (map (mark_at (w.histories owner)) (sources w e owner)) (each (sources w e owner) sources_have))
        where
          each : (places : List ℕ) → HasEntries (w.histories owner) places → Each (IsMarked lives owner) (map (mark_at (w.histories owner)) places)
          each [] has = tt
          each (p ∷ places) has =
              let x = at_place_some (w.histories owner) p has.0.0 has.0.1 in
              ((x.0, was_own owner p x.0 x.1, sym (mark_here (w.histories owner) p x.0 x.1)), each places has.1)

  equal_sets : (a b : ℕ) (one other : HistoryValue) → EndsWith lives a one → EndsWith lives b other → SameMarks lives a one b other → AreEqual one.node.table.entries other.node.table.entries
  equal_sets a b one other la lb same =
      let is : one.node.table.entries ≡ other.node.table.entries = same_map nat_cmp_total nat_cmp-IsAntisymmetric one.node.table.entries other.node.table.entries
      (λ owner. same_held (table.get one.node.table.entries owner) (table.get other.node.table.entries owner) (marks_of a one owner) (marks_of b other owner)
      (held_greatest a one la owner) (held_greatest b other lb owner) (same owner)
      (λ x y ex ey mark. named owner x y (whole a one la owner x ex) (whole b other lb owner y ey) mark)) in
      record { entries = is; rings = ap ring is }

  equal_digests : (a b : ℕ) (one other : HistoryValue) → EndsWith lives a one → EndsWith lives b other → digests_of one.node.table.entries ≡ digests_of other.node.table.entries
      → AreEqual one.node.table.entries other.node.table.entries
  equal_digests a b one other la lb same =
      let is : one.node.table.entries ≡ other.node.table.entries =
      equal_digests_equal_entries w.histories ends.sound.histories one.node.table.entries other.node.table.entries (w.places a) (w.places b) (at_end a one la).placed.spells (at_end b other lb).placed.spells same in
      record { entries = is; rings = ap ring is }

pub runs_have_the_headline : RunsHaveTheHeadline
runs_have_the_headline lives order are are_whole run = record {
  joined = held_greatest lives order are are_whole run;
  gaps = λ e. (ends lives order are are_whole run).gaps e;
  whole = whole lives order are are_whole run;
  marked = all_marked lives order are are_whole run;
  named = named lives order are are_whole run;
  equal_sets = equal_sets lives order are are_whole run;
  equal_digests = equal_digests lives order are are_whole run;
}

pub runs_have_a_world : RunsHaveAWorld
runs_have_a_world lives order are are_whole run =
    let e = ends lives order are are_whole run in (
      e.final,
      record {
        actions = e.actions;
        are = e.are;
        after = e.after;
        world = is_world lives order are are_whole run;
        placed = λ endpoint h last. (e.lasts endpoint h last).placed;
      },
    )
