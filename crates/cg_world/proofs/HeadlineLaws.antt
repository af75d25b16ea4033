-- The headline, by the places of the actions.
use Rattle.std.proofs.Common.{◌≡◌, ◌≢◌, ℕ, zero, suc, ◌<◌, ◌≤◌, ◌⊎◌, inl, inr, List, [], ◌∷◌, ◌++◌, length, get_or, refl, sym, ◌∙◌, ap, subst, arith, append_assoc, append-nil, Bool, true, false, Option, Some, None, Result, Ok, Err}
use Rattle.std.specs.Prelude.{⊤, ◌==◌, ◌&&◌, ◌↔◌, cond, is_ok, is_some, All, map as map_list}
use Rattle.std.specs.Option.{option_map, option_map_or, option_and_then}
use Rattle.std.specs.List.{Contains}
use Rattle.std.specs.Cmp.{nat_cmp_total}
use Rattle.std.specs.FinMap as map
use Rattle.std.specs.FinMap.{same_map, nat_cmp-IsAntisymmetric}
use Rattle.std.proofs.lemmas.Bool.Decides.{nat_tests}
use Rattle.cg_types.specs.declared.fault.Fault.{Fault}
use Rattle.cg_entry.specs.Values.{EntryValue}
use Rattle.cg_entry.specs.History.{IsHistory, at_place}
use Rattle.cg_entry.specs.Place.{Span, IsSpan}
use Rattle.cg_entry.specs.Spelling.{delta_of}
use Rattle.cg_entry.proofs.PlaceLemmas.{at_place_some}
use Rattle.cg_entry.proofs.HistoryLaws.{versions_name_entries}
use Rattle.cg_entry.specs.declared.took.Took.{Took}
use Rattle.cg_entry.specs.declared.took.Took.TheVariants as took
use Rattle.cg_table.specs.Own.{own_entry}
use Rattle.cg_tokens.specs.Ring.{ring}
use Rattle.cg_messages.specs.declared.message.Message.{Message}
use Rattle.cg_messages.specs.declared.outcome.Outcome.{Outcome}
use Rattle.cg_messages.specs.declared.owner_delta.OwnerDelta.{OwnerDelta}
use Rattle.cg_messages.specs.Members.{about}
use Rattle.cg_places.specs.PlaceMessages.{AreSpans}
use Rattle.cg_places.specs.Places.{took_for}
use Rattle.cg_places.specs.MessageSpelling.{delta_about, outcome_about}
use Rattle.cg_core.specs.declared.reply.Reply.{Reply}
use Rattle.cg_core.specs.SettingsValues.{SettingsValue}
use Rattle.cg_core.specs.Values.{NodeValue}
use Rattle.cg_places.specs.PlaceWorld.{PlaceWorld, nobody}
use Rattle.cg_places.specs.Join.{furthest, targets, sources}
use Rattle.cg_places.specs.Laws.{Continues}
use Rattle.cg_places.specs.TableLaws.{IsJoined}
use Rattle.cg_places.proofs.PutLemmas.{same_number, test_same}
use Rattle.cg_places.proofs.PlaceLaws.{furthest_stands}
use Rattle.cg_places.proofs.OnwardLemmas.{Keeps, actions_from_keeps}
use Rattle.cg_world.specs.World.{Action, Start, Local, Deliver, WorldValue, new_world, acting, act, reply_to, run, place_world}
use Rattle.cg_world.specs.Terms.{Runs, deltas_in, deltas_sent, Mark, mark_of, mark_led_to, IsWithin, HasGreatest, with_delta}
use Rattle.cg_world.specs.SingleActions.{AreReplies, outcomes_in}
use Rattle.cg_world.specs.Taken.{spans_in, with_outcome, taker, AreCounted, IsTold}
use Rattle.cg_world.specs.Headline.{with_action, took_from, marks_of, Was, IsMarked, Headline}
use Rattle.cg_world.proofs.MarkLemmas.{mark_at, mark_here, IsDeltaTo, span_delta, mark_rises, AllSpans, marks_at, all_push, marks_push, all_stay, marks_stay}
use Rattle.cg_world.proofs.ActionLemmas.{own_held, own_last, runs_here}
use Rattle.cg_world.proofs.WorldLaws.{Joined, joined, done_by_places, actions_one_by_one, tables_are_the_join, equal_digests_give_equal_tables}
use Rattle.cg_world.proofs.SingleActions.{replies_are_of_steps}
use Rattle.cg_world.proofs.TakenLaws.{all_more, outcomes_tell_what_is_taken}
use Rattle.cg_world.proofs.WholeEntries.{entries_are_whole, places_were_own}
use Rattle.cg_world.proofs.GapLaws.{spans_are, gap_told, delta_told}
use Rattle.cg_world.proofs.OwnLaws.{own_goes_on}

-- ---- the deltas that a node took

-- the deltas that it took, by marks and by places
abbrev pub Marked : PlaceWorld → ℕ → ℕ → List Mark → Type 0
Marked w node owner marks = (marks ≡ marks_at (w.histories owner) (w.taken node owner)) × AllSpans (w.histories owner) (w.taken node owner)

-- the histories after more actions
placed_goes_on : (earlier later : List Action) → Keeps (place_world earlier) (place_world (earlier ++ later))
placed_goes_on earlier later = subst (Keeps (place_world earlier)) (sym (all_more nobody earlier later)) (actions_from_keeps (place_world earlier) (done_by_places (place_world earlier) later))

-- the marks if the same was taken, or one span more
pub marked_still : (w v : PlaceWorld) (node owner : ℕ) (marks : List Mark) → Continues (w.histories owner) (v.histories owner) → v.taken node owner ≡ w.taken node owner → Marked w node owner marks → Marked v node owner marks
marked_still w v node owner marks on same m =
    subst (λ (spans : List Span). (marks ≡ marks_at (v.histories owner) spans) × AllSpans (v.histories owner) spans) (sym same)
    (m.0 ∙ sym (marks_stay (w.histories owner) (v.histories owner) on (w.taken node owner) m.1), all_stay (w.histories owner) (v.histories owner) on (w.taken node owner) m.1)

pub marked_more : (w v : PlaceWorld) (node owner : ℕ) (marks : List Mark) (span : Span) → Continues (w.histories owner) (v.histories owner) → v.taken node owner ≡ w.taken node owner ++ span ∷ [] → IsSpan (w.histories owner) span
    → Marked w node owner marks → Marked v node owner (marks ++ mark_at (w.histories owner) span.to ∷ [])
marked_more w v node owner marks span on more is m =
    let h : List EntryValue = w.histories owner in
    let all : AllSpans h (w.taken node owner ++ span ∷ []) = all_push h (w.taken node owner) span m.1 is in
    subst (λ (spans : List Span). (marks ++ mark_at h span.to ∷ [] ≡ marks_at (v.histories owner) spans) × AllSpans (v.histories owner) spans) (sym more) (
      ap (λ (ms : List Mark). ms ++ mark_at h span.to ∷ []) m.0 ∙ sym (marks_push h (w.taken node owner) span) ∙ sym (marks_stay h (v.histories owner) on (w.taken node owner ++ span ∷ []) all),
      all_stay h (v.histories owner) on (w.taken node owner ++ span ∷ []) all,
    )

module _ (settings : SettingsValue) (earlier : List Action) (owner : ℕ) where
  abbrev c : WorldValue
  c = run settings earlier

  abbrev w : PlaceWorld
  w = place_world earlier

  abbrev after : Action → PlaceWorld
  after action = place_world (earlier ++ action ∷ [])

  j : Joined c w
  j = joined settings earlier

  told : IsTold settings earlier
  told = outcomes_tell_what_is_taken settings earlier

  on : (action : Action) → Continues (w.histories owner) ((after action).histories owner)
  on action = (placed_goes_on earlier (action ∷ [])).histories owner

  -- a refused action changes nothing
  refused_still : (node : ℕ) (marks : List Mark) (action : Action) → is_ok (acting c action) ≡ false → Marked w node owner marks → Marked (after action) node owner marks
  refused_still node marks action fails m = subst (λ v. Marked v node owner marks) (sym (go (acting c action) refl fails)) m
    where
      go : (r : Result WorldValue Fault) → acting c action ≡ r → is_ok r ≡ false → after action ≡ w
      go (Ok d) is fails = absurd cc
      go (Err fault) is fails = told.refused action fault is

  other_still : (node : ℕ) (marks : List Mark) (action : Action) → taker action ≢ Some node → Marked w node owner marks → Marked (after action) node owner marks
  other_still node marks action apart m = marked_still w (after action) node owner marks (on action) (told.others action node owner apart) m

  start_marked : (node : ℕ) (marks : List Mark) (other generation : ℕ) → Marked w node owner marks → (here ok : Bool) → (other == node) ≡ here → is_ok (acting c (Start other generation)) ≡ ok
      → Marked (after (Start other generation)) node owner (cond (here && ok) [] marks)
  start_marked node marks other generation m true true same done =
      let is : other ≡ node = same_number other node same in
      let none : (after (Start other generation)).taken node owner ≡ [] = subst (λ k. (after (Start other generation)).taken k owner ≡ []) is (told.starts other generation owner done) in
      subst (λ (spans : List Span). ([] ≡ marks_at ((after (Start other generation)).histories owner) spans) × AllSpans ((after (Start other generation)).histories owner) spans) (sym none) (refl, tt)
  start_marked node marks other generation m true false same fails = refused_still node marks (Start other generation) fails m
  start_marked node marks other generation m false ok apart done =
      other_still node marks (Start other generation) (λ e. let is : other ≡ node = cc in let t : (other == node) ≡ true = ap (λ k. k == node) is ∙ test_same node in cc) m

  -- ---- a delivery

  module _ (node number now : ℕ) (marks : List Mark) (m : Marked w node owner marks) where
    abbrev v : PlaceWorld
    v = after (Deliver number node now)

    -- one delta, by its outcome
    taken_marked : (span : Span) (took : Took) (d : OwnerDelta) → IsSpan (w.histories owner) span → mark_led_to d.delta ≡ mark_at (w.histories owner) span.to
        → v.taken node owner ≡ with_outcome (w.taken node owner) (Some (record { endpoint = owner; took = took })) (Some span)
        → Marked v node owner (with_delta marks (Some (record { endpoint = owner; took = took })) (Some d))
    taken_marked span took.Gap d is leads e = marked_still w v node owner marks (on (Deliver number node now)) e m
    taken_marked span took.Taken d is leads e = subst (λ mark. Marked v node owner (marks ++ mark ∷ [])) (sym leads) (marked_more w v node owner marks span (on (Deliver number node now)) e is m)
    taken_marked span took.Old d is leads e = subst (λ mark. Marked v node owner (marks ++ mark ∷ [])) (sym leads) (marked_more w v node owner marks span (on (Deliver number node now)) e is m)
    taken_marked span took.Own d is leads e = subst (λ mark. Marked v node owner (marks ++ mark ∷ [])) (sym leads) (marked_more w v node owner marks span (on (Deliver number node now)) e is m)

    delta_marked : (o : Option Span) → ((span : Span) → o ≡ Some span → IsSpan (w.histories owner) span) → (outcome : Option Outcome)
        → outcome ≡ option_map (λ span. record { endpoint = owner; took = took_for (owner == node) (w.places node owner) span }) o
        → (d : Option OwnerDelta) → d ≡ option_map (about owner) (option_and_then (delta_of (w.histories owner)) o)
        → v.taken node owner ≡ with_outcome (w.taken node owner) outcome o → Marked v node owner (with_delta marks outcome d)
    delta_marked None are outcome eo d ed e =
        rw eo (marked_still w v node owner marks (on (Deliver number node now)) (e ∙ ap (λ outcome. with_outcome (w.taken node owner) outcome None) eo) m)
    delta_marked (Some span) are outcome eo d ed e =
        let is : IsSpan (w.histories owner) span = are span refl in
        let to : IsDeltaTo (w.histories owner) span = span_delta (w.histories owner) (j.tied.sound.histories owner) span is in
        let some : d ≡ Some (about owner to.delta) = ed ∙ ap (option_map (about owner)) to.is in
        rw (eo, some) (taken_marked span (took_for (owner == node) (w.places node owner) span) (about owner to.delta) is to.leads (e ∙ ap (λ outcome. with_outcome (w.taken node owner) outcome (Some span)) eo))

    sent_here : (message : Message) → at_place c.sent number ≡ Some message → deltas_sent c number ≡ deltas_in message
    sent_here message is = rw is refl

    delivery_marked : (reply : Option Reply) → reply_to c (Deliver number node now) ≡ reply
        → Marked v node owner (with_delta marks (outcome_about owner (option_map_or outcomes_in reply [])) (delta_about owner (deltas_sent c number)))
    delivery_marked None none =
        let replies : AreReplies c = replies_are_of_steps c in
        refused_still node marks (Deliver number node now) (sym (replies.delivery number node now) ∙ ap is_some none) m
    delivery_marked (Some answer) is =
        let a : AreCounted c w v number node (outcomes_in answer) = told.deliveries number node now answer is in
        let are : AreSpans w.histories (spans_in a.said) = spans_are w.histories a.said (j.tied.sound.messages number a.said a.is_said) in
        rw (sent_here a.message a.is_message)
        (delta_marked (spans_in a.said owner) (are owner) (outcome_about owner (outcomes_in answer)) (a.each owner) (delta_about owner (deltas_in a.message)) (a.spelled.at owner) (a.taken owner))

  deliver_marked : (node : ℕ) (marks : List Mark) (number to now : ℕ) → Marked w node owner marks → (here : Bool) → (to == node) ≡ here
      → Marked (after (Deliver number to now)) node owner
      (cond here (with_delta marks (outcome_about owner (option_map_or outcomes_in (reply_to c (Deliver number to now)) [])) (delta_about owner (deltas_sent c number))) marks)
  deliver_marked node marks number to now m true same =
      let is : to ≡ node = same_number to node same in
      subst (λ k. Marked (after (Deliver number k now)) node owner (with_delta marks (outcome_about owner (option_map_or outcomes_in (reply_to c (Deliver number k now)) [])) (delta_about owner (deltas_sent c number)))) (sym is)
      (delivery_marked node number now marks m (reply_to c (Deliver number node now)) refl)
  deliver_marked node marks number to now m false apart =
      other_still node marks (Deliver number to now) (λ e. let is : to ≡ node = cc in let t : (to == node) ≡ true = ap (λ k. k == node) is ∙ test_same node in cc) m

  pub action_marked : (node : ℕ) (marks : List Mark) (action : Action) → Marked w node owner marks → Marked (after action) node owner (with_action c node owner marks action)
  action_marked node marks (Start other generation) m = start_marked node marks other generation m (other == node) (is_ok (acting c (Start other generation))) refl refl
  action_marked node marks (Local other change) m = other_still node marks (Local other change) (λ e. cc) m
  action_marked node marks (Deliver number to now) m = deliver_marked node marks number to now m (to == node) refl

-- the same after all actions
took_marked : (settings : SettingsValue) (node owner : ℕ) (earlier later : List Action) (marks : List Mark) → Marked (place_world earlier) node owner marks
    → Marked (place_world (earlier ++ later)) node owner (took_from (run settings earlier) node owner marks later)
took_marked settings node owner earlier [] marks m = subst (λ (xs : List Action). Marked (place_world xs) node owner marks) (sym (append-nil earlier)) m
took_marked settings node owner earlier (action ∷ later) marks m =
    let c : WorldValue = run settings earlier in
    let next : Marked (place_world (earlier ++ action ∷ [])) node owner (with_action c node owner marks action) = action_marked settings earlier owner node marks action m in
    let rest = took_marked settings node owner (earlier ++ action ∷ []) later (with_action c node owner marks action) next in
    subst (λ (xs : List Action). Marked (place_world xs) node owner (took_from (act c action) node owner (with_action c node owner marks action) later)) (append_assoc earlier (action ∷ []) later)
    (subst (λ (d : WorldValue). Marked (place_world ((earlier ++ action ∷ []) ++ later)) node owner (took_from d node owner (with_action c node owner marks action) later)) (actions_one_by_one settings earlier action) rest)

nothing_marked : (node owner : ℕ) → Marked nobody node owner []
unfolding nobody
nothing_marked node owner = (refl, tt)

-- ---- marks of places

-- P is true of each, by recursion
abbrev pub Each : {X : Type 0} → (X → Type 0) → List X → Type 0
Each P [] = ⊤
Each P (x ∷ xs) = P x × Each P xs

pub each_all : {X : Type 0} → (P : X → Type 0) (xs : List X) → Each P xs → All P xs
each_all P [] each k d lt = absurd (omega (arith, lt))
each_all P (x ∷ xs) each zero d lt = each.0
each_all P (x ∷ xs) each (suc k) d lt = each_all P xs each.1 k d (omega (arith, lt))

all_at : {X : Type 0} → (P : X → Type 0) (xs : List X) → All P xs → (x : X) → Contains xs x → P x
all_at P xs all x c = subst P c.2 (all c.0 x c.1)

contains_map : {X Y : Type 0} → (f : X → Y) (xs : List X) (k : ℕ) (x : X) → k < length xs → get_or xs k x ≡ x → (k < length (map_list f xs)) × (get_or (map_list f xs) k (f x) ≡ f x)
contains_map f [] k x lt e = absurd (omega (arith, lt))
contains_map f (y ∷ xs) zero x lt e = (omega arith, ap f e)
contains_map f (y ∷ xs) (suc k) x lt e = let rest = contains_map f xs k x (omega (arith, lt)) e in (omega (arith, rest.0), rest.1)

-- each place has an entry
abbrev pub HasEntries : List EntryValue → List ℕ → Type 0
HasEntries h places = Each (λ p. (0 < p) × (p ≤ length h)) places

-- the marks of a node, by its places
pub marks_by_targets : (h : List EntryValue) (spans : List Span) → marks_at h spans ≡ map_list (mark_at h) (targets spans)
marks_by_targets h [] = refl
marks_by_targets h (span ∷ spans) = ap (λ (marks : List Mark). mark_at h span.to ∷ marks) (marks_by_targets h spans)

pub targets_have : (h : List EntryValue) (spans : List Span) → AllSpans h spans → HasEntries h (targets spans)
targets_have h [] all = tt
targets_have h (span ∷ spans) all = ((omega (arith, all.0.rises), all.0.stands), targets_have h spans all.1)

none_furthest : (h : List EntryValue) (places : List ℕ) → HasEntries h places → furthest places ≡ 0 → places ≡ []
none_furthest h [] has z = refl
none_furthest h (p ∷ places) has z = absurd (omega (arith, has.0.0, z))

within_furthest : (h : List EntryValue) → IsHistory h → (top : ℕ) → top ≤ length h → (places : List ℕ) → furthest places ≤ top → Each (λ m. IsWithin m (mark_at h top)) (map_list (mark_at h) places)
within_furthest h is top l [] le = tt
within_furthest h is top l (p ∷ places) le = (mark_rises h is p top (omega (arith, le)) l, within_furthest h is top l places (omega (arith, le)))

-- the entry at the furthest of some places has the greatest of their marks
pub greatest_held : (h : List EntryValue) → IsHistory h → (places : List ℕ) → HasEntries h places → HasGreatest (at_place h (furthest places)) (map_list (mark_at h) places)
greatest_held h is places has = go (furthest_stands places)
  where
    go : (furthest places ≡ 0) ⊎ Contains places (furthest places) → HasGreatest (at_place h (furthest places)) (map_list (mark_at h) places)
    go (inl z) = subst (λ p. HasGreatest (at_place h p) (map_list (mark_at h) places)) (sym z) (ap (map_list (mark_at h)) (none_furthest h places has z))
    go (inr c) =
        let top : ℕ = furthest places in
        let bounds : (0 < top) × (top ≤ length h) = all_at (λ p. (0 < p) × (p ≤ length h)) places (each_all (λ p. (0 < p) × (p ≤ length h)) places has) top c in
        let held = at_place_some h top bounds.0 bounds.1 in
        let mark : mark_at h top ≡ mark_of held.0 = mark_here h top held.0 held.1 in
        let found = contains_map (mark_at h) places c.0 top c.1 c.2 in
        let there : Contains (map_list (mark_at h) places) (mark_at h top) = (c.0, found.0, found.1) in
        let all : All (λ m. IsWithin m (mark_at h top)) (map_list (mark_at h) places) =
        each_all (λ m. IsWithin m (mark_at h top)) (map_list (mark_at h) places) (within_furthest h is top bounds.1 places (omega arith)) in
        subst (λ o. HasGreatest o (map_list (mark_at h) places)) (sym held.1)
        (subst (λ (m : Mark). Contains (map_list (mark_at h) places) m × All (λ n. IsWithin n m) (map_list (mark_at h) places)) mark (there, all))

-- ---- the entries held

same_marks : (m n : Mark) → IsWithin m n → IsWithin n m → m ≡ n
same_marks m n a b =
    let first : m.0 ≡ n.0 = grind arith in
    let second : m.1 ≡ n.1 = grind arith in
    λ i. (first i, second i)

pub same_held : (one other : Option EntryValue) (ms ns : List Mark) → HasGreatest one ms → HasGreatest other ns → ((m : Mark) → Contains ms m ↔ Contains ns m)
    → ((x y : EntryValue) → one ≡ Some x → other ≡ Some y → mark_of x ≡ mark_of y → x ≡ y) → one ≡ other
same_held None None ms ns a b same named = refl
same_held None (Some y) ms ns a b same named = absurd (let c = subst (λ (ms : List Mark). Contains ms (mark_of y)) a ((same (mark_of y)).1 b.0) in omega (arith, c.1))
same_held (Some x) None ms ns a b same named = absurd (let c = subst (λ (ns : List Mark). Contains ns (mark_of x)) b ((same (mark_of x)).0 a.0) in omega (arith, c.1))
same_held (Some x) (Some y) ms ns a b same named =
    let forth : IsWithin (mark_of x) (mark_of y) = all_at (λ m. IsWithin m (mark_of y)) ns b.1 (mark_of x) ((same (mark_of x)).0 a.0) in
    let back : IsWithin (mark_of y) (mark_of x) = all_at (λ m. IsWithin m (mark_of x)) ms a.1 (mark_of y) ((same (mark_of y)).1 b.0) in
    ap Some (named x y refl refl (same_marks (mark_of x) (mark_of y) forth back))

module _ (settings : SettingsValue) (actions : List Action) where
  abbrev d : WorldValue
  d = run settings actions

  abbrev u : PlaceWorld
  u = place_world actions

  k : Joined d u
  k = joined settings actions

  module _ (node : ℕ) (n : NodeValue) (e : Runs d node n) (owner : ℕ) where
    took_here : Marked u node owner (took_from (new_world settings) node owner [] actions)
    took_here = took_marked settings node owner [] actions [] (nothing_marked node owner)

    own_mark : (owner == node) ≡ true → mark_of (own_entry n.table) ≡ mark_at (u.histories owner) (length (u.histories node))
    own_mark same =
        let is : owner ≡ node = same_number owner node same in
        subst (λ k. mark_of (own_entry n.table) ≡ mark_at (u.histories k) (length (u.histories node))) (sym is)
        (sym (mark_here (u.histories node) (length (u.histories node)) (own_entry n.table) (own_held d u k.tied node n e)))

    marks_are : marks_of settings actions node n owner ≡ map_list (mark_at (u.histories owner)) (sources u node owner)
    marks_are = go (owner == node) refl
      where
        targets_are : took_from (new_world settings) node owner [] actions ≡ map_list (mark_at (u.histories owner)) (targets (u.taken node owner))
        targets_are = took_here.0 ∙ marks_by_targets (u.histories owner) (u.taken node owner)

        go : (b : Bool) → (owner == node) ≡ b
            → cond b (mark_of (own_entry n.table) ∷ took_from (new_world settings) node owner [] actions) (took_from (new_world settings) node owner [] actions)
            ≡ map_list (mark_at (u.histories owner)) (cond b (length (u.histories node) ∷ targets (u.taken node owner)) (targets (u.taken node owner)))
        go true same = λ i. own_mark same i ∷ targets_are i
        go false apart = targets_are

    sources_have : HasEntries (u.histories owner) (sources u node owner)
    sources_have = go (owner == node) refl
      where
        runs_now : 0 < length (u.histories node)
        runs_now = let r = runs_here d u k.tied node n e in grind (arith, nat_tests, r)

        go : (b : Bool) → (owner == node) ≡ b → HasEntries (u.histories owner) (cond b (length (u.histories node) ∷ targets (u.taken node owner)) (targets (u.taken node owner)))
        go true same =
            let is : owner ≡ node = same_number owner node same in
            let stands : length (u.histories node) ≤ length (u.histories owner) = omega (arith, ap (λ k. length (u.histories k)) is) in
            ((runs_now, stands), targets_have (u.histories owner) (u.taken node owner) took_here.1)
        go false apart = targets_have (u.histories owner) (u.taken node owner) took_here.1

    held_greatest : HasGreatest (map.get n.table.entries owner) (marks_of settings actions node n owner)
    held_greatest =
        let is : IsJoined u node n.table.entries = tables_are_the_join settings actions node n e in
        subst (λ (marks : List Mark). HasGreatest (map.get n.table.entries owner) marks) (sym marks_are)
        (subst (λ o. HasGreatest o (map_list (mark_at (u.histories owner)) (sources u node owner))) (sym (is.joined owner))
        (greatest_held (u.histories owner) (k.tied.sound.histories owner) (sources u node owner) sources_have))

    all_marked : All (IsMarked settings actions owner) (marks_of settings actions node n owner)
    all_marked = subst (λ (marks : List Mark). All (IsMarked settings actions owner) marks) (sym marks_are)
        (each_all (IsMarked settings actions owner) (map_list (mark_at (u.histories owner)) (sources u node owner)) (each (sources u node owner) sources_have))
      where
        each : (places : List ℕ) → HasEntries (u.histories owner) places → Each (IsMarked settings actions owner) (map_list (mark_at (u.histories owner)) places)
        each [] has = tt
        each (p ∷ places) has =
            let x = at_place_some (u.histories owner) p has.0.0 has.0.1 in
            ((x.0, places_were_own settings actions owner p x.0 x.1, sym (mark_here (u.histories owner) p x.0 x.1)), each places has.1)

  -- an entry that was its owner's own is in the history
  was_placed : (owner : ℕ) (entry : EntryValue) → Was settings actions owner entry → (p : ℕ) × (at_place (u.histories owner) p ≡ Some entry)
  was_placed owner entry was = subst (λ (xs : List Action). (p : ℕ) × (at_place ((place_world xs).histories owner) p ≡ Some entry)) was.in_order (length ((place_world was.earlier).histories owner), there)
    where
      then_joined : Joined (run settings was.earlier) (place_world was.earlier)
      then_joined = joined settings was.earlier

      there : at_place ((place_world (was.earlier ++ was.later)).histories owner) (length ((place_world was.earlier).histories owner)) ≡ Some entry
      there = ((placed_goes_on was.earlier was.later).histories owner).same (length ((place_world was.earlier).histories owner)) (omega arith)
          ∙ sym (own_last (run settings was.earlier) (place_world was.earlier) then_joined.tied owner) ∙ was.own

  marks_name : (owner : ℕ) (x y : EntryValue) → Was settings actions owner x → Was settings actions owner y → mark_of x ≡ mark_of y → x ≡ y
  marks_name owner x y wx wy same =
      let px = was_placed owner x wx in
      let py = was_placed owner y wy in
      (versions_name_entries (u.histories owner) (k.tied.sound.histories owner) px.0 py.0 x y px.1 py.1 (ap (λ (m : Mark). m.0) same) (ap (λ (m : Mark). m.1) same)).1

  pub headline : Headline settings actions d
  headline = record {
    own = λ earlier later action whole done node. own_goes_on settings earlier action done node;
    joined = held_greatest;
    told = λ earlier later whole number node now owner n runs delta sent. delta_told settings earlier number node now owner n runs delta sent;
    gaps = λ earlier later whole number node now owner n runs outcome delta told sent. gap_told settings earlier number node now owner n runs outcome delta told sent;
    whole = entries_are_whole settings actions;
    marked = all_marked;
    named = marks_name;
    equal_sets = λ a b one other ra rb same.
        let is : one.table.entries ≡ other.table.entries = same_map nat_cmp_total nat_cmp-IsAntisymmetric one.table.entries other.table.entries
        (λ owner. same_held (map.get one.table.entries owner) (map.get other.table.entries owner) (marks_of settings actions a one owner) (marks_of settings actions b other owner)
        (held_greatest a one ra owner) (held_greatest b other rb owner) (same owner)
        (λ x y ex ey mark. marks_name owner x y (entries_are_whole settings actions a one ra owner x ex) (entries_are_whole settings actions b other rb owner y ey) mark)) in
        record { entries = is; rings = ap ring is };
    equal_digests = equal_digests_give_equal_tables settings actions;
  }
