-- Lives that are one run, item by item.
use Rattle.std.proofs.Common.{◌≡◌, ◌≢◌, ◌⊎◌, inl, inr, ℕ, suc, List, [], ◌∷◌, ◌++◌, length, map, refl, sym, ◌∙◌, ap, subst, arith, Bool, true, false, cond, Option, Some, None, Ok}
use Rattle.std.specs.Prelude.{IsTrue, ◌↔◌, unwrap_or, nat_lt}
use Rattle.std.specs.List.{AllByRecursion}
use Rattle.std.specs.Cmp.{nat_cmp_total}
use Rattle.std.specs.FinMap as table
use Rattle.std.specs.FinMap.{get-insert}
use Rattle.std.proofs.lemmas.Bool.Decides.{nat_tests}
use Rattle.cg_types.specs.Rising.{rise_past}
use Rattle.cg_types.proofs.RisingLemmas.{first_of, second_of}
use Rattle.cg_entry.specs.Values.{EntryValue}
use Rattle.cg_entry.specs.Entry.{starting_entry, entry_after_beat, with_state}
use Rattle.cg_entry.specs.History.{at_place, generation_of as generation_in, generation_at}
use Rattle.cg_table.specs.Values.{TableValue}
use Rattle.cg_table.specs.Own.{own_entry, with_own}
use Rattle.cg_table.specs.Table.{lone_table}
use Rattle.cg_messages.specs.declared.message.Message.{Message}
use Rattle.cg_places.specs.PlaceMessages.{PlaceMessage}
use Rattle.cg_places.specs.MessageSpelling.{outcome_about}
use Rattle.cg_core.specs.declared.event.Event.{Event}
use Rattle.cg_core.specs.declared.event.Event.TheVariants as event
use Rattle.cg_core.specs.declared.reply.Reply.{Reply}
use Rattle.cg_core.specs.Replies.{outcomes_in}
use Rattle.cg_core.specs.Values.{NodeValue}
use Rattle.cg_core.specs.Step.{node_step, starting_node}
use Rattle.cg_core.specs.Laws.{TableAfter}
use Rattle.cg_core.proofs.NodeLaws.{tables_go_by_their_rules, only_own_events_change_the_own_entry}
use Rattle.cg_places.specs.PlaceWorld.{PlaceWorld, PlaceAction, Start, put_at, runs, may_start, last_entry, with_start, after_action, after_actions}
use Rattle.cg_places.specs.Laws.{IsWorld}
use Rattle.cg_places.specs.Spelling.{SpellsNode, IsChangedAt}
use Rattle.cg_places.proofs.PutLemmas.{put_at-each, test_same, test_other}
use Rattle.cg_places.proofs.GrowthLemmas.{AllContinue, continues_itself, continues_on}
use Rattle.cg_places.proofs.WorldLemmas.{IsSound, action_sound}
use Rattle.cg_places.proofs.OwnerLemmas.{KnowsOwners, action_knows, same_test}
use Rattle.cg_places.proofs.OnwardLemmas.{Keeps, action_keeps}
use Rattle.cg_places.proofs.ExchangeLemmas.{sent_last}
use Rattle.cg_places.proofs.FollowLemmas.{start_changes, running_here}
use Rattle.cg_places.proofs.PlaceLaws.{world_is}
use Rattle.cg_places.specs.Step.{handed_message, message_of, action_at, span_handed, IsPlaced, SaysSent, IsSentBefore, SendsOne, Sends, IsStepAt}
use Rattle.cg_places.proofs.StepLaws.{own_held, steps_are_by_places}
use Rattle.cg_world.specs.Terms.{is_gap, Mark, with_delta, LiesPast}
use Rattle.cg_world.proofs.MarkLemmas.{AllSpans, marks_at}
use Rattle.cg_world.proofs.TakenLaws.{start_forgets, start_leaves}
use Rattle.cg_world.proofs.WholeEntries.{OldOrLast, action_old}
use Rattle.cg_world.proofs.HeadlineLaws.{Marked}
use Rattle.cg_history.specs.declared.item.Item.{Item}
use Rattle.cg_history.specs.History.{record_of, HistoryValue, Replays}
use Rattle.cg_history.proofs.Replaying.{base_is_start}
use Rattle.cg_audit.specs.Items.{RunItem, generation_of, start_item, item_of, items_of_lives}
use Rattle.cg_audit.specs.OneRun.{WasSent, EachWasSent, items_by}
use Rattle.cg_audit.specs.RunHeadline.{WasOwnFrom, WasOwnIn, delta_handed, took_from, GapsLiePast}
use Rattle.cg_audit.specs.RunWorld.{IsActionOf, AreActionsOf}
use Rattle.cg_audit.proofs.Stages.{IsWholeLife, RecordIn, Now, Stage, Idle, Going, items_left, last_of, OwnIn, IsGoing, IsStage, Goes, own_later, own_after, own_at_end, own_here, stage_stays, GapsIn, no_gaps, same_step}
use Rattle.cg_audit.proofs.Taking.{others_take_nothing, step_marked, step_told}
use Rattle.cg_audit.proofs.Items.{AllSaid, sent_before, said_more}

-- ---- generations

own_with : (t : TableValue) (y : EntryValue) → own_entry (with_own y t) ≡ y
own_with t y = ap (λ (o : Option EntryValue). unwrap_or o (starting_entry 0)) held
  where
    held : table.get (table.insert t.entries t.own y) t.own ≡ Some y
    held = get-insert nat_cmp_total t.entries t.own y t.own ∙ ap (λ (b : Bool). cond b (Some y) (table.get t.entries t.own)) (same_test t.own t.own ∙ test_same t.own)

-- a step stays in its generation
generation_kept : (n : NodeValue) (e : Event) (x : NodeValue × Reply) → node_step n e ≡ Ok x → (own_entry x.0.table).generation ≡ (own_entry n.table).generation
generation_kept n e x step = go e step (tables_go_by_their_rules n e x.0 x.1 step)
  where
    own_so : (y : EntryValue) → x.0.table ≡ with_own y n.table → (own_entry x.0.table).generation ≡ y.generation
    own_so y is = ap (λ (t : TableValue). (own_entry t).generation) is ∙ ap (λ (y : EntryValue). y.generation) (own_with n.table y)

    table_so : x.0.table ≡ n.table → (own_entry x.0.table).generation ≡ (own_entry n.table).generation
    table_so is = ap (λ (t : TableValue). (own_entry t).generation) is

    held_so : table.get x.0.table.entries x.0.table.own ≡ table.get n.table.entries n.table.own → (own_entry x.0.table).generation ≡ (own_entry n.table).generation
    held_so is = ap (λ (o : Option EntryValue). (unwrap_or o (starting_entry 0)).generation) is

    go : (e : Event) → node_step n e ≡ Ok x → TableAfter n.table e x.0.table → (own_entry x.0.table).generation ≡ (own_entry n.table).generation
    go event.Beat step is = own_so (entry_after_beat (own_entry n.table)) is
    go (event.Set key text) step is = own_so (with_state key (Some text) (own_entry n.table)) is
    go (event.Tick now words) step is = own_so (entry_after_beat (own_entry n.table)) is
    go (event.Remove key) step is = own_so (with_state key None (own_entry n.table)) is
    go event.Opening step is = table_so is
    go (event.Syn syn) step is = table_so is
    go (event.Ack now ack) step is = held_so ((only_own_events_change_the_own_entry n (event.Ack now ack) x.0 x.1 step).1 refl)
    go (event.Ack2 now ack2) step is = held_so ((only_own_events_change_the_own_entry n (event.Ack2 now ack2) x.0 x.1 step).1 refl)

-- the base of a life is a start of its endpoint
life_base : (e : ℕ) (h : HistoryValue) (life : IsWholeLife e h) → h.base ≡ starting_node e life.is.replayed.begun.generation life.is.replayed.begun.settings
life_base e h life =
    let begun = life.is.replayed.begun in
    let own : begun.own ≡ e = sym (ap (λ (n : NodeValue). n.table.own) begun.is) ∙ life.is.own in
    base_is_start h life.is.replayed life.whole ∙ begun.is ∙ ap (λ (o : ℕ). starting_node o begun.generation begun.settings) own

-- the generation of a life
pub life_generation : (e : ℕ) (h : HistoryValue) (life : IsWholeLife e h) → generation_of h ≡ life.is.replayed.begun.generation
life_generation e h life =
    ap (λ (n : NodeValue). (own_entry n.table).generation) (life_base e h life)
    ∙ ap (λ (y : EntryValue). y.generation) (own_with (record { own = e; entries = table.empty }) (starting_entry life.is.replayed.begun.generation))

idle_generation : (w : PlaceWorld) (e : ℕ) → runs w e ≡ false → generation_at (w.histories e) (length (w.histories e)) ≡ 0
idle_generation w e idle = let none : length (w.histories e) ≡ 0 = grind (arith, nat_tests, idle) in ap (generation_at (w.histories e)) none

-- ---- one item

-- The result of the next item of an endpoint, in a world in which these have gone.
record Next (w : PlaceWorld) (gone : List RunItem) (e : ℕ) (now : Stage) (i : RunItem) (rest : List RunItem) : Type 0 where
  world : PlaceWorld
  then : Stage
  sound : IsSound world
  knows : KnowsOwners world
  on : AllContinue w.histories world.histories
  said : AllSaid world (gone ++ i ∷ [])
  running : (other : ℕ) → other ≢ e → runs world other ≡ runs w other
  places : (other : ℕ) → other ≢ e → world.places other ≡ w.places other
  taken : (other : ℕ) → other ≢ e → world.taken other ≡ w.taken other
  old : OldOrLast w world
  stage : IsStage world e then
  left : rest ≡ items_left e then
  goes : Goes w e now then
  action : PlaceAction
  acts : IsActionOf (λ other. RecordIn now) w i action
  after : after_action w action ≡ world

runs_on : (w v : PlaceWorld) (e : ℕ) (entries : _) → IsChangedAt w v e entries → (other : ℕ) → other ≢ e → runs v other ≡ runs w other
runs_on w v e entries changed other apart = changed.running other ∙ ap (λ b. cond b true (runs w other)) (test_other other e apart)

module _ (w : PlaceWorld) (gone : List RunItem) (sound : IsSound w) (knows : KnowsOwners w) (said : AllSaid w gone) (e : ℕ) where
  -- a record
  module _ (k : Now) (r : Item) (back : List Item) (ahead : List HistoryValue) (st : IsGoing w e k (r ∷ back) ahead) (i : RunItem) (rest : List RunItem)
      (is : i ∷ rest ≡ items_left e (Going k (r ∷ back) ahead)) (was : WasSent gone i.handled) where
    item : i ≡ item_of e (generation_of k.life) k.number r
    item = cc

    abbrev x : NodeValue × Reply
    x = st.replays.0

    step : node_step k.node r.event ≡ Ok x
    step = st.replays.1

    shape : r ≡ record_of r.caller r.event k.node x
    shape = st.replays.2

    handled : (number : ℕ) × IsSentBefore w number (handed_message r.event)
    handled = sent_before w gone said (handed_message r.event) (subst (λ (j : RunItem). WasSent gone j.handled) item was)

    abbrev v : PlaceWorld
    v = after_action w (action_at e handled.0 r.event)

    by_places : IsStepAt w v (span_handed w (action_at e handled.0 r.event)) e k.node x
    by_places = steps_are_by_places w e handled.0 k.node r.event x (world_is w sound knows) st.placed handled.1 step

    keeps : Keeps w v
    keeps = action_keeps w (action_at e handled.0 r.event)

    replied : r.reply ≡ x.1
    replied = ap (λ (j : Item). j.reply) shape

    sends : (m : Message) → i.sent ≡ Some m → (number : ℕ) × SaysSent v number m
    sends m it = go (subst (λ (o : Option Message). Sends k.node.settings.cluster w v o) (sym it_is ∙ it) by_places.sends)
      where
        it_is : i.sent ≡ message_of x.1
        it_is = ap (λ (j : RunItem). j.sent) item ∙ ap message_of replied

        go : SendsOne k.node.settings.cluster w v m → (number : ℕ) × SaysSent v number m
        go one = (
          length v.sent,
          record {
            said = one.said;
            is_said = subst (λ (ms : List PlaceMessage). at_place ms (length ms) ≡ Some one.said) (sym one.added) (sent_last w.sent one.said);
            says = one.is_sent.says;
          },
        )

    abbrev next_now : Now
    next_now = record {
      life = k.life;
      number = suc k.number;
      node = x.0;
      marks = λ owner. with_delta (k.marks owner) (outcome_about owner (outcomes_in r.reply)) (delta_handed owner r.event);
    }

    after_record_is : IsGoing v e next_now back ahead
    after_record_is = record {
      placed = record {
        runs_here = running_here w v e x.0.table.entries by_places.changed;
        own = by_places.own ∙ st.placed.own;
        spells = by_places.changed.here;
      };
      replays = st.replays.3;
      took = λ owner. st.took owner;
      marked = λ owner. subst (λ (answer : Reply). Marked v e owner (with_delta (k.marks owner) (outcome_about owner (outcomes_in answer)) (delta_handed owner r.event))) (sym replied)
          (step_marked w sound e handled.0 k.node st.placed owner (k.marks owner) (st.marked owner) r.event x handled.1 by_places);
      rise = subst (λ (g : ℕ). rise_past (Some g) (map generation_of ahead) ≡ true) (sym (generation_kept k.node r.event x step)) st.rise;
      lives = st.lives;
    }

    -- its gap, if it is one, and those of the records after it
    gaps_before : GapsLiePast x.0 back → GapsLiePast k.node (r ∷ back)
    gaps_before later [] q more n order leads owner outcome d eo ed =
        let same : q ≡ r = cc in
        let shows : outcome_about owner (outcomes_in x.1) ≡ Some outcome = ap (λ (answer : Reply). outcome_about owner (outcomes_in answer)) (sym replied) ∙ ap (λ (j : Item). outcome_about owner (outcomes_in j.reply)) (sym same) ∙ eo in
        let hands : delta_handed owner r.event ≡ Some d = ap (λ (j : Item). delta_handed owner j.event) (sym same) ∙ ed in
        subst (λ (m : NodeValue). IsTrue (is_gap outcome.took) ↔ LiesPast d.delta (table.get m.table.entries owner)) leads
        (step_told w sound e handled.0 k.node st.placed owner outcome d r.event x handled.1 by_places shows hands)
    gaps_before later (q ∷ qs) i more n order leads owner outcome d eo ed =
        let same : q ≡ r = cc in
        let rest : qs ++ i ∷ more ≡ back = cc in
        let its : node_step k.node r.event ≡ Ok leads.0 = subst (λ (j : Item). node_step k.node j.event ≡ Ok leads.0) same leads.1 in
        let led : leads.0 ≡ x = same_step leads.0 x (sym its ∙ step) in
        later qs i more n rest (subst (λ (y : NodeValue × Reply). Replays y.0 qs n) led leads.3) owner outcome d eo ed

    record_goes : Goes w e (Going k (r ∷ back) ahead) (Going next_now back ahead)
    record_goes = record {
      lasts = refl;
      before = λ entry o. elim o [ inl was ↦ inl (own_later k.node r back x step shape entry was) | inr later ↦ inr later ];
      onward = λ entry o. elim o [ inl was ↦ first entry (own_after k.node r back x step shape entry was) | inr later ↦ inr (inr later) ];
      gaps = λ later. (gaps_before later.0, later.1);
      records = λ generation number q o. elim o [ inl here ↦ inl (here.0, inr here.1) | inr later ↦ inr later ];
    }
      where
        first : (entry : EntryValue) → (own_entry k.node.table ≡ entry) ⊎ WasOwnFrom x.0 back entry → (last_entry (w.histories e) ≡ Some entry) ⊎ (WasOwnFrom x.0 back entry ⊎ WasOwnIn ahead entry)
        first entry (inl own) = inl (own_held w (world_is w sound knows) e k.node st.placed ∙ ap Some own)
        first entry (inr was) = inr (inl was)

    after_record : Next w gone e (Going k (r ∷ back) ahead) i rest
    after_record = record {
      world = v;
      then = Going next_now back ahead;
      sound = action_sound w (action_at e handled.0 r.event) sound;
      knows = action_knows w (action_at e handled.0 r.event) knows;
      on = keeps.histories;
      said = said_more w v keeps gone i said sends;
      running = runs_on w v e x.0.table.entries by_places.changed;
      places = by_places.changed.elsewhere;
      taken = λ other apart. others_take_nothing w e handled.0 r.event other apart;
      old = action_old w (action_at e handled.0 r.event);
      stage = after_record_is;
      left = cc;
      goes = record_goes;
      action = action_at e handled.0 r.event;
      acts = subst (λ (j : RunItem). IsActionOf (λ other. RecordIn (Going k (r ∷ back) ahead)) w j (action_at e handled.0 r.event)) (sym item) (inr (record {
        done = r;
        held = inl (refl, inl (refl, refl));
        message = handled.0;
        sent = handled.1;
        is = refl;
      }));
      after = refl;
    }

  -- a start
  module _ (now : Stage) (h : HistoryValue) (hs : List HistoryValue) (life : IsWholeLife e h) (lives : AllByRecursion (IsWholeLife e) hs) (last : ℕ) (held : generation_at (w.histories e) (length (w.histories e)) ≡ last)
      (rise : rise_past (Some last) (map generation_of (h ∷ hs)) ≡ true) (i : RunItem) (rest : List RunItem) (is : i ∷ rest ≡ items_of_lives e (h ∷ hs)) where
    abbrev g : ℕ
    g = life.is.replayed.begun.generation

    abbrev u : PlaceWorld
    u = with_start w e g

    may : may_start w e g ≡ true
    may =
        let first : nat_lt last (generation_of h) ≡ true = first_of (nat_lt last (generation_of h)) (rise_past (Some (generation_of h)) (map generation_of hs)) rise in
        ap (λ (m : ℕ). nat_lt m g) held ∙ ap (nat_lt last) (sym (life_generation e h life)) ∙ first

    started : after_action w (Start e g) ≡ u
    unfolding after_action
    started = rw may refl

    changed : IsChangedAt w u e (lone_table e (starting_entry g)).entries
    changed = start_changes w e g

    abbrev first_now : Now
    first_now = record { life = h; number = 1; node = h.base; marks = λ owner. [] }

    nothing_marked : (owner : ℕ) → Marked u e owner []
    nothing_marked owner = subst (λ spans. ([] ≡ marks_at (u.histories owner) spans) × AllSpans (u.histories owner) spans) (sym (start_forgets w e g owner)) (refl, tt)

    after_start_is : IsGoing u e first_now h.records hs
    after_start_is = record {
      placed = record {
        runs_here = running_here w u e (lone_table e (starting_entry g)).entries changed;
        own = ap (λ (n : NodeValue). n.table.own) (life_base e h life);
        spells = subst (λ (n : NodeValue). SpellsNode u e n.table.entries) (sym (life_base e h life)) changed.here;
      };
      replays = life.is.replayed.replays;
      took = λ owner. refl;
      marked = nothing_marked;
      rise = second_of (nat_lt last (generation_of h)) (rise_past (Some (generation_of h)) (map generation_of hs)) rise;
      lives = lives;
    }

    start_sends : (m : Message) → i.sent ≡ Some m → (number : ℕ) × SaysSent u number m
    start_sends m sent = let item : i ≡ start_item e (generation_of h) = cc in let none : None ≡ Some m = ap (λ (j : RunItem). j.sent) (sym item) ∙ sent in absurd cc

    after_start : Goes w e now (Going first_now h.records hs) → Next w gone e now i rest
    after_start goes = record {
      world = u;
      then = Going first_now h.records hs;
      sound = subst IsSound started (action_sound w (Start e g) sound);
      knows = subst KnowsOwners started (action_knows w (Start e g) knows);
      on = changed.histories;
      said = said_more w u (subst (Keeps w) started (action_keeps w (Start e g))) gone i said start_sends;
      running = runs_on w u e (lone_table e (starting_entry g)).entries changed;
      places = changed.elsewhere;
      taken = λ other apart. start_leaves w e g other true apart;
      old = subst (OldOrLast w) started (action_old w (Start e g));
      stage = after_start_is;
      left = cc;
      goes = goes;
      action = Start e g;
      acts = acts_here;
      after = started;
    }
      where
        item : i ≡ start_item e (generation_of h)
        item = cc

        acts_here : IsActionOf (λ other. RecordIn now) w i (Start e g)
        acts_here = subst (λ (j : RunItem). IsActionOf (λ other. RecordIn now) w j (Start e g)) (sym item) (inl (refl, ap (Start e) (sym (life_generation e h life))))

  -- the next item, whichever it is
  next : (now : Stage) → IsStage w e now → (i : RunItem) (rest : List RunItem) → i ∷ rest ≡ items_left e now → WasSent gone i.handled → Next w gone e now i rest
  next (Idle []) st i rest is was = absurd cc
  next (Idle (h ∷ hs)) st i rest is was =
      after_start (Idle (h ∷ hs)) h hs st.lives.0 st.lives.1 0 (idle_generation w e st.idle) st.rise i rest is
      (record { lasts = refl; before = λ entry o. o; onward = λ entry o. inr o; gaps = λ later. later; records = λ generation number r o. o })
  next (Going k [] []) st i rest is was = absurd cc
  next (Going k [] (h ∷ hs)) st i rest is was =
      let own : last_entry (w.histories e) ≡ Some (own_entry k.node.table) = own_held w (world_is w sound knows) e k.node st.placed in
      after_start (Going k [] (h ∷ hs)) h hs st.lives.0 st.lives.1 (own_entry k.node.table).generation (ap generation_in own) st.rise i rest is
      (record {
        lasts = refl;
        before = λ entry o. inr o;
        onward = λ entry o. elim o [ inl was ↦ inl (own ∙ ap Some (own_at_end k.node entry was)) | inr later ↦ inr later ];
        gaps = λ later. (no_gaps k.node, later);
        records = λ generation number r o. inr o;
      })
  next (Going k (r ∷ back) ahead) st i rest is was = after_record k r back ahead st i rest is was

-- ---- all items

-- the invariant after these items have gone
pub record IsAt (w : PlaceWorld) (gone : List RunItem) (s : ℕ → Stage) : Type 0 where
  pub sound : IsSound w
  pub knows : KnowsOwners w
  pub said : AllSaid w gone
  pub stages : (e : ℕ) → IsStage w e (s e)

-- the end of a life
pub record EndsAt (w : PlaceWorld) (e : ℕ) (h : HistoryValue) : Type 0 where
  pub placed : IsPlaced w e h.node
  pub marked : (owner : ℕ) → Marked w e owner (took_from owner [] h.records)

-- actions by more records
more_records : (P Q : ℕ → ℕ → ℕ → Item → Type 0) → ((e generation number : ℕ) (r : Item) → P e generation number r → Q e generation number r) → (w : PlaceWorld) (items : List RunItem) (actions : List PlaceAction)
    → AreActionsOf P w items actions → AreActionsOf Q w items actions
more_records P Q more w [] [] are = tt
more_records P Q more w [] (a ∷ actions) are = absurd are
more_records P Q more w (i ∷ items) [] are = absurd are
more_records P Q more w (i ∷ items) (a ∷ actions) are = (one are.0, more_records P Q more (after_action w a) items actions are.1)
  where
    one : IsActionOf P w i a → IsActionOf Q w i a
    one (inl start) = inl start
    one (inr event) = inr (record { done = event.done; held = more i.endpoint i.generation i.number event.done event.held; message = event.message; sent = event.sent; is = event.is })

-- and the end of all lives, after these items
pub record Ends (w : PlaceWorld) (s : ℕ → Stage) (items : List RunItem) : Type 0 where
  pub final : PlaceWorld
  pub actions : List PlaceAction
  pub are : AreActionsOf (λ e. RecordIn (s e)) w items actions
  pub after : final ≡ after_actions w actions
  pub sound : IsSound final
  pub knows : KnowsOwners final
  pub on : AllContinue w.histories final.histories
  pub lasts : (e : ℕ) (h : HistoryValue) → last_of (s e) ≡ Some h → EndsAt final e h
  pub old : (e place : ℕ) (entry : EntryValue) → at_place (final.histories e) place ≡ Some entry → (at_place (w.histories e) place ≡ Some entry) ⊎ OwnIn (s e) entry
  pub stood : (e : ℕ) (entry : EntryValue) → OwnIn (s e) entry → (place : ℕ) × (at_place (final.histories e) place ≡ Some entry)
  pub gaps : (e : ℕ) → GapsIn (s e)

module _ (w : PlaceWorld) (is : IsWorld w) (e : ℕ) where
  -- if nothing is left
  stage_ends : (now : Stage) → IsStage w e now → [] ≡ items_left e now → (h : HistoryValue) → last_of now ≡ Some h → EndsAt w e h
  stage_ends (Idle []) st none h last = absurd cc
  stage_ends (Idle (k ∷ ks)) st none h last = absurd cc
  stage_ends (Going k [] []) st none h last =
      let same : k.life ≡ h = cc in
      subst (EndsAt w e) same (record {
        placed = subst (IsPlaced w e) st.replays st.placed;
        marked = λ owner. subst (λ (ms : List Mark). Marked w e owner ms) (st.took owner) (st.marked owner);
      })
  stage_ends (Going k [] (j ∷ js)) st none h last = absurd cc
  stage_ends (Going k (r ∷ back) ahead) st none h last = absurd cc

  stage_stood : (now : Stage) → IsStage w e now → [] ≡ items_left e now → (entry : EntryValue) → OwnIn now entry → (place : ℕ) × (at_place (w.histories e) place ≡ Some entry)
  stage_stood (Idle []) st none entry o = absurd o
  stage_stood (Idle (k ∷ ks)) st none entry o = absurd cc
  stage_stood (Going k [] []) st none entry o = elim o [
    | inl was ↦ (length (w.histories e), own_held w is e k.node st.placed ∙ ap Some (own_at_end k.node entry was))
    | inr later ↦ absurd later
  ]
  stage_stood (Going k [] (j ∷ js)) st none entry o = absurd cc
  stage_stood (Going k (r ∷ back) ahead) st none entry o = absurd cc

stage_gaps : (e : ℕ) (now : Stage) → [] ≡ items_left e now → GapsIn now
stage_gaps e (Idle []) none = tt
stage_gaps e (Idle (k ∷ ks)) none = absurd cc
stage_gaps e (Going k [] []) none = (no_gaps k.node, tt)
stage_gaps e (Going k [] (j ∷ js)) none = absurd cc
stage_gaps e (Going k (r ∷ back) ahead) none = absurd cc

ended : (w : PlaceWorld) (gone : List RunItem) (s : ℕ → Stage) → IsAt w gone s → ((e : ℕ) → [] ≡ items_left e (s e)) → Ends w s []
ended w gone s at none =
    let is : IsWorld w = world_is w at.sound at.knows in
    record {
      final = w;
      actions = [];
      are = tt;
      after = refl;
      sound = at.sound;
      knows = at.knows;
      on = λ owner. continues_itself (w.histories owner);
      lasts = λ e h last. stage_ends w is e (s e) (at.stages e) (none e) h last;
      old = λ e place entry there. inl there;
      stood = λ e entry o. stage_stood w is e (s e) (at.stages e) (none e) entry o;
      gaps = λ e. stage_gaps e (s e) (none e);
    }

module _ (w : PlaceWorld) (gone : List RunItem) (s : ℕ → Stage) (at : IsAt w gone s) (i : RunItem) (rest : List RunItem) (n : Next w gone i.endpoint (s i.endpoint) i rest) where
  abbrev stages_then : ℕ → Stage
  stages_then = put_at s i.endpoint n.then

  at_next : IsAt n.world (gone ++ i ∷ []) stages_then
  at_next = record {
    sound = n.sound;
    knows = n.knows;
    said = n.said;
    stages = put_at-each (λ other stage. IsStage n.world other stage) s i.endpoint n.then n.stage
        (λ other apart. stage_stays w n.world n.on other (n.running other apart) (n.places other apart) (n.taken other apart) (s other) (at.stages other));
  }

  same_last : (other : ℕ) → last_of (s other) ≡ last_of (stages_then other)
  same_last = put_at-each (λ other stage. last_of (s other) ≡ last_of stage) s i.endpoint n.then n.goes.lasts (λ other apart. refl)

  own_before : (other : ℕ) (entry : EntryValue) → OwnIn (stages_then other) entry → OwnIn (s other) entry
  own_before = put_at-each (λ other stage. (entry : EntryValue) → OwnIn stage entry → OwnIn (s other) entry) s i.endpoint n.then n.goes.before (λ other apart entry o. o)

  own_onward : (other : ℕ) (entry : EntryValue) → OwnIn (s other) entry → (last_entry (w.histories other) ≡ Some entry) ⊎ OwnIn (stages_then other) entry
  own_onward = put_at-each (λ other stage. (entry : EntryValue) → OwnIn (s other) entry → (last_entry (w.histories other) ≡ Some entry) ⊎ OwnIn stage entry) s i.endpoint n.then n.goes.onward (λ other apart entry o. inr o)

  gaps_now : ((other : ℕ) → GapsIn (stages_then other)) → (other : ℕ) → GapsIn (s other)
  gaps_now later other = all_before other (later other)
    where
      all_before : (other : ℕ) → GapsIn (stages_then other) → GapsIn (s other)
      all_before = put_at-each (λ other stage. GapsIn stage → GapsIn (s other)) s i.endpoint n.then n.goes.gaps (λ other apart gaps. gaps)

  records_before : (other generation number : ℕ) (r : Item) → RecordIn (stages_then other) generation number r → RecordIn (s other) generation number r
  records_before = put_at-each (λ other stage. (generation number : ℕ) (r : Item) → RecordIn stage generation number r → RecordIn (s other) generation number r) s i.endpoint n.then n.goes.records (λ other apart generation number r o. o)

  ends_before : (items : List RunItem) → Ends n.world stages_then items → Ends w s (i ∷ items)
  ends_before items ends = record {
    final = ends.final;
    actions = n.action ∷ ends.actions;
    are = (acts, subst (λ (v : PlaceWorld). AreActionsOf (λ e. RecordIn (s e)) v items ends.actions) (sym n.after) (more_records (λ e. RecordIn (stages_then e)) (λ e. RecordIn (s e)) records_before n.world items ends.actions ends.are));
    after = ends.after ∙ ap (λ (v : PlaceWorld). after_actions v ends.actions) (sym n.after);
    sound = ends.sound;
    knows = ends.knows;
    on = λ owner. continues_on (n.on owner) (ends.on owner);
    lasts = λ other h last. ends.lasts other h (sym (same_last other) ∙ last);
    old = λ other place entry there. elim (ends.old other place entry there) [ inl then ↦ old_here other place entry then | inr o ↦ inr (own_before other entry o) ];
    stood = λ other entry o. elim (own_onward other entry o) [ inl last ↦ stands other entry last | inr later ↦ ends.stood other entry later ];
    gaps = gaps_now ends.gaps;
  }
    where
      old_here : (other place : ℕ) (entry : EntryValue) → at_place (n.world.histories other) place ≡ Some entry → (at_place (w.histories other) place ≡ Some entry) ⊎ OwnIn (s other) entry
      old_here other place entry there = elim (n.old other place entry there) [
        | inl before ↦ inl before
        | inr last ↦ inr (own_before other entry (own_here n.world (world_is n.world n.sound n.knows) other (stages_then other) (at_next.stages other) entry last))
      ]

      acts : IsActionOf (λ e. RecordIn (s e)) w i n.action
      acts = elim n.acts [ inl start ↦ inl start | inr event ↦ inr (record { done = event.done; held = event.held; message = event.message; sent = event.sent; is = event.is }) ]

      stands : (other : ℕ) (entry : EntryValue) → last_entry (w.histories other) ≡ Some entry → (place : ℕ) × (at_place (ends.final.histories other) place ≡ Some entry)
      stands other entry last = (length (w.histories other), (continues_on (n.on other) (ends.on other)).same (length (w.histories other)) (omega arith) ∙ last)

pub walk : (items : List RunItem) (w : PlaceWorld) (gone : List RunItem) (s : ℕ → Stage) → IsAt w gone s → EachWasSent gone items → ((e : ℕ) → items_by e items ≡ items_left e (s e)) → Ends w s items
walk [] w gone s at sent left = ended w gone s at left
walk (i ∷ items) w gone s at sent left =
    let e : ℕ = i.endpoint in
    let here : i ∷ items_by e items ≡ items_left e (s e) = ap (λ b. cond b (i ∷ items_by e items) (items_by e items)) (sym (test_same e)) ∙ left e in
    let n : Next w gone e (s e) i (items_by e items) = next w gone at.sound at.knows at.said e (s e) (at.stages e) i (items_by e items) here sent.0 in
    ends_before w gone s at i (items_by e items) n items (walk items n.world (gone ++ i ∷ []) (put_at s e n.then) (at_next w gone s at i (items_by e items) n) sent.1 (left_by n))
  where
    left_by : (n : Next w gone i.endpoint (s i.endpoint) i (items_by i.endpoint items)) → (other : ℕ) → items_by other items ≡ items_left other (put_at s i.endpoint n.then other)
    left_by n = put_at-each (λ other stage. items_by other items ≡ items_left other stage) s i.endpoint n.then n.left
        (λ other apart. ap (λ b. cond b (i ∷ items_by other items) (items_by other items)) (sym (test_other i.endpoint other (λ same. apart (sym same)))) ∙ left other)
