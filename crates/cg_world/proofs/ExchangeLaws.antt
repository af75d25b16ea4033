-- Exchanges between nodes that run.
use Rattle.std.proofs.Common.{◌≡◌, ℕ, List, [], ◌∷◌, ◌++◌, length, refl, sym, ◌∙◌, ap, subst, arith, Bool, true, false, None, Result, Ok, Err, max}
use Rattle.std.specs.Prelude.{◌||◌, ◌==◌, is_some, IsOk, map as map_list}
use Rattle.std.specs.List.{list_any}
use Rattle.std.specs.Option.{option_map}
use Rattle.std.specs.Cmp.{nat_cmp_total}
use Rattle.std.specs.FinMap.{same_map, nat_cmp-IsAntisymmetric}
use Rattle.cg_entry.specs.Values.{EntryValue}
use Rattle.cg_entry.specs.History.{at_place}
use Rattle.cg_table.specs.Values.{Entries}
use Rattle.cg_table.specs.Merge.{merge_of}
use Rattle.cg_table.specs.Spelling.{SpellsPlaces}
use Rattle.cg_table.proofs.MergeLemmas.{merge_is_the_join}
use Rattle.cg_tokens.specs.Ring.{ring}
use Rattle.cg_types.specs.declared.fault.Fault.{Fault}
use Rattle.cg_core.specs.Values.{NodeValue}
use Rattle.cg_places.specs.PlaceWorld.{PlaceWorld, runs, after_action}
use Rattle.cg_places.specs.PlaceWorld as world
use Rattle.cg_places.specs.Join.{Within}
use Rattle.cg_places.specs.Exchange.{PlaceExchange, IsNoStartOf, NoStartsOf, NoStartsOfEither, by_places, prompt_exchange, after_opening, at_syn, after_syn, after_ack, after_exchange, following}
use Rattle.cg_places.specs.Laws.{exchange_join, BothRun, ReachesTheJoin, EndsAtTheJoin}
use Rattle.cg_places.specs.Refusals.{refusal, done_exchange}
use Rattle.cg_places.specs.Spelling.{StaySpelled}
use Rattle.cg_world.specs.declared.action.Action.{Action}
use Rattle.cg_world.specs.declared.action.Action.TheVariants.{Start, Local, Deliver}
use Rattle.cg_world.specs.declared.action.LocalEvent.TheVariants.{Beat, Set, Remove, Opening, Tick}
use Rattle.cg_world.specs.World.{starts, WorldValue, acting, or_unchanged, act, run_from, run, new_world, plain_action, place_world}
use Rattle.cg_world.specs.Terms.{Runs}
use Rattle.cg_world.specs.WorldLaws.{IsBeatAndOpening}
use Rattle.cg_world.specs.Exchange.{Exchange, by_nodes, NeverStarts, StartsNeither, ExchangesAreLists, TickedExchangesFollowBeats, plain_exchange, IsPast, ExchangesEndAtTheJoin, UndisturbedExchangesMerge}
use Rattle.cg_places.proofs.Stages.{at_ack, at_ack2}
use Rattle.cg_places.proofs.PutLemmas.{test_same}
use Rattle.cg_places.proofs.WorldLemmas.{IsSound}
use Rattle.cg_places.proofs.OnwardLemmas.{Keeps, keeps_on, action_keeps, still_runs}
use Rattle.cg_places.proofs.ExchangeLemmas.{to_at_syn, to_at_ack, to_at_ack2, opening_is_due, syn_is_due, ack_is_due, ack2_is_due, exchange_reaches}
use Rattle.cg_places.proofs.UndisturbedLemmas.{undisturbed_ends}
use Rattle.cg_places.proofs.ListLemmas.{AreInOrder, after_both, followed_from, listed_from, done_neither}
use Rattle.cg_places.proofs.FollowLemmas.{spelling_stays}
use Rattle.cg_world.proofs.SpellingLemmas.{entries_in}
use Rattle.cg_world.proofs.ActionLemmas.{AgreesBy, action_agrees, running}
use Rattle.cg_world.proofs.WorldLaws.{running_node, same_number_sent, Joined, done_joined, joined_from, joined, actions_one_by_one, ticks_are_beats_and_openings}

-- ---- the list of an exchange

nodes_in_order : AreInOrder by_nodes
nodes_in_order = record { none = λ c. refl; next = λ c x xs. refl }

pub exchanges_are_lists : ExchangesAreLists
exchanges_are_lists settings actions x = listed_from by_nodes nodes_in_order (new_world settings) actions x

-- a tick leaves the same as an opening after the beat
ticked_opening : (c : WorldValue) (x : Exchange) (now : ℕ) (words : List ℕ) → IsOk (acting c (Local x.opener Beat)) → act c (Local x.opener (Tick now words)) ≡ after_opening by_nodes (act c (Local x.opener Beat)) x
ticked_opening c x now words ok = go (acting c (Local x.opener Beat)) (acting c (Local x.opener (Tick now words))) (ticks_are_beats_and_openings c x.opener now words) ok
  where
    go : (beat tick : Result WorldValue Fault) → IsBeatAndOpening x.opener beat tick → IsOk beat → or_unchanged c tick ≡ after_opening by_nodes (or_unchanged c beat) x
    go (Ok d) (Ok e) is ok = ap (or_unchanged d) (is.done d refl)
    go (Ok d) (Err fault) is ok = absurd (let none = is.refused in cc)
    go (Err fault) tick is ok = absurd cc

pub ticked_exchanges_follow_beats : TickedExchangesFollowBeats
ticked_exchanges_follow_beats settings actions x now words ok =
    let c : WorldValue = run settings actions in
    let d : WorldValue = act c (Local x.opener Beat) in
    let beaten : run settings (actions ++ Local x.opener Beat ∷ []) ≡ d = actions_one_by_one settings actions (Local x.opener Beat) in
    subst (λ (d : WorldValue). run settings (actions ++ Local x.opener (Tick now words) ∷ following by_nodes d x) ≡ after_exchange by_nodes d x) (sym beaten)
    (after_both by_nodes nodes_in_order (new_world settings) actions (Local x.opener (Tick now words) ∷ following by_nodes d x)
    ∙ ap (λ (e : WorldValue). run_from e (following by_nodes d x)) (ticked_opening c x now words ok) ∙ followed_from by_nodes nodes_in_order d x)

-- ---- actions that start a node, by places

neither_is : (a b : Bool) → (a || b) ≡ false → (a ≡ false) × (b ≡ false)
neither_is true b e = absurd cc
neither_is false b e = (refl, e)

no_start : (node : ℕ) (action : Action) → starts node action ≡ false → IsNoStartOf node (plain_action action)
no_start node (Start other generation) e = λ same. let t : (other == node) ≡ true = ap (λ k. k == node) same ∙ test_same node in cc
no_start node (Local other Beat) e = tt
no_start node (Local other (Set key text)) e = tt
no_start node (Local other (Remove key)) e = tt
no_start node (Local other Opening) e = tt
no_start node (Local other (Tick now words)) e = tt
no_start node (Deliver number to now) e = tt

no_starts : (node : ℕ) (actions : List Action) → NeverStarts node actions → NoStartsOf node (map_list plain_action actions)
no_starts node [] e = tt
no_starts node (action ∷ actions) e = let both = neither_is (starts node action) (list_any (starts node) actions) e in (no_start node action both.0, no_starts node actions both.1)

plain_neither : (x : Exchange) → StartsNeither x → NoStartsOfEither (plain_exchange x)
plain_neither x s = record {
  opener = (no_starts x.opener x.before_syn s.opener.0, no_starts x.opener x.before_ack s.opener.1, no_starts x.opener x.before_ack2 s.opener.2);
  answerer = (no_starts x.answerer x.before_syn s.answerer.0, no_starts x.answerer x.before_ack s.answerer.1, no_starts x.answerer x.before_ack2 s.answerer.2);
}

-- ---- an exchange by places

-- an action that is not refused
act_joined : (c : WorldValue) (w : PlaceWorld) (action : Action) → Joined c w → refusal w (plain_action action) ≡ None → Joined (act c action) (after_action w (plain_action action))
act_joined c w action j free = go (acting c action) (action_agrees c w j.tied j.bounded action)
  where
    go : (left : Result WorldValue Fault) → AgreesBy (refusal w (plain_action action)) (after_action w (plain_action action)) left → Joined (or_unchanged c left) (after_action w (plain_action action))
    go (Ok d) a = done_joined c w action d j a
    go (Err fault) a = absurd (let due = a in cc)

-- a delivery of the message that was sent last in an earlier world
deliver_joined : (c : WorldValue) (w : PlaceWorld) (sent : ℕ) (to now number : ℕ) → sent ≡ number → Joined c w → refusal w (world.Deliver number to) ≡ None → Joined (act c (Deliver sent to now)) (after_action w (world.Deliver number to))
deliver_joined c w sent to now number same j free = subst (λ k. Joined (act c (Deliver k to now)) (after_action w (world.Deliver number to))) (sym same) (act_joined c w (Deliver number to now) j free)

module _ (c : WorldValue) (w : PlaceWorld) (x : Exchange) (j : Joined c w) (both : BothRun w (plain_exchange x)) (neither : NoStartsOfEither (plain_exchange x)) where
  abbrev pub y : PlaceExchange
  y = done_exchange w (plain_exchange x)

  pub never : NoStartsOfEither y
  never = done_neither w (plain_exchange x) neither

  pub both_run : BothRun w y
  both_run = record { opener = both.opener; answerer = both.answerer }

  after_opening_joined : Joined (after_opening by_nodes c x) (after_opening by_places w y)
  after_opening_joined = act_joined c w (Local x.opener Opening) j (opening_is_due w y j.tied.sound both_run never)

  pub at_syn_joined : Joined (at_syn by_nodes c x) (at_syn by_places w y)
  at_syn_joined = joined_from (after_opening by_nodes c x) (after_opening by_places w y) x.before_syn after_opening_joined

  after_syn_joined : Joined (after_syn by_nodes c x) (after_syn by_places w y)
  after_syn_joined = deliver_joined (at_syn by_nodes c x) (at_syn by_places w y) (length (after_opening by_nodes c x).sent) x.answerer x.syn_at (length (after_opening by_places w y).sent) (same_number_sent after_opening_joined) at_syn_joined
      (syn_is_due w y j.tied.sound both_run never)

  at_ack_joined : Joined (at_ack by_nodes c x) (at_ack by_places w y)
  at_ack_joined = joined_from (after_syn by_nodes c x) (after_syn by_places w y) x.before_ack after_syn_joined

  after_ack_joined : Joined (after_ack by_nodes c x) (after_ack by_places w y)
  after_ack_joined = deliver_joined (at_ack by_nodes c x) (at_ack by_places w y) (length (after_syn by_nodes c x).sent) x.opener x.ack_at (length (after_syn by_places w y).sent) (same_number_sent after_syn_joined) at_ack_joined
      (ack_is_due w y j.tied.sound both_run never)

  at_ack2_joined : Joined (at_ack2 by_nodes c x) (at_ack2 by_places w y)
  at_ack2_joined = joined_from (after_ack by_nodes c x) (after_ack by_places w y) x.before_ack2 after_ack_joined

  pub exchanged_joined : Joined (after_exchange by_nodes c x) (after_exchange by_places w y)
  exchanged_joined = deliver_joined (at_ack2 by_nodes c x) (at_ack2 by_places w y) (length (after_ack by_nodes c x).sent) x.answerer x.ack2_at (length (after_ack by_places w y).sent) (same_number_sent after_ack_joined) at_ack2_joined
      (ack2_is_due w y j.tied.sound both_run never)

  pub from_at_syn : Keeps (at_syn by_places w y) (after_exchange by_places w y)
  from_at_syn =
      keeps_on (keeps_on (to_at_ack w y j.tied.sound both_run never) (to_at_ack2 w y j.tied.sound both_run never)) (action_keeps (at_ack2 by_places w y) (world.Deliver (length (after_ack by_places w y).sent) x.answerer))

  pub from_start : Keeps w (after_exchange by_places w y)
  from_start = keeps_on (to_at_syn w y j.tied.sound both_run never) from_at_syn

-- ---- nodes that run, and their entries

runs_by : (c : WorldValue) (w : PlaceWorld) → Joined c w → (node : ℕ) (n : NodeValue) → Runs c node n → runs w node ≡ true
runs_by c w j node n e = sym (running c w j.tied node) ∙ ap is_some e

holds : (c : WorldValue) (w : PlaceWorld) → Joined c w → (node : ℕ) (n : NodeValue) → Runs c node n → SpellsPlaces w.histories n.table.entries (w.places node)
holds c w j node n e = j.tied.is.tables.spelled node n.table.entries (ap (option_map entries_in) e)

-- and goes on to spell
holds_on : (c : WorldValue) (w v : PlaceWorld) → Joined c w → Keeps w v → (node : ℕ) (n : NodeValue) → Runs c node n → SpellsPlaces v.histories n.table.entries (w.places node)
holds_on c w v j keeps node n e = let st : StaySpelled w.histories v.histories = spelling_stays w.histories v.histories keeps.histories in st.tables n.table.entries (w.places node) (holds c w j node n e)

-- tables that spell the same places are the same
same_spelled : (histories : ℕ → List EntryValue) (one other : Entries) (mine theirs : ℕ → ℕ) → SpellsPlaces histories one mine → SpellsPlaces histories other theirs → ((owner : ℕ) → mine owner ≡ theirs owner) → one ≡ other
same_spelled histories one other mine theirs a b same = same_map nat_cmp_total nat_cmp-IsAntisymmetric one other (λ owner. a.at owner ∙ ap (at_place (histories owner)) (same owner) ∙ sym (b.at owner))

-- a table past the places that another spells is past that one
past_by : (v : PlaceWorld) → IsSound v → (one other : Entries) (mine theirs : ℕ → ℕ) → SpellsPlaces v.histories one mine → SpellsPlaces v.histories other theirs → Within theirs mine → IsPast one other
past_by v s one other mine theirs a b within =
    same_spelled v.histories (merge_of one other) one (λ owner. max (mine owner) (theirs owner)) mine (merge_is_the_join v.histories s.histories one other mine theirs a b) a (λ owner. omega (arith, within owner))

pub exchanges_end_at_the_join : ExchangesEndAtTheJoin
exchanges_end_at_the_join settings actions x opening other ro ra starts_neither =
    let neither : NoStartsOfEither (plain_exchange x) = plain_neither x starts_neither in
    let c : WorldValue = run settings actions in
    let w : PlaceWorld = place_world actions in
    let j : Joined c w = joined settings actions in
    let both : BothRun w (plain_exchange x) = record { opener = runs_by c w j x.opener opening ro; answerer = runs_by c w j x.answerer other ra } in
    let z : PlaceExchange = y c w x j both neither in
    let v : PlaceWorld = after_exchange by_places w z in
    let k : Joined (after_exchange by_nodes c x) v = exchanged_joined c w x j both neither in
    let m : Joined (at_syn by_nodes c x) (at_syn by_places w z) = at_syn_joined c w x j both neither in
    let late : Keeps (at_syn by_places w z) v = from_at_syn c w x j both neither in
    let all : Keeps w v = from_start c w x j both neither in
    let reach : ReachesTheJoin w z = exchange_reaches w z j.tied.sound (both_run c w x j both neither) (never c w x j both neither) in
    let answering = running_node (at_syn by_nodes c x) (at_syn by_places w z) m x.answerer (still_runs (to_at_syn w z j.tied.sound (both_run c w x j both neither) (never c w x j both neither)) x.answerer both.answerer) in
    let opener = running_node (after_exchange by_nodes c x) v k x.opener (still_runs all x.opener both.opener) in
    let answerer = running_node (after_exchange by_nodes c x) v k x.answerer (still_runs all x.answerer both.answerer) in
    let both_held : SpellsPlaces v.histories (merge_of answering.0.table.entries opening.table.entries) (exchange_join w z) =
    merge_is_the_join v.histories k.tied.sound.histories answering.0.table.entries opening.table.entries ((at_syn by_places w z).places x.answerer) (w.places x.opener)
    (holds_on (at_syn by_nodes c x) (at_syn by_places w z) v m late x.answerer answering.0 answering.1) (holds_on c w v j all x.opener opening ro) in
    record {
      answering = answering.0;
      answers = answering.1;
      opener = opener.0;
      opener_runs = opener.1;
      answerer = answerer.0;
      answerer_runs = answerer.1;
      opener_past = past_by v k.tied.sound opener.0.table.entries _ (v.places x.opener) (exchange_join w z) (holds (after_exchange by_nodes c x) v k x.opener opener.0 opener.1) both_held reach.opener;
      answerer_past = past_by v k.tied.sound answerer.0.table.entries _ (v.places x.answerer) (exchange_join w z) (holds (after_exchange by_nodes c x) v k x.answerer answerer.0 answerer.1) both_held reach.answerer;
    }

pub undisturbed_exchanges_merge : UndisturbedExchangesMerge
undisturbed_exchanges_merge settings actions a b syn_at ack_at ack2_at opening answering ro ra =
    let c : WorldValue = run settings actions in
    let w : PlaceWorld = place_world actions in
    let j : Joined c w = joined settings actions in
    let x : Exchange = prompt_exchange a b syn_at ack_at ack2_at in
    let both : BothRun w (plain_exchange x) = record { opener = runs_by c w j a opening ro; answerer = runs_by c w j b answering ra } in
    let neither : NoStartsOfEither (plain_exchange x) = record { opener = (tt, tt, tt); answerer = (tt, tt, tt) } in
    let z : PlaceExchange = y c w x j both neither in
    let v : PlaceWorld = after_exchange by_places w z in
    let k : Joined (after_exchange by_nodes c x) v = exchanged_joined c w x j both neither in
    let all : Keeps w v = from_start c w x j both neither in
    let ends : EndsAtTheJoin w a b = undisturbed_ends w a b j.tied.sound both in
    let opener = running_node (after_exchange by_nodes c x) v k a (still_runs all a both.opener) in
    let answerer = running_node (after_exchange by_nodes c x) v k b (still_runs all b both.answerer) in
    let merge : SpellsPlaces v.histories (merge_of answering.table.entries opening.table.entries) (λ owner. max (w.places b owner) (w.places a owner)) =
    merge_is_the_join v.histories k.tied.sound.histories answering.table.entries opening.table.entries (w.places b) (w.places a) (holds_on c w v j all b answering ra) (holds_on c w v j all a opening ro) in
    let at_opener : SpellsPlaces v.histories opener.0.table.entries (v.places a) = holds (after_exchange by_nodes c x) v k a opener.0 opener.1 in
    let at_answerer : SpellsPlaces v.histories answerer.0.table.entries (v.places b) = holds (after_exchange by_nodes c x) v k b answerer.0 answerer.1 in
    let same : opener.0.table.entries ≡ answerer.0.table.entries =
    same_spelled v.histories opener.0.table.entries answerer.0.table.entries (v.places a) (v.places b) at_opener at_answerer (λ owner. ends.opened owner ∙ sym (ends.answered owner)) in
    record {
      opener = opener.0;
      opener_runs = opener.1;
      answerer = answerer.0;
      answerer_runs = answerer.1;
      is_merge = same_spelled v.histories opener.0.table.entries _ (v.places a) (λ owner. max (w.places b owner) (w.places a owner)) at_opener merge ends.opened;
      equal = record { entries = same; rings = ap ring same };
    }
