-- Each action of the nodes is the action of the places.
use Rattle.std.proofs.Common.{◌≡◌, ◌≤◌, ◌+◌, ℕ, List, [], ◌∷◌, ◌++◌, length, refl, sym, ◌∙◌, ap, subst, arith, Bool, true, false, Option, Some, None, Result, Ok, Err}
use Rattle.std.specs.Prelude.{◌||◌, cond, is_some, nat_lt, nat_eq}
use Rattle.std.specs.Option.{option_map}
use Rattle.std.specs.FinMap as map
use Rattle.std.proofs.lemmas.Bool.Decides.{nat_tests}
use Rattle.std.proofs.lemmas.Slice.Eq.{bytes_eq-Decides}
use Rattle.cg_types.specs.Answer.{fault_of}
use Rattle.cg_types.specs.declared.fault.Fault.{Fault}
use Rattle.cg_types.specs.declared.fault.Fault.TheVariants.{TableFull, NotRising, NoSuchNode, NoSuchKey}
use Rattle.cg_types.specs.declared.limits.TheConstants.{MEMBER_LIMIT}
use Rattle.cg_types.specs.Rising.{Rises}
use Rattle.cg_types.specs.Text.{ClusterValue}
use Rattle.cg_entry.specs.Entry.{starting_entry, has_text, removal_of}
use Rattle.cg_entry.specs.History.{at_place, generation_of, generation_at}
use Rattle.cg_entry.specs.Place.{Span}
use Rattle.cg_table.specs.Values.{TableValue}
use Rattle.cg_table.specs.Own.{own_entry}
use Rattle.cg_messages.specs.declared.message.Message.{Message}
use Rattle.cg_messages.specs.declared.message.Message.TheVariants as message
use Rattle.cg_messages.specs.declared.owner_delta.OwnerDelta.{OwnerDelta}
use Rattle.cg_messages.specs.Members.{endpoints_of_deltas}
use Rattle.cg_messages.specs.Values.{SynValue, AckValue, Ack2Value}
use Rattle.cg_exchange.specs.Answering.{same_cluster}
use Rattle.cg_messages.specs.declared.outcome.Outcome.{Outcome}
use Rattle.cg_exchange.specs.Taking.{table_after, outcomes_of, held_after, deltas_granted, taking_ack, taking_ack2}
use Rattle.cg_places.specs.MessageSpelling.{SpellsSpans}
use Rattle.cg_places.specs.Places.{Ask}
use Rattle.cg_places.specs.PlaceMessages.{PlaceMessage, Syn, Ack, Ack2, AreSpans}
use Rattle.cg_places.specs.MessageLaws.{IsMoved, AckMoves, IsAnswered}
use Rattle.cg_places.proofs.MessageLaws.{syn_is_answered, ack_is_taken, ack2_is_taken}
use Rattle.cg_core.specs.declared.event.Event.{Event}
use Rattle.cg_core.specs.declared.event.Event.TheVariants as event
use Rattle.cg_core.specs.declared.reply.Reply.{Reply}
use Rattle.cg_core.specs.Values.{NodeValue}
use Rattle.cg_core.specs.Step.{Step, then, starting_node, next_of, node_step}
use Rattle.cg_places.specs.PlaceWorld.{PlaceWorld, runs, with_start, may_start, last_entry, after_delivery, after_action}
use Rattle.cg_places.specs.PlaceWorld as places
use Rattle.cg_places.specs.Refusals.{change_refusal, removal_refusal, node_refusal, deliver_refusal, refusal}
use Rattle.cg_places.specs.Spelling.{SpellsNode, SpellsNodes}
use Rattle.cg_places.proofs.PutLemmas.{test_same, same_number}
use Rattle.cg_places.proofs.GrowthLemmas.{grown_continue}
use Rattle.cg_places.proofs.RoomLemmas.{room_for_deltas}
use Rattle.cg_places.proofs.FollowLemmas.{follow, replaced_spells}
use Rattle.cg_places.specs.Step.{handed_message, message_of, action_at, span_handed, IsPlaced, IsSentBefore, IsSent, Sends, IsStepAt}
use Rattle.cg_places.proofs.StepLaws.{own_held as own_is_held, steps_are_by_places}
use Rattle.cg_world.specs.World.{LocalEvent, Beat, Set, Remove, Opening, Tick, Action, Start, Local, Deliver, WorldValue, tables_of, with_node, with_sent, after_step, step_of, step_at, generation_held, event_of, arrival_of, acting, plain_local, plain_action}
use Rattle.cg_world.specs.Terms.{own_at}
use Rattle.cg_world.specs.WorldLaws.{AllSent, IsNodeAt, SpellsWorld}
use Rattle.cg_world.proofs.SpellingLemmas.{Tied, Bounded, BothSent, both_at, all_stay, all_push, nodes_with, replaced, len_with, entries_in, node_spells}

-- the refusals are the same, and so are the done actions
abbrev pub AgreesBy : Option Fault → PlaceWorld → Result WorldValue Fault → Type 0
AgreesBy due v (Ok d) = (due ≡ None) × SpellsWorld d v
AgreesBy due v (Err fault) = due ≡ Some fault

-- ---- the entry of a node

is_some_mapped : (o : Option NodeValue) → is_some (option_map entries_in o) ≡ is_some o
is_some_mapped None = refl
is_some_mapped (Some n) = refl

none_runs : (w : PlaceWorld) (node : ℕ) → runs w node ≡ false → length (w.histories node) ≡ 0
none_runs w node e = grind (arith, nat_tests)

module _ (c : WorldValue) (w : PlaceWorld) (t : Tied c w) (node : ℕ) where
  pub running : is_some (map.get c.nodes node) ≡ runs w node
  running = sym (is_some_mapped (map.get c.nodes node)) ∙ t.is.tables.running node

  -- of one that does not run
  module _ (none : map.get c.nodes node ≡ None) where
    not_running : runs w node ≡ false
    not_running = sym running ∙ ap is_some none

    no_entry : last_entry (w.histories node) ≡ None
    no_entry = ap (at_place (w.histories node)) (none_runs w node not_running)

  -- of one that runs
  module _ (n : NodeValue) (e : map.get c.nodes node ≡ Some n) where
    pub runs_here : runs w node ≡ true
    runs_here = sym running ∙ ap is_some e

    pub at_node : IsNodeAt c.settings node n
    at_node = t.is.each node n e

    table_here : tables_of c node ≡ Some n.table.entries
    table_here = ap (option_map entries_in) e

    spells_here : SpellsNode w node n.table.entries
    spells_here = t.is.tables.spelled node n.table.entries table_here

    placed_here : IsPlaced w node n
    placed_here = record { runs_here = runs_here; own = at_node.its_endpoint; spells = spells_here }

    pub own_held : last_entry (w.histories node) ≡ Some (own_entry n.table)
    own_held = own_is_held w (t.is_world) node n placed_here

    many_still : (m : NodeValue) → map.len (map.insert c.nodes node m) ≡ length w.owners
    many_still m = len_with c node m true (ap is_some e) ∙ t.is.as_many

  own_by : (o : Option NodeValue) → map.get c.nodes node ≡ o → option_map (λ n. own_entry n.table) o ≡ last_entry (w.histories node)
  own_by None e = sym (no_entry e)
  own_by (Some n) e = sym (own_held n e)

  -- the last entry of its history
  pub own_last : own_at c node ≡ last_entry (w.histories node)
  own_last = own_by (map.get c.nodes node) refl

  generation_by : (o : Option NodeValue) → map.get c.nodes node ≡ o → generation_held o ≡ generation_at (w.histories node) (length (w.histories node))
  generation_by None e = ap generation_of (sym (no_entry e))
  generation_by (Some n) e = sym (ap generation_of (own_held n e))

-- ---- a start

start_by : (d : WorldValue) (v w : PlaceWorld) → SpellsWorld d v → (may held small : Bool)
    → AgreesBy (cond may (cond held None (cond small None (Some TableFull))) (Some NotRising)) (cond may v w) (cond may (cond (held || small) (Ok d) (Err TableFull)) (Err NotRising))
start_by d v w p true true small = (refl, p)
start_by d v w p true false true = (refl, p)
start_by d v w p true false false = refl
start_by d v w p false held small = refl

start_with : (d : WorldValue) (v w : PlaceWorld) → SpellsWorld d v → (may may_here held held_here small small_here : Bool) → may ≡ may_here → held ≡ held_here → small ≡ small_here
    → AgreesBy (cond may_here (cond held_here None (cond small_here None (Some TableFull))) (Some NotRising)) (cond may_here v w) (cond may (cond (held || small) (Ok d) (Err TableFull)) (Err NotRising))
start_with d v w p may may_here held held_here small small_here a b c = rw (a, b, c) (start_by d v w p may_here held_here small_here)

module _ (c : WorldValue) (w : PlaceWorld) (t : Tied c w) (node generation : ℕ) where
  many_started : map.len (map.insert c.nodes node (starting_node node generation c.settings)) ≡ length (with_start w node generation).owners
  unfolding with_start
  many_started = len_with c node (starting_node node generation c.settings) (runs w node) (running c w t node) ∙ go (runs w node)
    where
      go : (b : Bool) → cond b (map.len c.nodes) (map.len c.nodes + 1) ≡ length (cond b w.owners (node ∷ w.owners))
      go true = t.is.as_many
      go false = omega (arith, t.is.as_many)

  start_spells : SpellsWorld (with_node c node (starting_node node generation c.settings)) (with_start w node generation)
  unfolding with_start
  start_spells = node_spells c w (with_start w node generation) node (starting_node node generation c.settings) t.is
      ((follow (tables_of c) w t.sound t.is.tables).start node generation (tables_of (with_node c node (starting_node node generation c.settings))) (replaced c node (starting_node node generation c.settings)))
      (grown_continue w.histories node (starting_entry generation)) refl (record { its_settings = refl; its_endpoint = refl }) many_started

  start_agrees : AgreesBy (refusal w (plain_action (Start node generation))) (after_action w (plain_action (Start node generation))) (acting c (Start node generation))
  unfolding after_action
  start_agrees = start_with (with_node c node (starting_node node generation c.settings)) (with_start w node generation) w start_spells
      (nat_lt (generation_held (map.get c.nodes node)) generation) (may_start w node generation) (map.contains_key c.nodes node) (runs w node) (nat_lt (map.len c.nodes) MEMBER_LIMIT) (nat_lt (length w.owners) MEMBER_LIMIT)
      (ap (λ g. nat_lt g generation) (generation_by c w t node (map.get c.nodes node) refl)) (running c w t node) (ap (λ k. nat_lt k MEMBER_LIMIT) t.is.as_many)

-- ---- a step

-- a step is refused if its first part is
then_refused : {A B : Type 0} (due : Result A Fault) (go : A → B) → fault_of (then due go) ≡ fault_of due
then_refused (Ok x) go = refl
then_refused (Err fault) go = refl

-- the message that is sent says the one that is sent by places
sent_after : (c : WorldValue) (node : ℕ) (n : NodeValue) (w v : PlaceWorld) (o : Option Message) → AllSent c.settings.cluster v.histories c.sent w.sent → Sends c.settings.cluster w v o
    → AllSent c.settings.cluster v.histories (with_sent (with_node c node n) o).sent v.sent
sent_after c node n w v None all same = subst (AllSent c.settings.cluster v.histories c.sent) (sym same) all
sent_after c node n w v (Some m) all s = subst (AllSent c.settings.cluster v.histories (c.sent ++ m ∷ [])) (sym s.added) (all_push c.settings.cluster v.histories c.sent w.sent m s.said all s.is_sent)

-- the nodes after a message was sent are the same
sent_spells : (c : WorldValue) (node : ℕ) (n : NodeValue) (v : PlaceWorld) (o : Option Message) → SpellsNodes (tables_of (with_node c node n)) v → AllSent c.settings.cluster v.histories (with_sent (with_node c node n) o).sent v.sent
    → ((q : ℕ) (m : NodeValue) → map.get (with_node c node n).nodes q ≡ Some m → IsNodeAt c.settings q m) → map.len (with_node c node n).nodes ≡ length v.owners → SpellsWorld (with_sent (with_node c node n) o) v
sent_spells c node n v None tables messages each many = record { tables = tables; messages = messages; each = each; as_many = many }
sent_spells c node n v (Some m) tables messages each many = record { tables = record { running = tables.running; spelled = tables.spelled }; messages = messages; each = each; as_many = many }

module _ (c : WorldValue) (w : PlaceWorld) (t : Tied c w) (node : ℕ) (n : NodeValue) (e : map.get c.nodes node ≡ Some n) where
  at : IsNodeAt c.settings node n
  at = at_node c w t node n e

  -- a step that is one by places leaves the tables and messages that the places say
  step_spells : (v : PlaceWorld) (spans : ℕ → Option Span) (x : NodeValue × Reply) → IsStepAt w v spans node n x → SpellsWorld (with_sent (with_node c node x.0) (message_of x.1)) v
  step_spells v spans x s = sent_spells c node x.0 v (message_of x.1)
      (replaced_spells (tables_of c) (tables_of (with_node c node x.0)) w v node x.0.table.entries t.is.tables s.changed (replaced c node x.0))
      (sent_after c node x.0 w v (message_of x.1) (all_stay c.settings.cluster w.histories v.histories s.changed.histories c.sent w.sent t.is.messages)
      (subst (λ cluster. Sends cluster w v (message_of x.1)) (ap (λ s. s.cluster) at.its_settings) s.sends))
      (λ q m is. each q m (nat_eq q node) refl (sym (nodes_with c.nodes node x.0 q) ∙ is))
      (many_still c w t node n e x.0 ∙ ap length (sym s.owners))
    where
      here : IsNodeAt c.settings node x.0
      here = record { its_settings = s.settings ∙ at.its_settings; its_endpoint = s.own ∙ at.its_endpoint }

      each : (q : ℕ) (m : NodeValue) (b : Bool) → nat_eq q node ≡ b → cond b (Some x.0) (map.get c.nodes q) ≡ Some m → IsNodeAt c.settings q m
      each q m true same is = let gives : x.0 ≡ m = cc in subst (λ k. IsNodeAt c.settings k m) (sym (same_number q node same)) (subst (IsNodeAt c.settings node) gives here)
      each q m false apart is = t.is.each q m is

  -- both agree if the step is refused as it is by places
  step_agrees : (number : ℕ) (f : Event) → IsSentBefore w number (handed_message f) → fault_of (node_step n f) ≡ refusal w (action_at node number f)
      → AgreesBy (refusal w (action_at node number f)) (after_action w (action_at node number f)) (after_step c node (node_step n f))
  step_agrees number f sent alike = go (node_step n f) refl alike
    where
      v : PlaceWorld
      v = after_action w (action_at node number f)

      go : (due : Step) → node_step n f ≡ due → fault_of due ≡ refusal w (action_at node number f) → AgreesBy (refusal w (action_at node number f)) (after_action w (action_at node number f)) (after_step c node due)
      go (Ok x) is alike = (sym alike, step_spells (after_action w (action_at node number f)) (span_handed w (action_at node number f)) x (steps_are_by_places w node number n f x t.is_world (placed_here c w t node n e) sent is))
      go (Err fault) is alike = sym alike

  -- a change of the own entry is refused if there is no next version
  change_alike : (X : Type 0) (go : ℕ → X) → fault_of (then (next_of n) go) ≡ change_refusal (last_entry (w.histories node))
  change_alike X go = then_refused (next_of n) go ∙ ap change_refusal (sym (own_held c w t node n e))

  -- a removal is refused if the key has no text, or if there is no next version
  removal_alike : (key : ℕ) (X : Type 0) (go : ℕ → X) → fault_of (then (removal_of key (own_entry n.table)) go) ≡ removal_refusal key (last_entry (w.histories node))
  removal_alike key X go =
      then_refused (removal_of key (own_entry n.table)) go
      ∙ (elim (has_text key (own_entry n.table)) as (λ b. fault_of (cond {A = Result ℕ Fault} b (next_of n) (Err NoSuchKey)) ≡ cond b (change_refusal (Some (own_entry n.table))) (Some NoSuchKey)) [ true ↦ refl | false ↦ refl ])
      ∙ ap (removal_refusal key) (sym (own_held c w t node n e))

  node_alike : None ≡ node_refusal w node
  node_alike = ap (λ b. cond b None (Some NoSuchNode)) (sym (runs_here c w t node n e))

-- ---- a delivery

same_by : (a b : ClusterValue) → a ≡ b → same_cluster a b ≡ true
same_by a b e = subst (λ b. same_cluster a b ≡ true) e (rw ((bytes_eq-Decides a.name a.name).1 refl) (test_same a.partitioner))

module _ (c : WorldValue) (w : PlaceWorld) (t : Tied c w) (b : Bounded w) (node : ℕ) (n : NodeValue) (e : map.get c.nodes node ≡ Some n) where
  -- a SYN of this cluster is answered
  expected_syn : (syn : SynValue) (theirs : ℕ → ℕ) → IsSent c.settings.cluster w.histories (message.Syn syn) (Syn theirs) → fault_of (node_step n (event.Syn syn)) ≡ None
  expected_syn syn theirs s =
      let same : same_cluster n.settings.cluster syn.cluster ≡ true = same_by n.settings.cluster syn.cluster (ap (λ s. s.cluster) (at_node c w t node n e).its_settings ∙ sym s.names) in
      let a : IsAnswered w.histories n.table n.settings.cluster syn (w.places node) theirs =
      syn_is_answered w.histories t.sound.histories n.table n.settings.cluster syn (w.places node) theirs (spells_here c w t node n e) s.says same in
      rw a.answer refl

  -- there is room for the deltas of each message
  room : (deltas : List OwnerDelta) (spans : ℕ → Option Span) → Rises (endpoints_of_deltas deltas) → SpellsSpans w.histories deltas spans → AreSpans w.histories spans → nat_lt MEMBER_LIMIT (held_after n.table deltas) ≡ false
  room deltas spans rise spelled are =
      let few : held_after n.table deltas ≤ length w.owners = room_for_deltas w b.knows n.table deltas (w.places node) spans (spells_here c w t node n e) rise spelled are in
      let small : length w.owners ≤ MEMBER_LIMIT = b.limits.owners in
      grind (arith, nat_tests, few, small)

  -- an ACK of the world fits, and is taken
  pub ack_fits : (ack : AckValue) (asks : ℕ → Option Ask) (spans : ℕ → Option Span) → IsSent c.settings.cluster w.histories (message.Ack ack) (Ack asks spans) → nat_lt MEMBER_LIMIT (held_after n.table ack.deltas) ≡ false
  ack_fits ack asks spans s = room ack.deltas spans s.says.spells.deltas_rise s.says.spells.deltas s.says.stands.1

  pub ack_moves : (ack : AckValue) (asks : ℕ → Option Ask) (spans : ℕ → Option Span) → IsSent c.settings.cluster w.histories (message.Ack ack) (Ack asks spans)
      → AckMoves w.histories n.table (w.places node) asks spans (table_after n.table ack.deltas) (record { deltas = deltas_granted (table_after n.table ack.deltas).entries ack.requests }) (outcomes_of n.table ack.deltas)
  ack_moves ack asks spans s =
      let after : TableValue = table_after n.table ack.deltas in
      let ack2 : Ack2Value = record { deltas = deltas_granted after.entries ack.requests } in
      let outcomes : List Outcome = outcomes_of n.table ack.deltas in
      let taken : taking_ack n.table ack ≡ Ok (after, ack2, outcomes) = rw (ack_fits ack asks spans s) refl in
      ack_is_taken w.histories t.sound.histories n.table ack (w.places node) asks spans (spells_here c w t node n e) s.says after ack2 outcomes taken

  -- so does an ACK2
  pub ack2_fits : (ack2 : Ack2Value) (spans : ℕ → Option Span) → IsSent c.settings.cluster w.histories (message.Ack2 ack2) (Ack2 spans) → nat_lt MEMBER_LIMIT (held_after n.table ack2.deltas) ≡ false
  ack2_fits ack2 spans s = room ack2.deltas spans s.says.spells.rise s.says.spells.deltas s.says.stands

  pub ack2_moves : (ack2 : Ack2Value) (spans : ℕ → Option Span) → IsSent c.settings.cluster w.histories (message.Ack2 ack2) (Ack2 spans)
      → IsMoved w.histories n.table (w.places node) spans (table_after n.table ack2.deltas) (outcomes_of n.table ack2.deltas)
  ack2_moves ack2 spans s =
      let after : TableValue = table_after n.table ack2.deltas in
      let outcomes : List Outcome = outcomes_of n.table ack2.deltas in
      let taken : taking_ack2 n.table ack2 ≡ Ok (after, outcomes) = rw (ack2_fits ack2 spans s) refl in
      ack2_is_taken w.histories t.sound.histories n.table ack2 (w.places node) spans (spells_here c w t node n e) s.says after outcomes taken

  -- no message of the world is refused
  message_due : (now : ℕ) (m : Message) (said : PlaceMessage) → IsSent c.settings.cluster w.histories m said → fault_of (node_step n (arrival_of now m)) ≡ None
  message_due now (message.Syn syn) (Syn theirs) s = expected_syn syn theirs s
  message_due now (message.Ack ack) (Ack asks spans) s = rw (ack_fits ack asks spans s) refl
  message_due now (message.Ack2 ack2) (Ack2 spans) s = rw (ack2_fits ack2 spans s) refl
  message_due now (message.Syn syn) (Ack asks spans) s = absurd s.says.spells
  message_due now (message.Syn syn) (Ack2 spans) s = absurd s.says.spells
  message_due now (message.Ack ack) (Syn places) s = absurd s.says.spells
  message_due now (message.Ack ack) (Ack2 spans) s = absurd s.says.spells
  message_due now (message.Ack2 ack2) (Syn places) s = absurd s.says.spells
  message_due now (message.Ack2 ack2) (Ack asks spans) s = absurd s.says.spells

  delivery_agrees : (number now : ℕ) (m : Message) (said : PlaceMessage) → at_place w.sent number ≡ Some said → IsSent c.settings.cluster w.histories m said
      → AgreesBy (refusal w (places.Deliver number node)) (after_action w (places.Deliver number node)) (after_step c node (node_step n (arrival_of now m)))
  delivery_agrees number now m said is s = by m s (message_due now m said s ∙ free)
    where
      free : None ≡ deliver_refusal w node (at_place w.sent number)
      free = node_alike c w t node n e ∙ ap (deliver_refusal w node) (sym is)

      by : (m : Message) → IsSent c.settings.cluster w.histories m said → fault_of (node_step n (arrival_of now m)) ≡ deliver_refusal w node (at_place w.sent number)
          → AgreesBy (refusal w (places.Deliver number node)) (after_action w (places.Deliver number node)) (after_step c node (node_step n (arrival_of now m)))
      by (message.Syn syn) s alike = step_agrees c w t node n e number (event.Syn syn) (record { said = said; is_said = is; says = s.says }) alike
      by (message.Ack ack) s alike = step_agrees c w t node n e number (event.Ack now ack) (record { said = said; is_said = is; says = s.says }) alike
      by (message.Ack2 ack2) s alike = step_agrees c w t node n e number (event.Ack2 now ack2) (record { said = said; is_said = is; says = s.says }) alike

-- ---- an action

module _ (c : WorldValue) (w : PlaceWorld) (t : Tied c w) (b : Bounded w) where
  -- a node that does not run changes nothing
  no_change : (node : ℕ) → map.get c.nodes node ≡ None → change_refusal (last_entry (w.histories node)) ≡ Some NoSuchNode
  no_change node none = ap change_refusal (no_entry c w t node none)

  no_removal : (node key : ℕ) → map.get c.nodes node ≡ None → removal_refusal key (last_entry (w.histories node)) ≡ Some NoSuchNode
  no_removal node key none = ap (removal_refusal key) (no_entry c w t node none)

  no_delivery : (node : ℕ) → map.get c.nodes node ≡ None → node_refusal w node ≡ Some NoSuchNode
  no_delivery node none = ap (λ b. cond b None (Some NoSuchNode)) (not_running c w t node none)

  local_agrees : (node : ℕ) (change : LocalEvent) (o : Option NodeValue) → map.get c.nodes node ≡ o → AgreesBy (refusal w (plain_local node change)) (after_action w (plain_local node change)) (after_step c node (step_of o (event_of change)))
  local_agrees node Beat None e = no_change node e
  local_agrees node (Set key text) None e = no_change node e
  local_agrees node (Remove key) None e = no_removal node key e
  local_agrees node Opening None e = no_delivery node e
  local_agrees node (Tick now words) None e = no_change node e
  local_agrees node Beat (Some n) e = step_agrees c w t node n e 0 event.Beat tt (change_alike c w t node n e _ _)
  local_agrees node (Set key text) (Some n) e = step_agrees c w t node n e 0 (event.Set key text) tt (change_alike c w t node n e _ _)
  local_agrees node (Remove key) (Some n) e = step_agrees c w t node n e 0 (event.Remove key) tt (removal_alike c w t node n e key _ _)
  local_agrees node Opening (Some n) e = step_agrees c w t node n e 0 event.Opening tt (node_alike c w t node n e)
  local_agrees node (Tick now words) (Some n) e = step_agrees c w t node n e 0 (event.Tick now words) tt (change_alike c w t node n e _ _)

  deliver_agrees : (number now node : ℕ) (o : Option Message) (said : Option PlaceMessage) → at_place w.sent number ≡ said → BothSent c.settings.cluster w.histories o said
      → (held : Option NodeValue) → map.get c.nodes node ≡ held → AgreesBy (refusal w (places.Deliver number node)) (after_action w (places.Deliver number node)) (after_step c node (step_at c node now o))
  deliver_agrees number now node None None is s held e = ap (deliver_refusal w node) is
  deliver_agrees number now node None (Some said) is s held e = absurd s
  deliver_agrees number now node (Some m) None is s held e = absurd s
  deliver_agrees number now node (Some m) (Some said) is s None e = rw e (ap (deliver_refusal w node) is ∙ no_delivery node e)
  deliver_agrees number now node (Some m) (Some said) is s (Some n) e = rw e (delivery_agrees c w t b node n e number now m said is s)

  pub action_agrees : (action : Action) → AgreesBy (refusal w (plain_action action)) (after_action w (plain_action action)) (acting c action)
  action_agrees (Start node generation) = start_agrees c w t node generation
  action_agrees (Local node change) = local_agrees node change (map.get c.nodes node) refl
  action_agrees (Deliver number to now) = deliver_agrees number now to (at_place c.sent number) (at_place w.sent number) refl (both_at c.settings.cluster w.histories c.sent w.sent t.is.messages number) (map.get c.nodes to) refl
