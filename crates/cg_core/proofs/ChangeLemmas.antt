-- The puts of a step are the new rows of the owners whose entry it changed.
use Rattle.std.proofs.Common.{◌≡◌, ℕ, Bool, true, false, cond, List, [], ◌∷◌, map, Option, Some, None, refl, sym, ap, subst, ◌∙◌}
use Rattle.std.specs.Prelude.{◌==◌, is_some, unwrap_or}
use Rattle.std.specs.List.{filter_map, cons_option}
use Rattle.std.specs.Option.{option_map}
use Rattle.std.specs.Ordering.{nat_cmp, eq_by_cmp}
use Rattle.std.specs.Cmp.{nat_cmp_total, eq_by_cmp_equiv}
use Rattle.std.specs.FinMap.{get, insert, get-insert}
use Rattle.std.specs.FinMap.Entries.{find}
use Rattle.std.proofs.lemmas.Option.{same_Some}
use Rattle.cg_types.specs.Rising.{rise_past, Rises}
use Rattle.cg_types.proofs.RisingLemmas.{same_tied}
use Rattle.cg_types.specs.Map.{put_each}
use Rattle.cg_entry.specs.declared.entry.Absorbed.{Absorbed}
use Rattle.cg_entry.specs.declared.entry.Absorbed.TheVariants as absorbed
use Rattle.cg_entry.specs.Values.{EntryValue, DeltaValue}
use Rattle.cg_entry.specs.Entry.{starting_entry, entry_after_beat, with_state, removal_of, is_later}
use Rattle.cg_entry.specs.Taking.{meeting}
use Rattle.cg_entry.specs.declared.took.Took.TheVariants as took
use Rattle.cg_table.specs.Values.{TableValue, Entries}
use Rattle.cg_table.specs.Own.{own_entry, with_own}
use Rattle.cg_table.specs.Merge.{is_ahead}
use Rattle.cg_table.specs.Puts.{Put, puts, rows_at}
use Rattle.cg_table.specs.Taking.{change_by}
use Rattle.cg_table.proofs.PlaceLaws.{row_key}
use Rattle.cg_table.proofs.PutsLemmas.{AreHeld, later_entries-put_each, put_each-held}
use Rattle.cg_messages.specs.declared.message.Message.TheVariants as message
use Rattle.cg_messages.specs.declared.outcome.Outcome.{Outcome}
use Rattle.cg_messages.specs.declared.owner_delta.OwnerDelta.{OwnerDelta}
use Rattle.cg_messages.specs.Values.{Ack2Value}
use Rattle.cg_messages.specs.Members.{endpoints_of_deltas, endpoints_of_outcomes}
use Rattle.cg_exchange.specs.Answering.{answer_to_syn}
use Rattle.cg_exchange.specs.Changes.{row_changed}
use Rattle.cg_exchange.specs.Taking.{outcome_of, taking_ack, taking_ack2}
use Rattle.cg_exchange.proofs.TakingLemmas.{rows_rise, taken_at_once, outcomes_rise}
use Rattle.cg_core.specs.declared.event.Event.{Event}
use Rattle.cg_core.specs.declared.event.Event.TheVariants as event
use Rattle.cg_core.specs.declared.reply.Reply.{Reply}
use Rattle.cg_core.specs.declared.reply.Reply.TheVariants as reply
use Rattle.cg_core.specs.Values.{NodeValue}
use Rattle.cg_silence.specs.Windows.{was_taken}
use Rattle.cg_core.specs.Step.{Leads, next_of, beating, setting, removing, opening, round_peers, after_taking}
use Rattle.cg_core.specs.Handed.{deltas_handed}
use Rattle.cg_core.specs.Changes.{taken_owners, changed_owners}
use Rattle.cg_core.proofs.OrderLemmas.{met_ahead, beaten_later, given_later}
use Rattle.cg_core.proofs.PutLemmas.{only_put}
use Rattle.cg_core.proofs.StepLemmas.{then_gave, AreLed, ack_led, ack2_led, filtered_rise}

-- ---- the own row

ahead_by : (held : Option EntryValue) (none e : EntryValue) → is_some held ≡ true → is_later e (unwrap_or held none) ≡ true → is_ahead held e ≡ true
ahead_by None none e is later = absurd cc
ahead_by (Some x) none e is later = later

own_row : (t : TableValue) (e : EntryValue) → is_some (get t.entries t.own) ≡ true → is_later e (own_entry t) ≡ true → puts t (with_own e t) ≡ rows_at (with_own e t).entries (t.own ∷ [])
own_row t e held later =
    let tied : eq_by_cmp nat_cmp t.own t.own ≡ true = (eq_by_cmp_equiv nat_cmp_total).refl t.own in
    let here : get (insert t.entries t.own e) t.own ≡ Some e = get-insert nat_cmp_total t.entries t.own e t.own ∙ rw tied refl in
    only_put t.entries t.own e (ahead_by (get t.entries t.own) (starting_entry 0) e held later)
    ∙ sym (ap (λ (o : Option EntryValue). cons_option (option_map (λ (x : EntryValue). (t.own, x)) o) []) here)

-- ---- the rows of the deltas that were taken

ahead_at : (k : ℕ) (held : Option EntryValue) (d : DeltaValue) (own : Bool) (a : Absorbed) (r : Put) → meeting held d ≡ a → (cond own (None, took.Own) (change_by k a)).0 ≡ Some r → is_ahead held r.1 ≡ true
ahead_at k held d true a r made is = absurd cc
ahead_at k held d false (absorbed.Taken x) r made is = ap (λ (p : Put). is_ahead held p.1) (sym (same_Some (k, x) r is)) ∙ met_ahead held d x made
ahead_at k held d false absorbed.Old r made is = absurd cc
ahead_at k held d false absorbed.Gap r made is = absurd cc

module _ (t : TableValue) where
  row_ahead : (d : OwnerDelta) (r : Put) → row_changed t d ≡ Some r → is_ahead (get t.entries r.0) r.1 ≡ true
  row_ahead d r is =
      ap (λ (k : ℕ). is_ahead (get t.entries k) r.1) (row_key t d.endpoint d.delta r is)
      ∙ ahead_at d.endpoint (get t.entries d.endpoint) d.delta (d.endpoint == t.own) (meeting (get t.entries d.endpoint) d.delta) r refl is

  found_by : (q : ℕ) (e : EntryValue) (d : OwnerDelta) (o : Option Put) (rows : List Put) → row_changed t d ≡ o → (find nat_cmp q rows ≡ Some e → is_ahead (get t.entries q) e ≡ true)
      → find nat_cmp q (cons_option o rows) ≡ Some e → is_ahead (get t.entries q) e ≡ true
  found_by q e d None rows is rest at = rest at
  found_by q e d (Some r) rows is rest at = by (eq_by_cmp nat_cmp q r.0) refl at
    where
      by : (b : Bool) → eq_by_cmp nat_cmp q r.0 ≡ b → cond b (Some r.1) (find nat_cmp q rows) ≡ Some e → is_ahead (get t.entries q) e ≡ true
      by true here one = (λ i. is_ahead (get t.entries (same_tied q r.0 here i)) (sym (same_Some r.1 e one) i)) ∙ row_ahead d r is
      by false past one = rest one

  found_ahead : (ds : List OwnerDelta) (q : ℕ) (e : EntryValue) → find nat_cmp q (filter_map (row_changed t) ds) ≡ Some e → is_ahead (get t.entries q) e ≡ true
  found_ahead [] q e at = absurd cc
  found_ahead (d ∷ ds) q e at = found_by q e d (row_changed t d) (filter_map (row_changed t) ds) refl (found_ahead ds q e) at

  row_by : (m : Entries) (k : ℕ) (own : Bool) (a : Absorbed) (os : List Outcome) (rows : List Put) → AreHeld m (cons_option (cond own (None, took.Own) (change_by k a)).0 rows) → (AreHeld m rows → rows_at m (taken_owners os) ≡ rows)
      → rows_at m (taken_owners (record { endpoint = k; took = (cond own (None, took.Own) (change_by k a)).1 } ∷ os)) ≡ cons_option (cond own (None, took.Own) (change_by k a)).0 rows
  row_by m k true a os rows held rest = rest held
  row_by m k false (absorbed.Taken x) os rows held rest = (λ i. cons_option (option_map (λ (e : EntryValue). (k, e)) (held.0 i)) (rows_at m (taken_owners os))) ∙ ap (λ (ps : List Put). (k, x) ∷ ps) (rest held.1)
  row_by m k false absorbed.Old os rows held rest = rest held
  row_by m k false absorbed.Gap os rows held rest = rest held

  rows_by : (m : Entries) (ds : List OwnerDelta) → AreHeld m (filter_map (row_changed t) ds) → rows_at m (taken_owners (map (outcome_of t) ds)) ≡ filter_map (row_changed t) ds
  rows_by m [] held = refl
  rows_by m (d ∷ ds) held =
      row_by m d.endpoint (d.endpoint == t.own) (meeting (get t.entries d.endpoint) d.delta) (map (outcome_of t) ds) (filter_map (row_changed t) ds) held (rows_by m ds)

  -- the puts of a message are the rows of the deltas that were taken
  taken_rows : (ds : List OwnerDelta) (after : TableValue) (os : List Outcome) → Rises (endpoints_of_deltas ds) → AreLed t ds after os → puts t after ≡ rows_at after.entries (taken_owners os)
  taken_rows ds after os rise led =
      let rows = filter_map (row_changed t) ds in
      let at_once = taken_at_once t ds rise in
      let table : after.entries ≡ put_each rows t.entries = ap (λ (u : TableValue). u.entries) (led.table ∙ at_once.after) in
      let outcomes = led.outcomes ∙ at_once.outcomes in
      ap (λ (m : Entries). puts t (record { own = t.own; entries = m })) table
      ∙ later_entries-put_each t.entries rows (rows_rise t ds rise) (found_ahead ds)
      ∙ sym (rows_by (put_each rows t.entries) ds (put_each-held rows t.entries (rows_rise t ds rise)))
      ∙ (λ i. rows_at (sym table i) (taken_owners (sym outcomes i)))

-- ---- each step

-- the puts of a step are the new rows of the owners that it changed
abbrev Shows : NodeValue → NodeValue × Reply → Type 0
Shows n x = puts n.table x.0.table ≡ rows_at x.0.table.entries (changed_owners n.table.own x.1)

nothing_later : (t : TableValue) → puts t t ≡ []
nothing_later t = later_entries-put_each t.entries [] refl (λ q e at. absurd cc)

pub puts_are_the_changed_rows : (n : NodeValue) (e : Event) (after : NodeValue) (answer : Reply) → is_some (get n.table.entries n.table.own) ≡ true → Rises (endpoints_of_deltas (deltas_handed e)) → Leads n e after answer
    → puts n.table after.table ≡ rows_at after.table.entries (changed_owners n.table.own answer)
puts_are_the_changed_rows n event.Beat after answer held rise is =
    let gave = then_gave (λ v. (beating n, reply.Done v)) (next_of n) (after, answer) is in
    subst (Shows n) gave.1.1 (own_row n.table (entry_after_beat (own_entry n.table)) held (beaten_later (own_entry n.table)))
puts_are_the_changed_rows n (event.Set key text) after answer held rise is =
    let gave = then_gave (λ v. (setting key text n, reply.Done v)) (next_of n) (after, answer) is in
    subst (Shows n) gave.1.1 (own_row n.table (with_state key (Some text) (own_entry n.table)) held (given_later key (Some text) (own_entry n.table)))
puts_are_the_changed_rows n (event.Remove key) after answer held rise is =
    let gave = then_gave (λ v. (removing key n, reply.Done v)) (removal_of key (own_entry n.table)) (after, answer) is in
    subst (Shows n) gave.1.1 (own_row n.table (with_state key None (own_entry n.table)) held (given_later key None (own_entry n.table)))
puts_are_the_changed_rows n (event.Tick now words) after answer held rise is =
    let gave = then_gave (λ v. (beating n, reply.Round (round_peers (beating n) now words) (opening (beating n)))) (next_of n) (after, answer) is in
    subst (Shows n) gave.1.1 (own_row n.table (entry_after_beat (own_entry n.table)) held (beaten_later (own_entry n.table)))
puts_are_the_changed_rows n event.Opening after answer held rise is =
    let same : ◌≡◌ {A = NodeValue × Reply} (n, reply.Sent (message.Syn (opening n))) (after, answer) = cc in
    subst (Shows n) same (nothing_later n.table)
puts_are_the_changed_rows n (event.Syn syn) after answer held rise is =
    let gave = then_gave (λ ack. (n, reply.Sent (message.Ack ack))) (answer_to_syn n.table n.settings.cluster syn) (after, answer) is in
    subst (Shows n) gave.1.1 (nothing_later n.table)
puts_are_the_changed_rows n (event.Ack now ack) after answer held rise is =
    let gave = then_gave (λ (x : TableValue × Ack2Value × List Outcome). (after_taking n now x.0 x.2, reply.Both x.2 x.1)) (taking_ack n.table ack) (after, answer) is in
    subst (Shows n) gave.1.1 (taken_rows n.table ack.deltas gave.0.0 gave.0.2 rise (ack_led n.table ack gave.0.0 gave.0.1 gave.0.2 gave.1.0))
puts_are_the_changed_rows n (event.Ack2 now ack2) after answer held rise is =
    let gave = then_gave (λ (x : TableValue × List Outcome). (after_taking n now x.0 x.1, reply.Took x.1)) (taking_ack2 n.table ack2) (after, answer) is in
    subst (Shows n) gave.1.1 (taken_rows n.table ack2.deltas gave.0.0 gave.0.1 rise (ack2_led n.table ack2 gave.0.0 gave.0.1 gave.1.0))

-- ---- the owners rise

led_rise : (t : TableValue) (ds : List OwnerDelta) (after : TableValue) (os : List Outcome) → AreLed t ds after os → Rises (endpoints_of_deltas ds) → Rises (taken_owners os)
led_rise t ds after os led rise = filtered_rise (λ (o : Outcome). was_taken o.took) None os (ap (λ (os : List Outcome). rise_past None (endpoints_of_outcomes os)) led.outcomes ∙ outcomes_rise t ds rise)

abbrev OwnersRise : NodeValue → NodeValue × Reply → Type 0
OwnersRise n x = Rises (changed_owners n.table.own x.1)

pub changed_owners_rise : (n : NodeValue) (e : Event) (after : NodeValue) (answer : Reply) → Rises (endpoints_of_deltas (deltas_handed e)) → Leads n e after answer → Rises (changed_owners n.table.own answer)
changed_owners_rise n event.Beat after answer rise is =
    let gave = then_gave (λ v. (beating n, reply.Done v)) (next_of n) (after, answer) is in
    subst (OwnersRise n) gave.1.1 refl
changed_owners_rise n (event.Set key text) after answer rise is =
    let gave = then_gave (λ v. (setting key text n, reply.Done v)) (next_of n) (after, answer) is in
    subst (OwnersRise n) gave.1.1 refl
changed_owners_rise n (event.Remove key) after answer rise is =
    let gave = then_gave (λ v. (removing key n, reply.Done v)) (removal_of key (own_entry n.table)) (after, answer) is in
    subst (OwnersRise n) gave.1.1 refl
changed_owners_rise n (event.Tick now words) after answer rise is =
    let gave = then_gave (λ v. (beating n, reply.Round (round_peers (beating n) now words) (opening (beating n)))) (next_of n) (after, answer) is in
    subst (OwnersRise n) gave.1.1 refl
changed_owners_rise n event.Opening after answer rise is =
    let same : ◌≡◌ {A = NodeValue × Reply} (n, reply.Sent (message.Syn (opening n))) (after, answer) = cc in
    subst (OwnersRise n) same refl
changed_owners_rise n (event.Syn syn) after answer rise is =
    let gave = then_gave (λ ack. (n, reply.Sent (message.Ack ack))) (answer_to_syn n.table n.settings.cluster syn) (after, answer) is in
    subst (OwnersRise n) gave.1.1 refl
changed_owners_rise n (event.Ack now ack) after answer rise is =
    let gave = then_gave (λ (x : TableValue × Ack2Value × List Outcome). (after_taking n now x.0 x.2, reply.Both x.2 x.1)) (taking_ack n.table ack) (after, answer) is in
    subst (OwnersRise n) gave.1.1 (led_rise n.table ack.deltas gave.0.0 gave.0.2 (ack_led n.table ack gave.0.0 gave.0.1 gave.0.2 gave.1.0) rise)
changed_owners_rise n (event.Ack2 now ack2) after answer rise is =
    let gave = then_gave (λ (x : TableValue × List Outcome). (after_taking n now x.0 x.1, reply.Took x.1)) (taking_ack2 n.table ack2) (after, answer) is in
    subst (OwnersRise n) gave.1.1 (led_rise n.table ack2.deltas gave.0.0 gave.0.1 (ack2_led n.table ack2 gave.0.0 gave.0.1 gave.1.0) rise)
