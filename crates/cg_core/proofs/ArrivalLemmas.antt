-- Windows show the times of all deltas of their endpoint that were taken.
use Rattle.std.proofs.Common.{◌≡◌, ℕ, ◌==◌, Bool, true, false, cond, List, [], ◌∷◌, ◌++◌, map, Option, Some, refl, sym, ap, ◌∙◌, append_assoc, eqb-true, Result, Ok, Err}
use Rattle.std.specs.Prelude.{◌&&◌, filter}
use Rattle.std.specs.Ordering.{nat_cmp}
use Rattle.std.specs.Cmp.{nat_cmp_total, eq_by_cmp_equiv}
use Rattle.std.specs.FinMap.{get, get-insert, get-empty}
use Rattle.std.proofs.lemmas.List.{append-nil}
use Rattle.cg_types.specs.declared.fault.Fault.{Fault}
use Rattle.cg_messages.specs.declared.outcome.Outcome.{Outcome}
use Rattle.cg_messages.specs.declared.message.Message.TheVariants as message
use Rattle.cg_exchange.specs.Answering.{answer_to_syn}
use Rattle.cg_exchange.specs.Taking.{taking_ack, taking_ack2}
use Rattle.cg_silence.specs.Values.{SilenceValue, Shown}
use Rattle.cg_silence.specs.Silence.{after_arrival}
use Rattle.cg_silence.proofs.WindowLemmas.{shown-push}
use Rattle.cg_core.specs.declared.event.Event.{Event}
use Rattle.cg_core.specs.declared.event.Event.TheVariants as event
use Rattle.cg_core.specs.declared.reply.Reply.{Reply}
use Rattle.cg_core.specs.declared.reply.Reply.TheVariants as reply
use Rattle.cg_core.specs.SettingsValues.{SettingsValue}
use Rattle.cg_core.specs.Values.{NodeValue}
use Rattle.cg_silence.specs.Windows.{Heard, was_taken, tells_taken, with_arrival, arrivals}
use Rattle.cg_entry.specs.Entry.{removal_of}
use Rattle.cg_table.specs.Own.{own_entry}
use Rattle.cg_core.specs.Step.{starting_node, then, next_of, beating, setting, removing, opening, round_peers, after_taking, node_step, node_left, after_event, after_events}
use Rattle.cg_core.specs.Replies.{outcomes_in}
use Rattle.cg_core.specs.Arrivals.{outcomes_told, time_of, times_told, times_taken, window_of}
use Rattle.cg_core.specs.Laws.{WindowsShowAllTaken}
use Rattle.cg_core.proofs.HearingLemmas.{other_arrival}

module _ (s : SilenceValue) where
  -- one more arrival
  window-push : (past : List ℕ) (now : ℕ) → window_of s (past ++ now ∷ []) ≡ Some (after_arrival s (window_of s past) now)
  window-push [] now = ap Some (shown-push s [] now)
  window-push (a ∷ past) now = ap Some (shown-push s (a ∷ past) now)

  own_arrival : (now q : ℕ) (windows : Heard) (past : List ℕ) → get windows q ≡ window_of s past → get (with_arrival s now windows q) q ≡ window_of s (past ++ now ∷ [])
  own_arrival now q windows past is =
      get-insert nat_cmp_total windows q (after_arrival s (get windows q) now) q
      ∙ rw ((eq_by_cmp_equiv nat_cmp_total).refl q) (ap (λ (h : Option Shown). Some (after_arrival s h now)) is ∙ sym (window-push past now))

  one_more : (now q : ℕ) (windows : Heard) (o : Outcome) (os : List Outcome) (past : List ℕ) (same took : Bool) → (o.endpoint == q) ≡ same → get windows q ≡ window_of s past
      → ((w : Heard) (p : List ℕ) → get w q ≡ window_of s p → get (arrivals s now w os) q ≡ window_of s (p ++ times_told q now os))
      → get (arrivals s now (cond took (with_arrival s now windows o.endpoint) windows) os) q
      ≡ window_of s (past ++ map (λ (o : Outcome). now) (cond (same && took) (o ∷ filter (tells_taken q) os) (filter (tells_taken q) os)))
  one_more now q windows o os past true true at is rest =
      let here = ap (λ (e : ℕ). get (with_arrival s now windows e) q) (eqb-true o.endpoint q at) ∙ own_arrival now q windows past is in
      rest (with_arrival s now windows o.endpoint) (past ++ now ∷ []) here ∙ ap (window_of s) (append_assoc past (now ∷ []) (times_told q now os))
  one_more now q windows o os past false true at is rest = rest (with_arrival s now windows o.endpoint) past (other_arrival s now windows q o.endpoint at ∙ is)
  one_more now q windows o os past true false at is rest = rest windows past is
  one_more now q windows o os past false false at is rest = rest windows past is

  arrivals_show : (now q : ℕ) (windows : Heard) (os : List Outcome) (past : List ℕ) → get windows q ≡ window_of s past → get (arrivals s now windows os) q ≡ window_of s (past ++ times_told q now os)
  arrivals_show now q windows [] past is = is ∙ ap (window_of s) (sym (append-nil past))
  arrivals_show now q windows (o ∷ os) past is = one_more now q windows o os past (o.endpoint == q) (was_taken o.took) refl is (λ w p here. arrivals_show now q w os p here)

module _ (n : NodeValue) (q : ℕ) (past : List ℕ) (is : get n.windows q ≡ window_of n.settings.silence past) where
  step_shows : {A : Type 0} (now : ℕ) (r : Result A Fault) (go : A → NodeValue × Reply) → ((x : A) → (go x).0.windows ≡ arrivals n.settings.silence now n.windows (outcomes_in (go x).1))
      → get (node_left n (then r go)).windows q ≡ window_of n.settings.silence (past ++ times_told q now (outcomes_told (then r go)))
  step_shows now (Ok x) go goes =
      ap (λ (w : Heard). get w q) (goes x) ∙ arrivals_show n.settings.silence now q n.windows (outcomes_in (go x).1) past is
  step_shows now (Err fault) go goes = is ∙ ap (window_of n.settings.silence) (sym (append-nil past))

  event_shows : (e : Event) → get (after_event n e).windows q ≡ window_of n.settings.silence (past ++ times_told q (time_of e) (outcomes_told (node_step n e)))
  event_shows event.Beat = step_shows 0 (next_of n) (λ v. (beating n, reply.Done v)) (λ v. refl)
  event_shows (event.Set key text) = step_shows 0 (next_of n) (λ v. (setting key text n, reply.Done v)) (λ v. refl)
  event_shows (event.Remove key) = step_shows 0 (removal_of key (own_entry n.table)) (λ v. (removing key n, reply.Done v)) (λ v. refl)
  event_shows (event.Tick now words) =
      step_shows now (next_of n) (λ v. (beating n, reply.Round (round_peers (beating n) now words) (opening (beating n)))) (λ v. refl)
  event_shows event.Opening = is ∙ ap (window_of n.settings.silence) (sym (append-nil past))
  event_shows (event.Syn syn) = step_shows 0 (answer_to_syn n.table n.settings.cluster syn) (λ ack. (n, reply.Sent (message.Ack ack))) (λ ack. refl)
  event_shows (event.Ack now ack) = step_shows now (taking_ack n.table ack) (λ x. (after_taking n now x.0 x.2, reply.Both x.2 x.1)) (λ x. refl)
  event_shows (event.Ack2 now ack2) = step_shows now (taking_ack2 n.table ack2) (λ x. (after_taking n now x.0 x.1, reply.Took x.1)) (λ x. refl)

module _ (n : NodeValue) where
  settings_stay : {A : Type 0} (r : Result A Fault) (go : A → NodeValue × Reply) → ((x : A) → (go x).0.settings ≡ n.settings) → (node_left n (then r go)).settings ≡ n.settings
  settings_stay (Ok x) go stay = stay x
  settings_stay (Err fault) go stay = refl

  pub settings_kept : (e : Event) → (after_event n e).settings ≡ n.settings
  settings_kept event.Beat = settings_stay (next_of n) (λ v. (beating n, reply.Done v)) (λ v. refl)
  settings_kept (event.Set key text) = settings_stay (next_of n) (λ v. (setting key text n, reply.Done v)) (λ v. refl)
  settings_kept (event.Remove key) = settings_stay (removal_of key (own_entry n.table)) (λ v. (removing key n, reply.Done v)) (λ v. refl)
  settings_kept (event.Tick now words) =
      settings_stay (next_of n) (λ v. (beating n, reply.Round (round_peers (beating n) now words) (opening (beating n)))) (λ v. refl)
  settings_kept event.Opening = refl
  settings_kept (event.Syn syn) = settings_stay (answer_to_syn n.table n.settings.cluster syn) (λ ack. (n, reply.Sent (message.Ack ack))) (λ ack. refl)
  settings_kept (event.Ack now ack) = settings_stay (taking_ack n.table ack) (λ x. (after_taking n now x.0 x.2, reply.Both x.2 x.1)) (λ x. refl)
  settings_kept (event.Ack2 now ack2) = settings_stay (taking_ack2 n.table ack2) (λ x. (after_taking n now x.0 x.1, reply.Took x.1)) (λ x. refl)

events_show : (n : NodeValue) (es : List Event) (q : ℕ) (past : List ℕ) → get n.windows q ≡ window_of n.settings.silence past → get (after_events n es).windows q ≡ window_of n.settings.silence (past ++ times_taken q n es)
events_show n [] q past is = is ∙ ap (window_of n.settings.silence) (sym (append-nil past))
events_show n (e ∷ es) q past is =
    let after = after_event n e in
    let told = times_told q (time_of e) (outcomes_told (node_step n e)) in
    let same = settings_kept n e in
    let here = event_shows n q past is e ∙ ap (λ (t : SettingsValue). window_of t.silence (past ++ told)) (sym same) in
    events_show after es q (past ++ told) here
    ∙ ap (λ (t : SettingsValue). window_of t.silence ((past ++ told) ++ times_taken q after es)) same
    ∙ ap (window_of n.settings.silence) (append_assoc past told (times_taken q after es))

pub windows_show_all_taken : WindowsShowAllTaken
windows_show_all_taken own generation settings events endpoint = events_show (starting_node own generation settings) events endpoint [] (get-empty nat_cmp endpoint)
