-- One event more in a history: its step, its record and its receipt.
use Rattle.std.proofs.Common.{◌≡◌, ℕ, Bool, true, false, cond, refl, sym, ap, subst}
use Rattle.std.specs.Prelude.{◌==◌, Result, Ok, Err}
use Rattle.cg_types.specs.declared.fault.Fault.{Fault}
use Rattle.cg_types.specs.declared.fault.Fault.TheVariants.{VersionsSpent}
use Rattle.cg_core.specs.declared.event.Event.{Event}
use Rattle.cg_core.specs.declared.reply.Reply.{Reply}
use Rattle.cg_core.specs.Values.{NodeValue}
use Rattle.cg_core.specs.Step.{Step, node_step}
use Rattle.cg_places.specs.PlaceWorld.{after_action}
use Rattle.cg_places.specs.Step.{action_at, span_handed, IsStepAt}
use Rattle.cg_places.proofs.StepLaws.{steps_are_by_places}
use Rattle.cg_history.specs.declared.item.Receipt.{Receipt}
use Rattle.cg_history.specs.History.{record_of, HistoryValue, receipt_of, LAST_NUMBER, count_of, with_record, with_step}
use Rattle.cg_history.specs.Laws.{HasOneMore, EachEventMakesOneRecord, RecordsAreStepsByPlaces}

same_ok : {A F : Type 0} (x y : A) → (let r : Result A F = Ok x in r) ≡ Ok y → x ≡ y
same_ok x y e = cc

one_more_by : (h : HistoryValue) (caller : ℕ) (e : Event) (after : HistoryValue) (q : Receipt) (spent : Bool) (due : Step) → node_step h.node e ≡ due
    → cond {A = Result (HistoryValue × Receipt) Fault} spent (Err VersionsSpent) (with_step h caller e due) ≡ Ok (after, q) → HasOneMore h caller e after q
one_more_by h caller e after q true due step is = absurd cc
one_more_by h caller e after q false (Err fault) step is = absurd cc
one_more_by h caller e after q false (Ok x) step is =
    let same = same_ok {A = HistoryValue × Receipt} (with_record h x.0 (record_of caller e h.node x), receipt_of h caller e x.1) (after, q) is in
    record {
      node = x.0;
      answer = x.1;
      step = step;
      start = ap (λ (y : HistoryValue × Receipt). y.0.start) (sym same);
      base = ap (λ (y : HistoryValue × Receipt). y.0.base) (sym same);
      folded = ap (λ (y : HistoryValue × Receipt). y.0.folded) (sym same);
      led = ap (λ (y : HistoryValue × Receipt). y.0.node) (sym same);
      records = ap (λ (y : HistoryValue × Receipt). y.0.records) (sym same);
      receipt = ap (λ (y : HistoryValue × Receipt). y.1) (sym same);
    }

pub each_event_makes_one_record : EachEventMakesOneRecord
each_event_makes_one_record h caller e after q is = one_more_by h caller e after q (count_of h == LAST_NUMBER) (node_step h.node e) refl is

pub records_are_steps_by_places : RecordsAreStepsByPlaces
records_are_steps_by_places w node number h caller e after q world placed sent is =
    let one = each_event_makes_one_record h caller e after q is in
    let led : ◌≡◌ {A = NodeValue × Reply} (one.node, one.answer) (after.node, q.reply) = λ i. (sym one.led i, sym (ap (λ (r : Receipt). r.reply) one.receipt) i) in
    subst (IsStepAt w (after_action w (action_at node number e)) (span_handed w (action_at node number e)) node h.node) led (steps_are_by_places w node number h.node e (one.node, one.answer) world placed sent one.step)
