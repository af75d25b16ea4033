-- Histories are writable from their start on.
use Rattle.std.proofs.Common.{◌≡◌, ℕ, ◌<◌, zero, suc, Bool, true, false, cond, List, [], ◌∷◌, ◌++◌, length, Result, Ok, Err, refl, subst, slice_index}
use Rattle.std.specs.Prelude.{◌==◌}
use Rattle.std.specs.List.{AllByRecursion}
use Rattle.cg_types.specs.declared.fault.Fault.{Fault}
use Rattle.cg_types.specs.declared.fault.Fault.TheVariants.{VersionsSpent}
use Rattle.cg_core.specs.declared.event.Event.{Event}
use Rattle.cg_core.specs.Step.{Step, node_step}
use Rattle.cg_history.specs.declared.item.Item.{Item}
use Rattle.cg_history.specs.declared.item.Receipt.{Receipt}
use Rattle.cg_history.specs.History.{record_of, HistoryValue, IsReplayed, LAST_NUMBER, count_of, new_history, with_record, with_step, receipt_of}
use Rattle.cg_history.proofs.Replaying.{replayed_new, replayed_after}
use Rattle.cg_journal.specs.Contents.{IsCount, IsEvent, MayStart, IsWritable}
use Rattle.cg_journal.specs.Laws.{WritableHistoriesGoOn}

one_event_more : (records : List Item) (r : Item) → AllByRecursion (λ i. IsEvent i.event) records → IsEvent r.event → AllByRecursion (λ i. IsEvent i.event) (records ++ r ∷ [])
one_event_more [] r all is = (is, tt)
one_event_more (q ∷ records) r all is = (all.0, one_event_more records r all.1 is)

same_ok : {A F : Type 0} (x y : A) → (let r : Result A F = Ok x in r) ≡ Ok y → x ≡ y
same_ok x y e = cc

gone_on : (h : HistoryValue) (caller : ℕ) (e : Event) (after : HistoryValue) (q : Receipt) (spent : Bool) (due : Step)
    → IsWritable h → IsEvent e → IsReplayed after
    → cond {A = Result (HistoryValue × Receipt) Fault} spent (Err VersionsSpent) (with_step h caller e due) ≡ Ok (after, q) → IsWritable after
gone_on h caller e after q true due is event replayed done = absurd cc
gone_on h caller e after q false (Err fault) is event replayed done = absurd cc
gone_on h caller e after q false (Ok x) is event replayed done =
    let item = record_of caller e h.node x in
    let same = same_ok {A = HistoryValue × Receipt} (with_record h x.0 item, receipt_of h caller e x.1) (after, q) done in
    record {
      replayed = replayed;
      whole = subst (λ (y : HistoryValue × Receipt). y.0.folded ≡ 0) same is.whole;
      start = subst (λ (y : HistoryValue × Receipt). MayStart y.0.start.table.own y.0.start.settings) same is.start;
      events = subst (λ (y : HistoryValue × Receipt). AllByRecursion (λ i. IsEvent i.event) y.0.records) same (one_event_more h.records item is.events event);
    }

pub writable_histories_go_on : WritableHistoriesGoOn
writable_histories_go_on = record {
  begins = λ own generation s first is. record {
    replayed = replayed_new own generation s first (new_history own generation s) refl;
    whole = refl;
    start = is;
    events = tt;
  };
  goes_on = λ h caller e after q is event done.
      gone_on h caller e after q (count_of h == LAST_NUMBER) (node_step h.node e) is event (replayed_after h caller e after q is.replayed done) done;
}

-- ---- the words of an event in hand

pub counts_of : (words : List ℕ) → ((i : ℕ) → slice_index words i < 18446744073709551616) → AllByRecursion IsCount words
counts_of [] small = tt
counts_of (w ∷ words) small = (small zero, counts_of words (λ i. small (suc i)))
