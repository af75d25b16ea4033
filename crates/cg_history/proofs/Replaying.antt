-- Records that lead from one node to another, with one event more.
use Rattle.std.proofs.Common.{◌≡◌, ◌≢◌, ℕ, Bool, true, false, cond, List, [], ◌∷◌, ◌++◌, length, refl, sym, ap, ◌∙◌, subst, Result, Ok, Err, eqb-true, arith, length-append}
use Rattle.std.specs.Prelude.{◌==◌}
use Rattle.std.proofs.lemmas.Bool.{eqb-false}
use Rattle.cg_types.specs.declared.fault.Fault.{Fault}
use Rattle.cg_types.specs.declared.fault.Fault.TheVariants as faults
use Rattle.cg_types.specs.Answer.{IsRefusal}
use Rattle.cg_types.specs.Numbers.{IsGeneration}
use Rattle.cg_entry.specs.Entry.{starting_entry}
use Rattle.cg_table.specs.Puts.{Put, puts}
use Rattle.cg_table.proofs.TableLemmas.{alone_valid}
use Rattle.cg_core.specs.declared.event.Event.{Event}
use Rattle.cg_core.specs.declared.reply.Reply.{Reply}
use Rattle.cg_core.specs.SettingsValues.{SettingsValue}
use Rattle.cg_core.specs.Values.{NodeValue, IsSmall}
use Rattle.cg_core.specs.Step.{Step, node_step, then}
use Rattle.cg_core.specs.Changes.{step_with_puts}
use Rattle.cg_history.specs.declared.item.Item.{Item}
use Rattle.cg_history.specs.declared.item.Receipt.{Receipt}
use Rattle.cg_history.specs.History.{record_of, HistoryValue, Replays, IsStart, IsReplayed, new_history, with_record, receipt_of, LAST_NUMBER, count_of, with_step, apply}

-- one record more
pub replays_more : (b : NodeValue) (rs : List Item) (n : NodeValue) (caller : ℕ) (e : Event) (x : NodeValue × Reply) → Replays b rs n → node_step n e ≡ Ok x → Replays b (rs ++ record_of caller e n x ∷ []) x.0
replays_more b [] n caller e x is step = (x, rw is step, ap (λ (m : NodeValue). record_of caller e m x) (sym is), refl)
replays_more b (r ∷ rs) n caller e x h step = (h.0, h.1, h.2, replays_more h.0.0 rs n caller e x h.3 step)

-- a history of a node that starts
pub replayed_new : (own generation : ℕ) (settings : SettingsValue) → IsGeneration generation → (h : HistoryValue) → h ≡ new_history own generation settings → IsReplayed h
replayed_new own generation settings in_range h is =
    subst IsReplayed (sym is) (record {
      begun = record { own = own; generation = generation; settings = settings; in_range = in_range; is = refl };
      front = [];
      came = refl;
      gone = refl;
      replays = refl;
      few = omega arith;
    })

-- a node that started is one that a member may be
pub start_small : (n : NodeValue) → IsStart n → IsSmall n
start_small n begun = subst IsSmall (sym begun.is) (alone_valid begun.own (starting_entry begun.generation))

-- where nothing is folded, the base is the node that started
none_before : (start : NodeValue) (front : List Item) (base : NodeValue) → length front ≡ 0 → Replays start front base → base ≡ start
none_before start [] base none came = sym came
none_before start (r ∷ rs) base none came = absurd cc

pub base_is_start : (h : HistoryValue) → IsReplayed h → h.folded ≡ 0 → h.base ≡ h.start
base_is_start h i none = none_before h.start i.front h.base (i.gone ∙ none) i.came

-- ---- the history after a step

same_ok : {A F : Type 0} (x y : A) → (let r : Result A F = Ok x in r) ≡ Ok y → x ≡ y
same_ok x y e = cc

module _ (h : HistoryValue) (caller : ℕ) (e : Event) where
  -- the record of a step
  abbrev pub item_of : Reply → List Put → Item
  item_of answer ps = record { caller = caller; event = e; reply = answer; puts = ps }

  with_step_by : (due : Step) (n : NodeValue) (answer : Reply) (ps : List Put) → then {B = NodeValue × Reply × List Put} due (λ x. (x.0, x.1, puts h.node.table x.0.table)) ≡ Ok (n, answer, ps)
      → with_step h caller e due ≡ Ok (with_record h n (item_of answer ps), receipt_of h caller e answer)
  with_step_by (Ok x) n answer ps is =
      let same = same_ok {A = NodeValue × Reply × List Put} (x.0, x.1, puts h.node.table x.0.table) (n, answer, ps) is in
      ap (λ (y : NodeValue × Reply × List Put). Ok (with_record h y.0 (item_of y.1 y.2), receipt_of h caller e y.1)) same
  with_step_by (Err fault) n answer ps is = absurd cc

  -- a step that is done has its record
  pub with_step_ok : (n : NodeValue) (answer : Reply) (ps : List Put) → step_with_puts h.node e ≡ Ok (n, answer, ps)
      → with_step h caller e (node_step h.node e) ≡ Ok (with_record h n (item_of answer ps), receipt_of h caller e answer)
  with_step_ok n answer ps is = with_step_by (node_step h.node e) n answer ps is

  refused_by : (fault : Fault) (due : Step) → IsRefusal fault (then {B = NodeValue × Reply × List Put} due (λ x. (x.0, x.1, puts h.node.table x.0.table))) → IsRefusal fault (with_step h caller e due)
  refused_by faults.OutOfMemory (Ok x) is = refl
  refused_by faults.OutOfMemory (Err fault) is = absurd cc
  refused_by fault (Ok x) is = absurd cc
  refused_by fault (Err other) is = cc

  -- a step that is refused has no record
  pub with_step_err : (fault : Fault) → IsRefusal fault (step_with_puts h.node e) → IsRefusal fault (with_step h caller e (node_step h.node e))
  with_step_err fault is = refused_by fault (node_step h.node e) is

  one_more : (x : NodeValue × Reply) → node_step h.node e ≡ Ok x → count_of h ≢ LAST_NUMBER → IsReplayed h → IsReplayed (with_record h x.0 (record_of caller e h.node x))
  one_more x step room i = record {
    begun = i.begun;
    front = i.front;
    came = i.came;
    gone = i.gone;
    replays = replays_more h.base h.records h.node caller e x i.replays step;
    few = omega (arith, i.few, room, length-append h.records (record_of caller e h.node x ∷ []));
  }

  goes_on : (spent : Bool) (due : Step) (y : HistoryValue × Receipt) → (count_of h == LAST_NUMBER) ≡ spent → node_step h.node e ≡ due → IsReplayed h
      → cond {A = Result (HistoryValue × Receipt) Fault} spent (Err faults.VersionsSpent) (with_step h caller e due) ≡ Ok y → IsReplayed y.0
  goes_on true due y spent step i is = absurd cc
  goes_on false (Err fault) y left step i is = absurd cc
  goes_on false (Ok x) y left step i is =
      let same = same_ok {A = HistoryValue × Receipt} (with_record h x.0 (record_of caller e h.node x), receipt_of h caller e x.1) y is in
      subst (λ (y : HistoryValue × Receipt). IsReplayed y.0) same (one_more x step (eqb-false (count_of h) LAST_NUMBER left) i)

  -- the record of an event goes on from the others
  pub replayed_after : (after : HistoryValue) (q : Receipt) → IsReplayed h → apply h caller e ≡ Ok (after, q) → IsReplayed after
  replayed_after after q i is = goes_on (count_of h == LAST_NUMBER) (node_step h.node e) (after, q) refl refl i is

  -- the step with its record is expected, unless numbers are spent
  pub apply_unspent : count_of h ≢ LAST_NUMBER → apply h caller e ≡ with_step h caller e (node_step h.node e)
  apply_unspent room = unspent (count_of h == LAST_NUMBER) refl
    where
      unspent : (b : Bool) → (count_of h == LAST_NUMBER) ≡ b → cond {A = Result (HistoryValue × Receipt) Fault} b (Err faults.VersionsSpent) (with_step h caller e (node_step h.node e)) ≡ with_step h caller e (node_step h.node e)
      unspent true spent = absurd (room (eqb-true (count_of h) LAST_NUMBER spent))
      unspent false left = refl
