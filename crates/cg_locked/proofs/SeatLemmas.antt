-- Consequences of an entry for the gate that submitted it.
use Rattle.std.proofs.Common.{◌≡◌, ◌+◌, ◌-◌, ℕ, Bool, true, false, cond, List, [], ◌∷◌, ◌++◌, length, refl, sym, ap, ◌∙◌, subst, length-append, arith}
use Rattle.std.specs.Prelude.{Result, Ok, Err, Option, Some, IfSome, slice_get, option_map, ◌==◌}
use Rattle.std.proofs.lemmas.List.Elements.{All-push}
use Rattle.cg_types.specs.declared.fault.Fault.{Fault}
use Rattle.cg_types.specs.declared.fault.Fault.TheVariants as fault
use Rattle.cg_table.specs.Puts.{Put}
use Rattle.cg_core.specs.declared.event.Event.{Event}
use Rattle.cg_core.specs.declared.reply.Reply.{Reply}
use Rattle.cg_core.specs.Values.{NodeValue}
use Rattle.cg_core.specs.Step.{Step, node_step}
use Rattle.cg_history.specs.declared.item.Receipt.{Receipt}
use Rattle.cg_history.specs.History.{HistoryValue, LAST_NUMBER, count_of, with_step, apply}
use Rattle.cg_history.proofs.OneMore.{each_event_makes_one_record}
use Rattle.cg_history.specs.declared.item.Item.{Item}
use Rattle.cg_history.specs.Confirming.{AreConfirmed}
use Rattle.cg_locked.specs.Seat.{SeatState}
use Rattle.cg_locked.specs.Entry.{IsEntered, ShowsChange}
use mathlib.Core.List.{IsPrefix}
use Rattle.cg_locked.proofs.Confirming.{confirmed_stay, entries_are_confirmed}
use Rattle.cg_core.specs.Replies.{IsReplyTo}
use Rattle.cg_engine.specs.Events.{IsGateFault}
use Rattle.cg_engine.proofs.ReplyLemmas.{reply_kind, step_fault}
use Rattle.cg_locked.specs.Seats.{SeatValue, AreOfCaller, last_reply, IsReceiptOf, IsSeatOf, HasEntered, Enters}

-- ---- a receipt more

at_length : (qs : List Receipt) (q : Receipt) → slice_get (qs ++ q ∷ []) (length qs) ≡ Some q
at_length [] q = refl
at_length (p ∷ ps) q = at_length ps q

last_stands : (qs : List Receipt) (q : Receipt) → slice_get (qs ++ q ∷ []) (length (qs ++ q ∷ []) - 1) ≡ Some q
last_stands qs q =
    let place : length (qs ++ q ∷ []) - 1 ≡ length qs = omega (arith, length-append qs (q ∷ [])) in
    ap (slice_get (qs ++ q ∷ [])) place ∙ at_length qs q

pub last_of_more : (qs : List Receipt) (q : Receipt) → last_reply (qs ++ q ∷ []) ≡ Some q.reply
last_of_more qs q = ap (option_map (λ (r : Receipt). r.reply)) (last_stands qs q)

pub more_of : (caller : ℕ) (qs : List Receipt) (q : Receipt) → AreOfCaller caller qs → q.caller ≡ caller → AreOfCaller caller (qs ++ q ∷ [])
more_of caller qs q are is = All-push (λ (r : Receipt). r.caller ≡ caller) qs q are is

-- ---- an entry that was done

-- the receipt of an entry, and the kind of its reply
pub record IsDone (caller : ℕ) (e : Event) (q : Receipt) : Type 0 where
  pub is : IsReceiptOf caller e q.reply q
  pub kind : IsReplyTo e q.reply

pub entry_done : (start : NodeValue) (seat : SeatState) (e : Event) (seen : List Item) (q : Receipt) (told : Option (List Put)) → IsEntered start seat e seen (Ok (q, told)) → IsDone seat.caller e q
entry_done start seat e seen q told entry =
    let one = each_event_makes_one_record entry.before seat.caller e entry.after q entry.entered in
    let replied : one.answer ≡ q.reply = sym (ap (λ (p : Receipt). p.reply) one.receipt) in
    record {
      is = (ap (λ (p : Receipt). p.caller) one.receipt, ap (λ (p : Receipt). p.event) one.receipt, refl);
      kind = subst (IsReplyTo e) replied (reply_kind entry.before.node e one.node one.answer one.step);
    }

-- ---- an entry that was refused

fault_by : (h : HistoryValue) (caller : ℕ) (e : Event) (spent : Bool) (due : Step) (f : Fault) → node_step h.node e ≡ due
    → cond {A = Result (HistoryValue × Receipt) Fault} spent (Err fault.VersionsSpent) (with_step h caller e due) ≡ Err f → IsGateFault e f
fault_by h caller e true due f step is =
    let same : fault.VersionsSpent ≡ f = cc in
    subst (IsGateFault e) same tt
fault_by h caller e false (Ok x) f step is = absurd cc
fault_by h caller e false (Err g) f step is =
    let same : g ≡ f = cc in
    subst (IsGateFault e) same (step_fault h.node e g step)

apply_fault : (h : HistoryValue) (caller : ℕ) (e : Event) (f : Fault) → apply h caller e ≡ Err f → IsGateFault e f
apply_fault h caller e f is = fault_by h caller e (count_of h == LAST_NUMBER) (node_step h.node e) f refl is

pub entry_fault : (start : NodeValue) (seat : SeatState) (e : Event) (seen : List Item) (f : Fault) → IsEntered start seat e seen (Err f) → IsGateFault e f
entry_fault start seat e seen fault.OutOfMemory entry = tt
entry_fault start seat e seen f entry = apply_fault entry.before seat.caller e f entry.entered

-- ---- the gate after it

-- an entry more, from a gate with these receipts
module _ (start : NodeValue) (seat : SeatState) (qs : List Receipt) (e : Event) (seen : List Item) (q : Receipt) (told : Option (List Put)) (counted : seat.amount ≡ length qs) (confirmed : AreConfirmed 0 seat.seen qs) (entry : IsEntered start seat e seen (Ok (q, told))) where
  pub still_counted : (now : SeatState) (room items : List Receipt) → AreOfCaller seat.caller qs → now.amount ≡ seat.amount + 1 → now.caller ≡ seat.caller → now.seen ≡ seen → room ≡ qs → items ≡ room ++ q ∷ []
      → (now.amount ≡ length items) × AreOfCaller now.caller items × AreConfirmed 0 now.seen items
  still_counted now room items are more same_caller sees same all =
      let whole : items ≡ qs ++ q ∷ [] = all ∙ ap (λ rs. rs ++ q ∷ []) same in
      let long : length items ≡ length (qs ++ q ∷ []) = ap length whole in
      let done = entry_done start seat e seen q told entry in
      let stand = entries_are_confirmed start seat e seen q told qs confirmed entry in (
        omega (arith, more, counted, long, length-append qs (q ∷ [])),
        subst (λ rs. AreOfCaller now.caller rs) (sym whole) (subst (λ n. AreOfCaller n (qs ++ q ∷ [])) (sym same_caller) (more_of seat.caller qs q are done.is.0)),
        subst (λ rs. AreConfirmed 0 now.seen rs) (sym whole) (subst (λ (l : List Item). AreConfirmed 0 l (qs ++ q ∷ [])) (sym sees) stand),
      )

  pub entered : (own parts : ℕ) (was : Option (List Put)) (g : SeatValue) (others parts_left : ℕ) (room items : List Receipt) → (let inside : SeatValue = record { caller = seat.caller; parts = parts; receipts = qs; told = was } in inside) ≡ g
      → IfSome told (λ t. ShowsChange t own e q.reply) → others ≡ seat.caller → parts_left ≡ parts → room ≡ qs → items ≡ room ++ q ∷ []
      → (answer : Reply) × (last_reply items ≡ Some answer) × Enters start own g e answer (record { caller = others; parts = parts_left; receipts = items; told = told }) × IsReplyTo e answer
  entered own parts was g others parts_left room items is shown same_caller same_parts same all =
      let done = entry_done start seat e seen q told entry in
      let whole : items ≡ qs ++ q ∷ [] = all ∙ ap (λ rs. rs ++ q ∷ []) same in
      let callers : seat.caller ≡ g.caller = ap (λ (v : SeatValue). v.caller) is in
      let receipts : qs ≡ g.receipts = ap (λ (v : SeatValue). v.receipts) is in
      let its : IsSeatOf g seat = record {
        caller = callers;
        counted = counted ∙ ap length receipts;
        confirmed = subst (λ rs. AreConfirmed 0 seat.seen rs) receipts confirmed;
      } in
      let enters : Enters start own g e q.reply (record { caller = others; parts = parts_left; receipts = items; told = told }) = record {
        receipt = q;
        is = (done.is.0 ∙ callers, done.is.1, done.is.2);
        entry = record { seat = seat; is = its; seen = seen; entry = entry };
        receipts = whole ∙ ap (λ (v : SeatValue). v.receipts ++ q ∷ []) is;
        seat = (same_caller ∙ callers, same_parts ∙ ap (λ (v : SeatValue). v.parts) is);
        shown = shown;
      } in
      (q.reply, ap last_reply whole ∙ last_of_more qs q, enters, done.kind)

-- a gate whose event was refused, by the entry from its seat
pub refused : (start : NodeValue) (seat : SeatState) (qs : List Receipt) (e : Event) (seen : List Item) (f : Fault) → seat.amount ≡ length qs → AreConfirmed 0 seat.seen qs → IsEntered start seat e seen (Err f)
    → (parts : ℕ) (was : Option (List Put)) (g : SeatValue) → (let inside : SeatValue = record { caller = seat.caller; parts = parts; receipts = qs; told = was } in inside) ≡ g → HasEntered start g e (Err f)
refused start seat qs e seen f counted confirmed entry parts was g is =
    let receipts : qs ≡ g.receipts = ap (λ (v : SeatValue). v.receipts) is in
    let its : IsSeatOf g seat = record {
      caller = ap (λ (v : SeatValue). v.caller) is;
      counted = counted ∙ ap length receipts;
      confirmed = subst (λ rs. AreConfirmed 0 seat.seen rs) receipts confirmed;
    } in
    record { seat = seat; is = its; seen = seen; entry = entry }

-- after a refused entry the seat has counted the same receipts, which all records that it has then seen confirm
pub still_left : (start : NodeValue) (seat now : SeatState) (qs room : List Receipt) (e : Event) (f : Fault) → seat.amount ≡ length qs → AreOfCaller seat.caller qs → AreConfirmed 0 seat.seen qs → IsEntered start seat e now.seen (Err f)
    → now.amount ≡ seat.amount → now.caller ≡ seat.caller → room ≡ qs → (now.amount ≡ length room) × AreOfCaller now.caller room × AreConfirmed 0 now.seen room
still_left start seat now qs room e f counted are confirmed entry amount caller same =
    let begins : IsPrefix seat.seen now.seen = subst (λ (l : List Item). IsPrefix seat.seen l) (sym entry.seen_are) entry.begins in (
      amount ∙ counted ∙ ap length (sym same),
      subst (λ rs. AreOfCaller now.caller rs) (sym same) (subst (λ n. AreOfCaller n qs) (sym caller) are),
      subst (λ rs. AreConfirmed 0 now.seen rs) (sym same) (confirmed_stay 0 seat.seen now.seen qs begins confirmed),
    )
