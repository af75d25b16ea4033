-- Consequences of an entry for the gate that submitted it.
use Rattle.std.proofs.Common.{◌≡◌, ◌≢◌, ◌+◌, ◌<◌, ◌⊎◌, inl, inr, ℕ, zero, suc, List, [], ◌∷◌, Option, Some, refl, sym, ap, subst, arith}
use Rattle.std.specs.Prelude.{Ok, Err, IfSome, option_map, slice_get}
use Rattle.std.proofs.lemmas.Option.{same_Some}
use mathlib.Core.List.{IsPrefix}
use Rattle.cg_types.specs.declared.fault.Fault.{Fault}
use Rattle.cg_types.specs.declared.fault.Fault.TheVariants as fault
use Rattle.cg_table.specs.Puts.{Put}
use Rattle.cg_core.specs.declared.event.Event.{Event}
use Rattle.cg_core.specs.declared.reply.Reply.{Reply}
use Rattle.cg_core.specs.Replies.{IsReplyTo}
use Rattle.cg_core.specs.Values.{NodeValue}
use Rattle.cg_history.specs.declared.item.Item.{Item}
use Rattle.cg_history.specs.declared.item.Receipt.{Receipt}
use Rattle.cg_history.specs.declared.item.UnconfirmedReceipt.{UnconfirmedReceipt}
use Rattle.cg_history.specs.Confirming.{AreConfirmed, IsFirstUnconfirmed}
use Rattle.cg_history.specs.History.{HistoryValue, IsFoldOf, unfolded}
use Rattle.cg_history.proofs.Folds.{confirmed_past_a_fold}
use Rattle.cg_locked.specs.Seat.{SeatState}
use Rattle.cg_locked.specs.Entry.{IsEntered, ShowsChange}
use Rattle.cg_locked.proofs.Confirming.{entries_are_confirmed}
use Rattle.cg_locked.proofs.SeatLemmas.{entry_done, entry_fault}
use Rattle.cg_engine.specs.Events.{IsGateFault}
use Rattle.cg_write_ahead.specs.Submitting.{IsEntryAhead}
use Rattle.cg_ahead_seats.specs.Confirmed.{WasConfirmed}
use Rattle.cg_ahead_seats.specs.Gates.{AheadValue, Enters, Refuses, Stays, last_reply}

-- ---- the receipt of an event that was done

none_before : (folded : ℕ) (records : List Item) → AreConfirmed folded records []
none_before folded records place r at = absurd cc

past_all : (n : ℕ) (q : Receipt) → n < q.number → (place : ℕ) (r : Receipt) → slice_get (q ∷ []) place ≡ Some r → n < r.number
past_all n q past zero r at = subst (λ (x : Receipt). n < x.number) (same_Some q r at) past
past_all n q past (suc place) r at = absurd cc

-- the history with its record confirms it
pub confirmed_at_once : (start : NodeValue) (seat : SeatState) (e : Event) (seen : List Item) (q : Receipt) (told : Option (List Put)) → IsEntered start seat e seen (Ok (q, told))
    → (h : HistoryValue) → IsFoldOf seen h → h.folded < q.number → AreConfirmed h.folded h.records (q ∷ [])
confirmed_at_once start seat e seen q told entry h fold past =
    let all : AreConfirmed 0 seen (q ∷ []) = entries_are_confirmed start seat e seen q told [] (none_before 0 seat.seen) entry in
    let kept = confirmed_past_a_fold (unfolded seen h) h.folded (q ∷ []) all (past_all (0 + h.folded) q (omega (arith, past))) in
    subst (λ (w : HistoryValue). AreConfirmed w.folded w.records (q ∷ [])) (sym fold.1) kept

-- so the one receipt that it is asked for can't be unconfirmed
pub never_unconfirmed : (start : NodeValue) (seat : SeatState) (e : Event) (seen log : List Item) (q : Receipt) (told : Option (List Put)) → IsEntered start seat e seen (Ok (q, told)) → seen ≡ log
    → (h now : HistoryValue) → IsFoldOf log now → now ≡ h → h.folded < q.number → (qs : List Receipt) → qs ≡ q ∷ [] → (s : UnconfirmedReceipt) → IsFirstUnconfirmed now.folded now.records qs s → ⊥
never_unconfirmed start seat e seen log q told entry sees h now fold is past qs one s first =
    let kept : now.folded < q.number = subst (λ (w : HistoryValue). w.folded < q.number) (sym is) past in
    let all = confirmed_at_once start seat e seen q told entry now (subst (λ (l : List Item). IsFoldOf l now) (sym sees) fold) kept in
    first.unconfirmed (subst (AreConfirmed now.folded now.records) (sym one) all s.place first.receipt first.at)

-- ---- the gate after an event that was done

pub entered : (start : NodeValue) (own : ℕ) (g h : AheadValue) (e : Event) (q : Receipt) → IsEntered start g.seat e h.seat.seen (Ok (q, h.told)) → WasConfirmed start h.seat.seen q
    → h.last ≡ Some q → h.seat.amount ≡ g.seat.amount + 1 → (h.seat.caller ≡ g.seat.caller) × (h.seat.parts ≡ g.seat.parts) → h.torn ≡ g.torn
    → IfSome h.told (λ t. ShowsChange t own e q.reply)
    → (answer : Reply) × (last_reply h ≡ Some answer) × Enters start own g e answer h × IsReplyTo e answer
entered start own g h e q entry confirmed last counts same torn shown =
    let done = entry_done start g.seat e h.seat.seen q h.told entry in
    let its : Enters start own g e q.reply h = record {
      receipt = q;
      is = done.is;
      entry = entry;
      confirmed = confirmed;
      last = last;
      counted = counts;
      seat = same;
      torn = torn;
      shown = shown;
    } in
    (q.reply, ap (option_map (λ (r : Receipt). r.reply)) last, its, done.kind)

-- ---- an event that was refused

pub refused : (start : NodeValue) (g : AheadValue) (e : Event) (seen : List Item) (f : Fault) → f ≢ fault.WriteFault → IsEntryAhead start g.seat e seen (Err f) → Refuses start g e f × IsGateFault e f
refused start g e seen f not (inl memory) = (inl memory, subst (IsGateFault e) (sym memory) tt)
refused start g e seen f not (inr (inl write)) = absurd (not write)
refused start g e seen f not (inr (inr entry)) = (inr (seen, entry), entry_fault start g.seat e seen f entry)

-- the gate with another seat, which counted no more
pub stayed : (g : AheadValue) (now : SeatState) (f : Fault) → f ≢ fault.WriteFault → (f ≡ fault.WriteFault) ⊎ (now.amount ≡ g.seat.amount) → IsPrefix g.seat.seen now.seen
    → (now.caller ≡ g.seat.caller) × (now.parts ≡ g.seat.parts) → Stays g (record { seat = now; last = g.last; told = g.told; torn = g.torn })
stayed g now f not (inl write) begins same = absurd (not write)
stayed g now f not (inr amount) begins same = record { counted = inr (refl, amount); seen = begins; seat = same; same = (refl, refl) }
