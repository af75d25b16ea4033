-- A gate goes on, call by call.
use Rattle.std.proofs.Common.{◌≡◌, ℕ, List, [], ◌∷◌, ◌++◌, sym, ap, ◌∙◌, append_assoc}
use Rattle.std.specs.Prelude.{Option}
use Rattle.std.proofs.lemmas.List.{append-nil}
use Rattle.cg_table.specs.Puts.{Put}
use Rattle.cg_core.specs.declared.event.Event.{Event}
use Rattle.cg_core.specs.declared.reply.Reply.{Reply}
use Rattle.cg_core.specs.Values.{NodeValue}
use Rattle.cg_locked.specs.Seats.{SeatValue, with_told, Enters, GoesOn}

-- no call, or one that was refused
pub goes_on-same : (g h : SeatValue) → h ≡ g → GoesOn g h
goes_on-same g h same = record {
  seat = (ap (λ (v : SeatValue). v.caller) same, ap (λ (v : SeatValue). v.parts) same);
  more = [];
  receipts = ap (λ (v : SeatValue). v.receipts) same ∙ sym (append-nil g.receipts);
}

-- the told is handed over
pub goes_on-told : (g h : SeatValue) (told : Option (List Put)) → h ≡ with_told g told → GoesOn g h
goes_on-told g h told same = record {
  seat = (ap (λ (v : SeatValue). v.caller) same, ap (λ (v : SeatValue). v.parts) same);
  more = [];
  receipts = ap (λ (v : SeatValue). v.receipts) same ∙ sym (append-nil g.receipts);
}

-- an event that was done
pub goes_on-event : (start : NodeValue) (own : ℕ) (g h : SeatValue) (e : Event) (answer : Reply) → Enters start own g e answer h → GoesOn g h
goes_on-event start own g h e answer enters = record { seat = enters.seat; more = enters.receipt ∷ []; receipts = enters.receipts }

-- one call after another
pub goes_on-next : (g h k : SeatValue) → GoesOn g h → GoesOn h k → GoesOn g k
goes_on-next g h k first next = record {
  seat = (next.seat.0 ∙ first.seat.0, next.seat.1 ∙ first.seat.1);
  more = first.more ++ next.more;
  receipts = next.receipts ∙ ap (λ qs. qs ++ next.more) first.receipts ∙ append_assoc g.receipts first.more next.more;
}
