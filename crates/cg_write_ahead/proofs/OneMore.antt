-- One record more, by the event and the reply of its receipt.
use Rattle.std.proofs.Common.{◌≡◌, ℕ, ◌+◌, ◌<◌, Ok, refl, sym, ap, arith}
use Rattle.cg_core.specs.declared.event.Event.{Event}
use Rattle.cg_history.specs.declared.item.Receipt.{Receipt}
use Rattle.cg_history.specs.History.{HistoryValue, apply, count_of}
use Rattle.cg_history.proofs.OneMore.{each_event_makes_one_record}
use Rattle.cg_write_ahead.specs.Submitting.{IsOneMore}

pub one_more : (h : HistoryValue) (caller : ℕ) (e : Event) (after : HistoryValue) (q : Receipt) → apply h caller e ≡ Ok (after, q) → IsOneMore e q.reply h.records after.records
one_more h caller e after q is =
    let one = each_event_makes_one_record h caller e after q is in record {
      item = _;
      are = one.records;
      event = refl;
      reply = sym (ap (λ (r : Receipt). r.reply) one.receipt);
    }

-- its number is past those of the folded records
pub past_folded : (h : HistoryValue) (caller : ℕ) (e : Event) (after : HistoryValue) (q : Receipt) → apply h caller e ≡ Ok (after, q) → after.folded < q.number
past_folded h caller e after q is =
    let one = each_event_makes_one_record h caller e after q is in
    let number : q.number ≡ count_of h + 1 = ap (λ (r : Receipt). r.number) one.receipt in
    let folded = one.folded in
    omega (arith, number, folded)
