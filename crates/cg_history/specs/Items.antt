-- Records and their receipts.
use Rattle.std.specs.Prelude.{ℕ, List, [], ◌∷◌, ◌++◌, map, refl}
use Rattle.std.specs.Coded.{Coded, code_by, coded×, coded_ℕ}
use Rattle.cg_table.specs.Puts.{Put, puts_code}
use Rattle.cg_core.specs.declared.event.Event.{Event}
use Rattle.cg_core.specs.declared.reply.Reply.{Reply}
use Rattle.cg_core.specs.EventCodes.{event_code, reply_code}
use Rattle.cg_history.specs.declared.item.Item.{Item}
use Rattle.cg_history.specs.declared.item.Receipt.{Receipt}

-- the code that a model of a list of records requires
abbrev pub item_code : Coded Item
item_code =
    code_by (ℕ × (Event × (Reply × List Put))) (coded× coded_ℕ (coded× event_code (coded× reply_code puts_code)))
    (λ i. (i.caller, (i.event, (i.reply, i.puts))))
    (λ p. record { caller = p.0; event = p.1.0; reply = p.1.1.0; puts = p.1.1.1 })
    (λ _. refl)

-- the code that a model of a list of receipts requires
abbrev pub receipt_code : Coded Receipt
receipt_code =
    code_by (ℕ × (ℕ × (Event × Reply))) (coded× coded_ℕ (coded× coded_ℕ (coded× event_code reply_code)))
    (λ q. (q.caller, (q.number, (q.event, q.reply))))
    (λ p. record { caller = p.0; number = p.1.0; event = p.1.1.0; reply = p.1.1.1 })
    (λ _. refl)

-- the puts of records, one after the other
abbrev pub puts_of : List Item → List Put
puts_of [] = []
puts_of (r ∷ rs) = r.puts ++ puts_of rs

abbrev pub events_of : List Item → List Event
events_of rs = map (λ r. r.event) rs

abbrev pub replies_of : List Item → List Reply
replies_of rs = map (λ r. r.reply) rs
