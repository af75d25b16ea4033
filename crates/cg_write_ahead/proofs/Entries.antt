-- An entry that is told to nobody yet, where all records are kept beside the history.
use Rattle.std.proofs.Common.{◌≡◌, ◌≤◌, List, [], ◌∷◌, ◌++◌, length, Ok, Err, None, refl, sym, ap, ◌∙◌, arith, Some, append_assoc, append-nil}
use Rattle.std.specs.Prelude.{Result, OnErr, MatchResult}
use mathlib.Core.List.{IsPrefix}
use Rattle.cg_types.specs.declared.fault.Fault.{Fault}
use Rattle.cg_types.specs.Answer.{Answers}
use Rattle.cg_table.specs.Puts.{Put}
use Rattle.cg_core.specs.declared.event.Event.{Event}
use Rattle.cg_core.specs.Values.{NodeValue}
use Rattle.cg_history.specs.declared.item.Item.{Item}
use Rattle.cg_history.specs.declared.item.Receipt.{Receipt}
use Rattle.cg_history.specs.Items.{puts_of}
use Rattle.cg_history.specs.History.{HistoryValue, IsFoldOf, IsReplayed, Replays, apply, count_of, unfolded}
use Rattle.cg_history.proofs.Folding.{all_counted}
use Rattle.cg_history.proofs.OneMore.{each_event_makes_one_record}
use Rattle.cg_locked.specs.Seat.{SeatState}
use Rattle.cg_locked.specs.Entry.{IsEntered}
use Rattle.cg_locked.proofs.Folding.{whole_replayed}
use Rattle.cg_locked.proofs.Showing.{entry_done, entry_refused}

module _ (start : NodeValue) (seat : SeatState) (e : Event) (seen : List Item) (all more : List Item) (h after : HistoryValue)
    (fold : IsFoldOf all h) (starts : h.start ≡ start) (led : Replays start all h.node) (replayed : IsReplayed h)
    (begins : IsPrefix seat.seen all) (long : seat.amount ≤ count_of h) (sees : seen ≡ more) where
  abbrev long_enough : seat.amount ≤ length all
  long_enough = let count = all_counted all h fold in omega (arith, count, long)

  -- it was entered, or refused
  pub entry_untold : (P R : Type 0) (result : Result Receipt Fault)
      → Answers (λ q. (unfolded more after, q)) (apply (unfolded all h) seat.caller e) result → OnErr result (P × (more ≡ all) × R)
      → MatchResult result (λ q. IsEntered start seat e seen (Ok (q, None))) (λ f. IsEntered start seat e seen (Err f))
  entry_untold P R (Ok q) due same =
      entry_done start seat e seen (unfolded all h) refl starts (whole_replayed all h fold start starts led replayed) begins long_enough (unfolded more after) q None due sees tt
  entry_untold P R (Err f) due same =
      entry_refused start seat e seen (unfolded all h) refl starts (whole_replayed all h fold start starts led replayed) begins long_enough f due (sees ∙ same.1)

-- the same entry, with the puts that were published behind it
pub entry_told : (start : NodeValue) (seat : SeatState) (e : Event) (seen : List Item) (q : Receipt) → IsEntered start seat e seen (Ok (q, None)) → (t : List Put) → t ≡ puts_of seen → IsEntered start seat e seen (Ok (q, Some t))
entry_told start seat e seen q entry t is = record {
  before = entry.before;
  after = entry.after;
  whole = entry.whole;
  starts = entry.starts;
  replayed = entry.replayed;
  begins = entry.begins;
  long = entry.long;
  entered = entry.entered;
  seen_are = entry.seen_are;
  told = is ∙ ap puts_of entry.seen_are;
}

-- ---- what a seat has seen

-- a list begins with itself
pub begins_same : (l : List Item) → IsPrefix l l
begins_same l = ([], append-nil l)

begins_more : (old now : List Item) (r : Item) → IsPrefix old now → IsPrefix old (now ++ r ∷ [])
begins_more old now r begins = (begins.0 ++ r ∷ [], sym (append_assoc old begins.0 (r ∷ [])) ∙ ap (λ (l : List Item). l ++ r ∷ []) begins.1)

-- after an entry a seat has seen what it had seen, and more
pub entry_begins : (start : NodeValue) (seat : SeatState) (e : Event) (seen : List Item) (result : Result Receipt Fault)
    → MatchResult result (λ q. IsEntered start seat e seen (Ok (q, None))) (λ f. IsEntered start seat e seen (Err f)) → IsPrefix seat.seen seen
entry_begins start seat e seen (Ok q) entry =
    let one = each_event_makes_one_record entry.before seat.caller e entry.after q entry.entered in
    let rows = entry.seen_are ∙ one.records in
    let more = begins_more seat.seen entry.before.records _ entry.begins in
    (more.0, more.1 ∙ sym rows)
entry_begins start seat e seen (Err f) entry = (entry.begins.0, entry.begins.1 ∙ sym entry.seen_are)
