-- The receipts of a seat are confirmed by what it has seen.
use Rattle.std.proofs.Common.{◌≡◌, ℕ, zero, suc, ◌+◌, ◌-◌, ◌≤◌, List, [], ◌∷◌, ◌++◌, length, get_or, Some, refl, sym, ap, ◌∙◌, subst, arith, append_assoc, length-append}
use Rattle.std.specs.Prelude.{slice_get}
use Rattle.std.proofs.lemmas.Option.{slice_get_within}
use mathlib.Core.List.{IsPrefix}
use Rattle.cg_types.specs.ListPlace.{at_place}
use Rattle.cg_table.specs.Puts.{puts}
use Rattle.cg_history.specs.declared.item.Item.{Item}
use Rattle.cg_history.specs.declared.item.Receipt.{Receipt}
use Rattle.cg_history.specs.Confirming.{Stands, ComesAfterAll}
use Rattle.cg_history.proofs.Confirmed.{at_place_within, confirmed_more}
use Rattle.cg_history.proofs.OneMore.{each_event_makes_one_record}
use Rattle.cg_history.specs.History.{count_of}
use Rattle.cg_locked.specs.Entry.{ConfirmedStay, EntriesAreConfirmed}

at_more : (xs ys : List Item) (n : ℕ) (x : Item) → slice_get xs n ≡ Some x → slice_get (xs ++ ys) n ≡ Some x
at_more [] ys n x is = absurd cc
at_more (z ∷ zs) ys zero x is = is
at_more (z ∷ zs) ys (suc n) x is = at_more zs ys n x is

place_more : (xs ys : List Item) (n : ℕ) (x : Item) → at_place xs n ≡ Some x → at_place (xs ++ ys) n ≡ Some x
place_more xs ys zero x is = absurd cc
place_more xs ys (suc n) x is = at_more xs ys n x is

place_within : (xs : List Item) (n : ℕ) (x : Item) → at_place xs n ≡ Some x → n ≤ length xs
place_within xs zero x is = absurd cc
place_within xs (suc n) x is = let within = slice_get_within xs n x is in omega arith

at_end : (xs : List Item) (x : Item) → slice_get (xs ++ x ∷ []) (length xs) ≡ Some x
at_end [] x = refl
at_end (z ∷ zs) x = at_end zs x

place_at_end : (xs : List Item) (x : Item) → at_place (xs ++ x ∷ []) (length xs + 1) ≡ Some x
place_at_end xs x =
    let next : length xs + 1 ≡ suc (length xs) = omega arith in
    ap (at_place (xs ++ x ∷ [])) next ∙ at_end xs x

-- more records confirm as much
pub confirmed_stay : ConfirmedStay
confirmed_stay folded seen records receipts begins all k r at =
    let one = all k r at in
    record {
      stands = (one.stands.0, subst (λ (l : List Item). at_place l (r.number - folded) ≡ Some one.stands.0) begins.1 (place_more seen begins.0 (r.number - folded) one.stands.0 one.stands.1), one.stands.2);
      follows = one.follows;
    }

-- the receipt of an event is confirmed behind those of the seat's earlier events
pub entries_are_confirmed : EntriesAreConfirmed
entries_are_confirmed start seat e seen q told receipts all entry =
    let h = entry.before in
    let one = each_event_makes_one_record h seat.caller e entry.after q entry.entered in
    let r : Item = record { caller = seat.caller; event = e; reply = one.answer; puts = puts h.node.table one.node.table } in
    let rows : seen ≡ h.records ++ r ∷ [] = entry.seen_are ∙ one.records in
    let front : IsPrefix seat.seen seen = (entry.begins.0 ++ r ∷ [], sym (append_assoc seat.seen entry.begins.0 (r ∷ [])) ∙ ap (λ l. l ++ r ∷ []) entry.begins.1 ∙ sym rows) in
    let whole = entry.whole in
    let counted : q.number ≡ count_of h + 1 = ap (λ (p : Receipt). p.number) one.receipt in
    let number : q.number - 0 ≡ length h.records + 1 = omega (arith, whole, counted) in
    let short : length seat.seen ≤ length h.records = omega (arith, sym (ap length entry.begins.1) ∙ length-append seat.seen entry.begins.0) in
    let stands : Stands 0 seen q = (
      r,
      ap (at_place seen) number ∙ subst (λ (l : List Item). at_place l (length h.records + 1) ≡ Some r) (sym rows) (place_at_end h.records r),
      (sym (ap (λ (p : Receipt). p.caller) one.receipt), sym (ap (λ (p : Receipt). p.event) one.receipt), sym (ap (λ (p : Receipt). p.reply) one.receipt)),
    ) in
    let follows : ComesAfterAll receipts q =
    λ k d less. λ same. (
    let p = get_or receipts k d in
    let earlier = all k p (at_place_within receipts k d less) in
    let within = place_within seat.seen (p.number - 0) earlier.stands.0 earlier.stands.1 in
    omega (arith, within, short, number)
    ) in
    confirmed_more 0 seen receipts q (confirmed_stay 0 seat.seen seen receipts front all) (record { stands = stands; follows = follows })
