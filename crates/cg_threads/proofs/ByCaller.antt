-- The receipts of a caller have the numbers of its records.
use Rattle.std.proofs.Common.{◌≡◌, ℕ, zero, suc, ◌+◌, ◌-◌, ◌<◌, Bool, true, List, length, take, Some, refl, sym, ap, ◌∙◌, arith, eqb-true}
use Rattle.std.specs.Prelude.{◌&&◌, ◌==◌, slice_get}
use Rattle.std.proofs.lemmas.Option.{same_Some, slice_get_within}
use Rattle.cg_types.specs.ListPlace.{at_place}
use Rattle.cg_types.proofs.RisingLemmas.{first_of}
use Rattle.cg_core.specs.declared.event.Event.{Event}
use Rattle.cg_history.specs.declared.item.Item.{Item}
use Rattle.cg_history.specs.declared.item.Receipt.{Receipt}
use Rattle.cg_history.specs.Confirming.{IsOf, Stands, AreConfirmed}
use Rattle.cg_history.proofs.Confirmed.{at_take, within_follows}
use Rattle.cg_history.proofs.Covering.{each_record_has_its_receipt}
use Rattle.cg_threads.specs.Numbers.{numbers_in, numbers_on, is_record_of, is_receipt_of}
use Rattle.cg_threads.specs.Laws.{ReceiptsHaveTheNumbers}
use Rattle.cg_threads.proofs.SameNumbers.{In, same_members, places_rise, place_passes, passes_in_place, passing_rise, passing_with, with_passing}

module _ (caller : ℕ) (kind : Event → Bool) where
  -- a record passes if its receipt does
  same_test : (i : Item) (q : Receipt) → IsOf i q → is_record_of caller kind i ≡ is_receipt_of caller kind q
  same_test i q is = ap (λ (c : ℕ). (c == caller) && kind i.event) is.0 ∙ ap (λ (e : Event). (q.caller == caller) && kind e) is.1

  own : (q : Receipt) → is_receipt_of caller kind q ≡ true → q.caller ≡ caller
  own q one = eqb-true q.caller caller (first_of (q.caller == caller) (kind q.event) one)

  module _ (records : List Item) (receipts : List Receipt) (all : AreConfirmed 0 records receipts) where
    receipts_rise : (i j : ℕ) (q r : Receipt) → slice_get receipts i ≡ Some q → slice_get receipts j ≡ Some r → i < j → is_receipt_of caller kind q ≡ true → is_receipt_of caller kind r ≡ true → q.number < r.number
    receipts_rise i j q r at_i at_j less one two =
        within_follows (take j receipts) i q r (all j r at_j).follows (at_take receipts i j q less at_i) (own q one ∙ sym (own r two))

    -- the record of a receipt
    stands_at : (q : Receipt) → Stands 0 records q → (k : ℕ) × (i : Item) × (slice_get records k ≡ Some i) × IsOf i q × (q.number ≡ 1 + k)
    stands_at q stands = by (q.number - 0) refl stands.1
      where
        by : (n : ℕ) → q.number - 0 ≡ n → at_place records n ≡ Some stands.0 → (k : ℕ) × (i : Item) × (slice_get records k ≡ Some i) × IsOf i q × (q.number ≡ 1 + k)
        by zero is at = absurd cc
        by (suc k) is at = (k, stands.0, at, stands.2, (omega (arith, is)))

    numbered : (k : ℕ) (q : Receipt) → slice_get receipts k ≡ Some q → 0 < q.number
    numbered k q at = let s = stands_at q (all k q at).stands in let is = s.4 in omega (arith, is)

    of_record : (n : ℕ) → In n (numbers_on caller kind receipts) → In n (numbers_in caller kind records)
    of_record n is =
        let q = passing_with (is_receipt_of caller kind) (λ (r : Receipt). r.number) n receipts is in
        let s = stands_at q.1 (all q.0 q.1 q.2).stands in
        passes_in_place (is_record_of caller kind) 1 n records s.0 s.1 s.2 (same_test s.1 q.1 s.3 ∙ q.3) (q.4 ∙ s.4)

    module _ (many : length receipts ≡ length records) (within : (k : ℕ) (i : Item) → slice_get records k ≡ Some i → k < length records) where
      of_receipt : (n : ℕ) → In n (numbers_in caller kind records) → In n (numbers_on caller kind receipts)
      of_receipt n is =
          let i = place_passes (is_record_of caller kind) 1 n records is in
          let r = each_record_has_its_receipt 0 records receipts i.0 all many (within i.0 i.1 i.2) in
          let stands = (all r.0 r.1 r.2).stands in
          let place : r.1.number - 0 ≡ suc i.0 = (let e = r.3 in omega (arith, e)) in
          let there : at_place records (r.1.number - 0) ≡ Some i.1 = ap (at_place records) place ∙ i.2 in
          let one : stands.0 ≡ i.1 = same_Some stands.0 i.1 (sym stands.1 ∙ there) in
          let passes = sym (same_test stands.0 r.1 stands.2) ∙ ap (is_record_of caller kind) one ∙ i.3 in
          with_passing (is_receipt_of caller kind) (λ (r : Receipt). r.number) n receipts r.0 r.1 r.2 passes (let a = i.4 in let b = r.3 in omega (arith, a, b))

      same_numbers : numbers_on caller kind receipts ≡ numbers_in caller kind records
      same_numbers =
          same_members 0 0 (numbers_on caller kind receipts) (numbers_in caller kind records)
          (passing_rise (is_receipt_of caller kind) (λ (r : Receipt). r.number) 0 receipts receipts_rise (λ k q at one. numbered k q at))
          (places_rise (is_record_of caller kind) 0 1 records (omega arith)) of_record of_receipt

pub receipts_have_the_numbers : ReceiptsHaveTheNumbers
receipts_have_the_numbers records receipts caller kind all many = same_numbers caller kind records receipts all many (λ k i at. slice_get_within records k i at)
