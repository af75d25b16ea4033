-- The receipts of all workers.
use Rattle.std.proofs.Common.{◌≡◌, ℕ, suc, ◌+◌, ◌-◌, ◌<◌, inl, inr, Bool, true, false, cond, List, [], ◌∷◌, ◌++◌, length, map, Some, refl, sym, ap, ◌∙◌, subst, arith, length-append, get_or}
use Rattle.std.specs.Prelude.{slice_get, ◌==◌, ◌&&◌}
use Rattle.std.specs.List.{All, filter}
use Rattle.std.proofs.lemmas.Option.{same_Some, slice_get_within, get_or_from_slice_get, slice_get-get_or}
use Rattle.std.proofs.lemmas.List.{append-nil, map-append}
use Rattle.std.proofs.lemmas.List.Elements.{All-append, All-weaker, All-head, All-tail, filter-append}
use Rattle.cg_core.specs.declared.event.Event.{Event}
use Rattle.cg_history.specs.declared.item.Item.{Item}
use Rattle.cg_history.specs.declared.item.Receipt.{Receipt}
use Rattle.cg_history.specs.declared.item.UnconfirmedReceipt.{UnconfirmedReceipt}
use Rattle.cg_threads.specs.declared.callers.TheConstants.{RECEIVER, SENDER, TICKER, OPERATOR}
use Rattle.cg_types.specs.ListPlace.{at_place}
use Rattle.cg_history.specs.Confirming.{AreConfirmed, IsFirstUnconfirmed}
use Rattle.cg_threads.specs.Numbers.{numbers_in, numbers_on, is_receipt_of}
use Rattle.cg_threads.specs.Left.{IsOfKind, AreOfKind, AreOfWorkers, numbers_of_all, is_received, is_ack, is_tick, is_any}
use Rattle.cg_threads.specs.Ran.{IsUnconfirmedBehind, IsWork}
use Rattle.cg_history.proofs.Covering.{each_record_has_its_receipt}
use Rattle.cg_threads.proofs.ByCaller.{receipts_have_the_numbers}
use Rattle.cg_threads.proofs.Joined.{Below, Own, confirmed_joined, unconfirmed_behind, unconfirmed_before}

own_of : (kind : Event → Bool) (c : ℕ) (qs : List Receipt) → AreOfKind kind c qs → Own c qs
own_of kind c qs are = All-weaker (IsOfKind kind c) (λ (q : Receipt). q.caller ≡ c) (λ q is. is.own) qs are

below_of : (kind : Event → Bool) (c d : ℕ) (qs : List Receipt) → c < d → AreOfKind kind c qs → Below d qs
below_of kind c d qs less are = All-weaker (IsOfKind kind c) (λ (q : Receipt). q.caller < d) (λ q is. let e = is.own in omega (arith, e, less)) qs are

lower : (d : ℕ) (xs ys : List Receipt) → Below d xs → Below d ys → Below d (xs ++ ys)
lower d xs ys a b = All-append (λ (q : Receipt). q.caller < d) xs ys a b

module _ (receiver sender ticker operator : List Receipt) (are : AreOfWorkers receiver sender ticker operator) where
  below_sender : Below SENDER receiver
  below_sender = below_of is_received RECEIVER SENDER receiver (omega arith) are.of_receiver

  below_ticker : Below TICKER (receiver ++ sender)
  below_ticker = lower TICKER receiver sender (below_of is_received RECEIVER TICKER receiver (omega arith) are.of_receiver) (below_of is_ack SENDER TICKER sender (omega arith) are.of_sender)

  below_operator : Below OPERATOR (receiver ++ sender ++ ticker)
  below_operator =
      lower OPERATOR (receiver ++ sender) ticker (lower OPERATOR receiver sender (below_of is_received RECEIVER OPERATOR receiver (omega arith) are.of_receiver) (below_of is_ack SENDER OPERATOR sender (omega arith) are.of_sender))
      (below_of is_tick TICKER OPERATOR ticker (omega arith) are.of_ticker)

  -- ---- confirmation

  module _ (folded : ℕ) (records : List Item) (first : AreConfirmed folded records receiver) where
    pub unconfirmed_of_sender : (s : UnconfirmedReceipt) → IsUnconfirmedBehind (length receiver) folded records sender s → IsFirstUnconfirmed folded records (receiver ++ sender ++ ticker ++ operator) s
    unconfirmed_of_sender s behind =
        unconfirmed_before folded records (receiver ++ sender ++ ticker) operator s (unconfirmed_before folded records (receiver ++ sender) ticker s
        (unconfirmed_behind folded records SENDER receiver first below_sender sender (length receiver) s (own_of is_ack SENDER sender are.of_sender) refl behind))

    module _ (second : AreConfirmed folded records sender) where
      both : AreConfirmed folded records (receiver ++ sender)
      both = confirmed_joined folded records SENDER receiver first below_sender sender (own_of is_ack SENDER sender are.of_sender) second

      pub unconfirmed_of_ticker : (s : UnconfirmedReceipt) → IsUnconfirmedBehind (length receiver + length sender) folded records ticker s → IsFirstUnconfirmed folded records (receiver ++ sender ++ ticker ++ operator) s
      unconfirmed_of_ticker s behind =
          unconfirmed_before folded records (receiver ++ sender ++ ticker) operator s
          (unconfirmed_behind folded records TICKER (receiver ++ sender) both below_ticker ticker (length receiver + length sender) s (own_of is_tick TICKER ticker are.of_ticker) (sym (length-append receiver sender)) behind)

      module _ (third : AreConfirmed folded records ticker) where
        three : AreConfirmed folded records (receiver ++ sender ++ ticker)
        three = confirmed_joined folded records TICKER (receiver ++ sender) both below_ticker ticker (own_of is_tick TICKER ticker are.of_ticker) third

        length_three : length receiver + length sender + length ticker ≡ length (receiver ++ sender ++ ticker)
        length_three = sym (length-append (receiver ++ sender) ticker ∙ ap (λ n. n + length ticker) (length-append receiver sender))

        pub unconfirmed_of_operator : (s : UnconfirmedReceipt) → IsUnconfirmedBehind (length receiver + length sender + length ticker) folded records operator s → IsFirstUnconfirmed folded records (receiver ++ sender ++ ticker ++ operator) s
        unconfirmed_of_operator s behind =
            unconfirmed_behind folded records OPERATOR (receiver ++ sender ++ ticker) three below_operator operator (length receiver + length sender + length ticker) s (own_of is_any OPERATOR operator are.of_operator) length_three behind

        pub all_confirmed : AreConfirmed folded records operator → AreConfirmed folded records (receiver ++ sender ++ ticker ++ operator)
        all_confirmed fourth = confirmed_joined folded records OPERATOR (receiver ++ sender ++ ticker) three below_operator operator (own_of is_any OPERATOR operator are.of_operator) fourth

  pub unconfirmed_of_receiver : (folded : ℕ) (records : List Item) (s : UnconfirmedReceipt) → IsFirstUnconfirmed folded records receiver s → IsFirstUnconfirmed folded records (receiver ++ sender ++ ticker ++ operator) s
  unconfirmed_of_receiver folded records s first =
      unconfirmed_before folded records (receiver ++ sender ++ ticker) operator s (unconfirmed_before folded records (receiver ++ sender) ticker s (unconfirmed_before folded records receiver sender s first))

  pub length_all : length (receiver ++ sender ++ ticker ++ operator) ≡ length receiver + length sender + length ticker + length operator
  length_all =
      length-append (receiver ++ sender ++ ticker) operator
      ∙ ap (λ n. n + length operator) (length-append (receiver ++ sender) ticker ∙ ap (λ n. n + length ticker) (length-append receiver sender))

  -- ---- their events

  pub all_work : All (λ (q : Receipt). IsWork q.caller q.event) (receiver ++ sender ++ ticker ++ operator)
  all_work =
      let P = λ (q : Receipt). IsWork q.caller q.event in
      let a = All-weaker (IsOfKind is_received RECEIVER) P (λ q is. inl (is.own, is.fits)) receiver are.of_receiver in
      let b = All-weaker (IsOfKind is_ack SENDER) P (λ q is. inr (inl (is.own, is.fits))) sender are.of_sender in
      let c = All-weaker (IsOfKind is_tick TICKER) P (λ q is. inr (inr (inl (is.own, is.fits)))) ticker are.of_ticker in
      let d = All-weaker (IsOfKind is_any OPERATOR) P (λ q is. inr (inr (inr is.own))) operator are.of_operator in
      All-append P (receiver ++ sender ++ ticker) operator (All-append P (receiver ++ sender) ticker (All-append P receiver sender a b) c) d

  -- ---- the ticker's numbers

  passed_over : (kind : Event → Bool) (c : ℕ) (qs : List Receipt) → (c == TICKER) ≡ false → AreOfKind kind c qs → numbers_on TICKER is_tick qs ≡ []
  passed_over kind c [] other all = refl
  passed_over kind c (q ∷ qs) other all =
      let is = All-head (IsOfKind kind c) q qs all in
      let not : is_receipt_of TICKER is_tick q ≡ false = ap (λ (n : ℕ). (n == TICKER) && is_tick q.event) is.own ∙ ap (λ (b : Bool). b && is_tick q.event) other in
      ap (λ (b : Bool). map (λ (r : Receipt). r.number) (cond b (q ∷ filter (is_receipt_of TICKER is_tick) qs) (filter (is_receipt_of TICKER is_tick) qs))) not
      ∙ passed_over kind c qs other (All-tail (IsOfKind kind c) q qs all)

  all_taken : (qs : List Receipt) → AreOfKind is_tick TICKER qs → numbers_on TICKER is_tick qs ≡ numbers_of_all qs
  all_taken [] all = refl
  all_taken (q ∷ qs) all =
      let is = All-head (IsOfKind is_tick TICKER) q qs all in
      let one : is_receipt_of TICKER is_tick q ≡ true = ap (λ (n : ℕ). (n == TICKER) && is_tick q.event) is.own ∙ is.fits in
      ap (λ (b : Bool). map (λ (r : Receipt). r.number) (cond b (q ∷ filter (is_receipt_of TICKER is_tick) qs) (filter (is_receipt_of TICKER is_tick) qs))) one
      ∙ ap (λ ns. q.number ∷ ns) (all_taken qs (All-tail (IsOfKind is_tick TICKER) q qs all))

  numbers-append : (xs ys : List Receipt) → numbers_on TICKER is_tick (xs ++ ys) ≡ numbers_on TICKER is_tick xs ++ numbers_on TICKER is_tick ys
  numbers-append xs ys = ap (λ qs. map (λ (r : Receipt). r.number) qs) (filter-append (is_receipt_of TICKER is_tick) xs ys) ∙ map-append (λ (r : Receipt). r.number) (filter (is_receipt_of TICKER is_tick) xs) (filter (is_receipt_of TICKER is_tick) ys)

  ticker_numbers : numbers_on TICKER is_tick (receiver ++ sender ++ ticker ++ operator) ≡ numbers_of_all ticker
  ticker_numbers =
      numbers-append (receiver ++ sender ++ ticker) operator
      ∙ ap (λ ns. numbers_on TICKER is_tick (receiver ++ sender ++ ticker) ++ ns) (passed_over is_any OPERATOR operator refl are.of_operator) ∙ append-nil (numbers_on TICKER is_tick (receiver ++ sender ++ ticker))
      ∙ numbers-append (receiver ++ sender) ticker
      ∙ ap (λ ns. ns ++ numbers_on TICKER is_tick ticker) (numbers-append receiver sender ∙ ap (λ ns. ns ++ numbers_on TICKER is_tick sender) (passed_over is_received RECEIVER receiver refl are.of_receiver) ∙ passed_over is_ack SENDER sender refl are.of_sender)
      ∙ all_taken ticker are.of_ticker

  -- ---- as many receipts as records

  module _ (records : List Item) (all : AreConfirmed 0 records (receiver ++ sender ++ ticker ++ operator)) (many : length (receiver ++ sender ++ ticker ++ operator) ≡ length records) where
    pub records_are_work : All (λ (r : Item). IsWork r.caller r.event) records
    records_are_work k d less =
        let r = each_record_has_its_receipt 0 records (receiver ++ sender ++ ticker ++ operator) k all many less in
        let stands = (all r.0 r.1 r.2).stands in
        let place : r.1.number - 0 ≡ suc k = (let e = r.3 in omega (arith, e)) in
        let there : slice_get records k ≡ Some stands.0 = sym (ap (at_place records) place) ∙ stands.1 in
        let one : stands.0 ≡ get_or records k d = same_Some stands.0 (get_or records k d) (sym there ∙ slice_get-get_or records k d less) in
        let work = all_work r.0 r.1 (slice_get_within (receiver ++ sender ++ ticker ++ operator) r.0 r.1 r.2) in
        let q = get_or_from_slice_get (receiver ++ sender ++ ticker ++ operator) r.0 r.1 r.1 r.2 in
        let of_receipt : IsWork r.1.caller r.1.event = subst (λ (x : Receipt). IsWork x.caller x.event) q work in
        let of_item : IsWork stands.0.caller stands.0.event = subst (λ (e : Event). IsWork stands.0.caller e) (sym stands.2.1) (subst (λ (n : ℕ). IsWork n r.1.event) (sym stands.2.0) of_receipt) in
        subst (λ (x : Item). IsWork x.caller x.event) one of_item

    pub numbers_are_the_tickers : numbers_in TICKER is_tick records ≡ numbers_of_all ticker
    numbers_are_the_tickers = sym (receipts_have_the_numbers records (receiver ++ sender ++ ticker ++ operator) TICKER is_tick all many) ∙ ticker_numbers
