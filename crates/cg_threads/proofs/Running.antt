-- A node whose workers have ended is one that ran, or is not confirmed.
use Rattle.std.proofs.Common.{◌≡◌, ℕ, Bool, true, List, ◌++◌, Result, Ok, Err, length, refl, sym, ap, ◌∙◌, subst, append_assoc, arith}
use Rattle.std.specs.Prelude.{IfOk, IfErr}
use Rattle.std.proofs.lemmas.List.{map-append}
use mathlib.Core.List.{IsPrefix}
use Rattle.cg_core.specs.Values.{NodeValue}
use Rattle.cg_history.specs.Confirming.{AreConfirmed, IsFirstUnconfirmed}
use Rattle.cg_history.specs.History.{HistoryValue, IsReplayed, count_of}
use Rattle.cg_history.proofs.Replaying.{base_is_start}
use Rattle.cg_locked.specs.declared.shared.Unconfirmed.{Unconfirmed}
use Rattle.cg_locked.specs.Shared.{unconfirmed_receipt}
use Rattle.cg_workers.specs.declared.round.Round.{Round}
use Rattle.cg_workers.specs.declared.ends.Putting.{Putting}
use Rattle.cg_workers.specs.declared.ends.Taken.{Taken}
use Rattle.cg_workers.specs.Ends.{put_by, taken_in}
use Rattle.cg_workers.specs.Workers.{numbers_of}
use Rattle.cg_threads.specs.declared.callers.TheConstants.{TICKER}
use Rattle.cg_workers.specs.TickLaws.{rounds_in}
use Rattle.cg_threads.specs.Left.{Work, receipts_of, AreOfWorkers, AreTaken, is_tick}
use Rattle.cg_threads.specs.declared.ran.Ran.{Ran}
use Rattle.cg_threads.specs.declared.ran.NotRun.{NotRun}
use Rattle.cg_threads.specs.declared.ran.NotRun.TheVariants as not_run
use Rattle.cg_threads.specs.Numbers.{numbers_in}
use Rattle.cg_threads.specs.Ran.{IsOfWork, IsRun, IsUnconfirmed, IsNotRun, UnconfirmedIn, TellsStart}
use Rattle.cg_threads.proofs.Workers.{records_are_work, numbers_are_the_tickers}

numbers_prefix : (xs ys : List Round) → IsPrefix xs ys → IsPrefix (numbers_of xs) (numbers_of ys)
numbers_prefix xs ys front = (numbers_of front.0, sym (map-append (λ (r : Round). r.number) xs front.0) ∙ ap numbers_of front.1)

prefix_trans : {A : Type 0} (xs ys zs : List A) → IsPrefix xs ys → IsPrefix ys zs → IsPrefix xs zs
prefix_trans {A} xs ys zs a b = (a.0 ++ b.0, sym (append_assoc xs a.0 b.0) ∙ ap (λ (ns : List A). ns ++ b.0) a.1 ∙ b.1)

module _ (start : NodeValue) (w : Work) (are : AreOfWorkers w.receiver w.sender w.ticker w.operator) where
  -- as many records as receipts, if none is folded
  as_many : (h : HistoryValue) → h.folded ≡ 0 → count_of h ≡ length (receipts_of w) → length h.records ≡ length (receipts_of w)
  as_many h whole count = omega (arith, whole, count)

  of_this_work : (h : HistoryValue) → h.folded ≡ 0 → h.start ≡ start → IsReplayed h → count_of h ≡ length (receipts_of w) → IsOfWork start (λ v. v ≡ w) h w
  of_this_work h whole started replayed count =
      record { whole = whole; base = base_is_start h replayed whole ∙ started; done = refl; theirs = are; counted = sym (as_many h whole count) }

  pub is_run : (h : HistoryValue) (rounds : List ℕ) (putting : Putting) (taken : Taken) → taken_in taken ≡ w.taken → AreTaken putting taken rounds w.ticker
      → IsPrefix (taken_in taken) (put_by putting) → h.folded ≡ 0 → h.start ≡ start → IsReplayed h → count_of h ≡ length (receipts_of w) → AreConfirmed h.folded h.records (receipts_of w)
      → IsRun start (λ v. v ≡ w) h rounds
  is_run h rounds putting taken this of_rounds compared whole started replayed count confirmed =
      let many = as_many h whole count in
      let all : AreConfirmed 0 h.records (receipts_of w) = subst (λ (n : ℕ). AreConfirmed n h.records (receipts_of w)) whole confirmed in
      let first : IsPrefix (taken_in taken) (rounds_in w.ticker) = prefix_trans (taken_in taken) (put_by putting) (rounds_in w.ticker) compared of_rounds.rounds.are_first in
      let front : IsPrefix (numbers_of (taken_in taken)) (numbers_of (rounds_in w.ticker)) = numbers_prefix (taken_in taken) (rounds_in w.ticker) first in
      let own : numbers_of (rounds_in w.ticker) ≡ numbers_in TICKER is_tick h.records =
      of_rounds.rounds.each ∙ sym (numbers_are_the_tickers w.receiver w.sender w.ticker w.operator are h.records all (sym many)) in
      let mine : IsPrefix rounds (numbers_of (rounds_in w.ticker)) = subst (λ (ns : List ℕ). IsPrefix ns (numbers_of (rounds_in w.ticker))) (sym of_rounds.are_of) front in
      record {
        work = w;
        of_work = of_this_work h whole started replayed count;
        confirmed = confirmed;
        rounds = record {
          are_of = of_rounds.are_of ∙ ap numbers_of this;
          are_first = subst (λ (rs : List Round). IsPrefix rs (rounds_in w.ticker)) this first;
          recorded = subst (λ (ns : List ℕ). IsPrefix rounds ns) own mine;
        };
        replayed = replayed;
        kinds = records_are_work w.receiver w.sender w.ticker w.operator are h.records all (sym many);
      }

  pub is_unconfirmed : (u : Unconfirmed) → u.history.folded ≡ 0 → u.history.start ≡ start → IsReplayed u.history → count_of u.history ≡ length (receipts_of w)
      → IsFirstUnconfirmed u.history.folded u.history.records (receipts_of w) (unconfirmed_receipt u) → IsUnconfirmed start (λ v. v ≡ w) u
  is_unconfirmed u whole started replayed count first = record { work = w; of_work = of_this_work u.history whole started replayed count; unconfirmed = first }

  -- the same, by what is to be told of it
  pub unconfirmed_in : (u : Unconfirmed) → u.history.folded ≡ 0 → count_of u.history ≡ length (receipts_of w) → IsFirstUnconfirmed u.history.folded u.history.records (receipts_of w) (unconfirmed_receipt u) → UnconfirmedIn (receipts_of w) (not_run.Unconfirmed u)
  unconfirmed_in u whole count first = (first, sym (as_many u.history whole count))

-- ---- the same of a weaker claim about the work

module _ (start : NodeValue) (P Q : Work → Type 0) (weaker : (w : Work) → P w → Q w) where
  of_work_weaker : (h : HistoryValue) (w : Work) → IsOfWork start P h w → IsOfWork start Q h w
  of_work_weaker h w x = record { whole = x.whole; base = x.base; done = weaker w x.done; theirs = x.theirs; counted = x.counted }

  pub run_weaker : (h : HistoryValue) (rounds : List ℕ) → IsRun start P h rounds → IsRun start Q h rounds
  run_weaker h rounds x = record {
    work = x.work;
    of_work = of_work_weaker h x.work x.of_work;
    confirmed = x.confirmed;
    rounds = x.rounds;
    replayed = x.replayed;
    kinds = x.kinds;
  }

  pub not_run_weaker : (n : NotRun) → IsNotRun start P n → IsNotRun start Q n
  not_run_weaker (not_run.Unstarted f) x = x
  not_run_weaker (not_run.Unconfirmed u) x = record { work = x.work; of_work = of_work_weaker u.history x.work x.of_work; unconfirmed = x.unconfirmed }

  pub ran_weaker : (ran : Result Ran NotRun) → IfOk ran (λ r. IsRun start P r.history r.rounds.items) → IfOk ran (λ r. IsRun start Q r.history r.rounds.items)
  ran_weaker (Ok r) x = run_weaker r.history r.rounds.items x
  ran_weaker (Err n) x = x

  pub did_not_weaker : (ran : Result Ran NotRun) → IfErr ran (IsNotRun start P) → IfErr ran (IsNotRun start Q)
  did_not_weaker (Ok r) x = x
  did_not_weaker (Err n) x = not_run_weaker n x

-- ---- a claim about the work that holds if all workers began

module _ (start : NodeValue) (w : Work) (began : Bool) (Q : Work → Type 0) (worked : began ≡ true → Q w) where
  this_worked : began ≡ true → (v : Work) → v ≡ w → Q v
  this_worked did v same = subst Q (sym same) (worked did)

  pub ran_of_work : (ran : Result Ran NotRun) → IfOk ran (λ r. IsRun start (λ v. v ≡ w) r.history r.rounds.items) → IfOk ran (λ r. began ≡ true)
      → IfOk ran (λ r. IsRun start Q r.history r.rounds.items)
  ran_of_work (Ok r) x did = run_weaker start (λ v. v ≡ w) Q (this_worked did) r.history r.rounds.items x
  ran_of_work (Err n) x did = x

  not_run_of_work : (n : NotRun) → IsNotRun start (λ v. v ≡ w) n → TellsStart began n → IsNotRun start Q n
  not_run_of_work (not_run.Unstarted f) x told = x
  not_run_of_work (not_run.Unconfirmed u) x did = not_run_weaker start (λ v. v ≡ w) Q (this_worked did) (not_run.Unconfirmed u) x

  pub did_not_of_work : (ran : Result Ran NotRun) → IfErr ran (IsNotRun start (λ v. v ≡ w)) → IfErr ran (TellsStart began) → IfErr ran (IsNotRun start Q)
  did_not_of_work (Ok r) x tells = x
  did_not_of_work (Err n) x tells = not_run_of_work n x tells
