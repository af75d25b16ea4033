-- A history that confirms the receipts of one worker after another.
use Rattle.std.proofs.Common.{◌≡◌, ℕ, ◌+◌, ◌++◌, List, length, Result, Ok, Err, sym, ◌∙◌, subst, arith, length-append}
use Rattle.std.specs.Prelude.{MatchResult}
use Rattle.cg_history.specs.declared.item.Receipt.{Receipt}
use Rattle.cg_history.specs.Confirming.{AreConfirmed, IsFirstUnconfirmed}
use Rattle.cg_history.specs.History.{HistoryValue}
use Rattle.cg_locked.specs.declared.shared.Unconfirmed.{Unconfirmed}
use Rattle.cg_locked.specs.Shared.{history_of, unconfirmed_receipt}
use Rattle.cg_threads.specs.Left.{AreOfWorkers}
use Rattle.cg_threads.specs.Ran.{IsUnconfirmedBehind}
use Rattle.cg_threads.proofs.Workers.{unconfirmed_of_sender, unconfirmed_of_ticker, unconfirmed_of_operator, all_confirmed}

-- as many as the receipts of all workers
pub as_many : (receiver sender ticker operator : List Receipt) (n : ℕ) → n ≡ length receiver + length sender + length ticker + length operator
    → n ≡ length (receiver ++ sender ++ ticker ++ operator)
as_many receiver sender ticker operator n is =
    omega (arith, length-append receiver sender, length-append (receiver ++ sender) ticker, length-append (receiver ++ sender ++ ticker) operator)

-- the same history confirms the same
at : (h k : HistoryValue) (qs : List Receipt) → h ≡ k → AreConfirmed k.folded k.records qs → AreConfirmed h.folded h.records qs
at h k qs same is = subst (λ (x : HistoryValue). AreConfirmed x.folded x.records qs) (sym same) is

module _ (receiver sender ticker operator : List Receipt) (are : AreOfWorkers receiver sender ticker operator) (first : HistoryValue) (confirmed : AreConfirmed first.folded first.records receiver) where
  pub after_receiver : (u : Unconfirmed) → u.history ≡ first → IsUnconfirmedBehind (length receiver) u.history.folded u.history.records sender (unconfirmed_receipt u)
      → IsFirstUnconfirmed u.history.folded u.history.records (receiver ++ sender ++ ticker ++ operator) (unconfirmed_receipt u)
  after_receiver u same behind = unconfirmed_of_sender receiver sender ticker operator are u.history.folded u.history.records (at u.history first receiver same confirmed) (unconfirmed_receipt u) behind

  module _ (second : HistoryValue) (next : second ≡ first) (also : AreConfirmed second.folded second.records sender) where
    pub after_sender : (u : Unconfirmed) → u.history ≡ second → IsUnconfirmedBehind (length receiver + length sender) u.history.folded u.history.records ticker (unconfirmed_receipt u)
        → IsFirstUnconfirmed u.history.folded u.history.records (receiver ++ sender ++ ticker ++ operator) (unconfirmed_receipt u)
    after_sender u same behind =
        unconfirmed_of_ticker receiver sender ticker operator are u.history.folded u.history.records (at u.history first receiver (same ∙ next) confirmed) (at u.history second sender same also) (unconfirmed_receipt u) behind

    pub after_ticker : (third : HistoryValue) → third ≡ second → AreConfirmed third.folded third.records ticker → (result : Result HistoryValue Unconfirmed) → history_of result ≡ third
        → MatchResult result (λ h. AreConfirmed h.folded h.records operator) (λ u. IsUnconfirmedBehind (length receiver + length sender + length ticker) u.history.folded u.history.records operator (unconfirmed_receipt u))
        → MatchResult result (λ h. AreConfirmed h.folded h.records (receiver ++ sender ++ ticker ++ operator)) (λ u. IsFirstUnconfirmed u.history.folded u.history.records (receiver ++ sender ++ ticker ++ operator) (unconfirmed_receipt u))
    after_ticker third then all (Ok h) same is =
        all_confirmed receiver sender ticker operator are h.folded h.records (at h first receiver (same ∙ then ∙ next) confirmed) (at h second sender (same ∙ then) also) (at h third ticker same all) is
    after_ticker third then all (Err u) same is =
        unconfirmed_of_operator receiver sender ticker operator are u.history.folded u.history.records (at u.history first receiver (same ∙ then ∙ next) confirmed) (at u.history second sender (same ∙ then) also)
        (at u.history third ticker same all) (unconfirmed_receipt u) is
