-- The seats of a board, and the history that is left in the end.
use Rattle.std.specs.Prelude.{ℕ, zero, suc, List, [], ◌++◌, ◌∷◌, Result, Ok, Err, refl}
use Rattle.std.specs.Coded.{Coded, code_by, coded×, coded_ℕ}
use Rattle.logbook.specs.Pages.{Book, book_coded}
use Rattle.cg_history.specs.declared.item.UnconfirmedReceipt.{UnconfirmedReceipt}
use Rattle.cg_history.specs.History.{HistoryValue}
use Rattle.cg_locked.specs.declared.shared.Unconfirmed.{Unconfirmed}

-- a ledger's name and parts, and which log it is
pub record FreshValue : Type 0 where
  pub name : ℕ
  pub parts : ℕ
  pub log : Book

-- the code that a model of such a value requires
abbrev pub fresh_code : Coded FreshValue
fresh_code =
    code_by (ℕ × (ℕ × Book)) (coded× coded_ℕ (coded× coded_ℕ book_coded)) (λ f. (f.name, (f.parts, f.log)))
    (λ p. record { name = p.0; parts = p.1.0; log = p.1.1 }) (λ _. refl)

-- the callers of this number of seats: 1, 2 and so on
abbrev pub callers_up_to : ℕ → List ℕ
callers_up_to zero = []
callers_up_to (suc n) = callers_up_to n ++ suc n ∷ []

-- the history that is left, confirmed or not
abbrev pub history_of : Result HistoryValue Unconfirmed → HistoryValue
history_of (Ok h) = h
history_of (Err u) = u.history

-- the first unconfirmed receipt
abbrev pub unconfirmed_receipt : Unconfirmed → UnconfirmedReceipt
unconfirmed_receipt u = record { place = u.place; fault = u.fault }
