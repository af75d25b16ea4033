-- All lives of an endpoint: their invariant, and their code.
use Rattle.std.specs.Prelude.{ℕ, Bool, ◌==◌, List, refl}
use Rattle.std.specs.List.{list_all}
use Rattle.std.specs.Coded.{Coded, code_by, coded×, coded_ℕ, coded_list}
use Rattle.cg_history.specs.History.{HistoryValue, history_code}
use Rattle.cg_audit.specs.Items.{LivesValue}

-- `true` if each history began with a node of the endpoint
abbrev pub are_of : ℕ → List HistoryValue → Bool
are_of endpoint histories = list_all (λ (h : HistoryValue). h.base.table.own == endpoint) histories

-- the code that a model of such a value requires
abbrev pub lives_code : Coded LivesValue
lives_code =
    code_by (ℕ × List HistoryValue) (coded× coded_ℕ (coded_list history_code)) (λ l. (l.endpoint, l.histories))
    (λ p. record { endpoint = p.0; histories = p.1 }) (λ _. refl)
