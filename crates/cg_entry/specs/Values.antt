-- Values of entries and deltas, as contracts see them.
use Rattle.std.specs.Prelude.{ℕ, refl}
use Rattle.std.specs.Coded.{Coded, code_by, coded×, coded_ℕ}
use Rattle.cg_entry.specs.Versioned.{States, states_code}

-- all that is held of an endpoint
pub record EntryValue : Type 0 where
  pub generation : ℕ
  pub heartbeat : ℕ
  pub states : States

-- the part of it that a message carries
pub record DeltaValue : Type 0 where
  pub generation : ℕ
  pub above : ℕ
  pub heartbeat : ℕ
  pub states : States

-- the codes that models of such values require
abbrev pub entry_code : Coded EntryValue
entry_code =
    code_by (ℕ × (ℕ × States)) (coded× coded_ℕ (coded× coded_ℕ states_code))
    (λ e. (e.generation, (e.heartbeat, e.states)))
    (λ p. record { generation = p.0; heartbeat = p.1.0; states = p.1.1 }) (λ _. refl)

abbrev pub delta_code : Coded DeltaValue
delta_code =
    code_by (ℕ × (ℕ × (ℕ × States))) (coded× coded_ℕ (coded× coded_ℕ (coded× coded_ℕ states_code)))
    (λ d. (d.generation, (d.above, (d.heartbeat, d.states))))
    (λ p. record { generation = p.0; above = p.1.0; heartbeat = p.1.1.0; states = p.1.1.1 }) (λ _. refl)
