-- A text with the version that set it, or the tombstone of one that was removed, and finite maps from keys to these.
use Rattle.std.specs.Prelude.{ℕ, List, Option, refl}
use Rattle.std.specs.Coded.{Coded, code_by, coded×, coded_ℕ, coded_list, coded_option}
use Rattle.std.specs.Ordering.{nat_cmp}
use Rattle.std.specs.FinMap as map

pub record Versioned : Type 0 where
  -- None is the tombstone of a text that was removed
  pub text : Option (List ℕ)
  pub version : ℕ

-- the text, or its tombstone, and the version held at each key
abbrev pub States : Type 0
States = map.FinMap nat_cmp Versioned

-- the code that a model of such values requires
abbrev pub versioned_code : Coded Versioned
versioned_code =
    code_by (Option (List ℕ) × ℕ) (coded× (coded_option (coded_list coded_ℕ)) coded_ℕ) (λ v. (v.text, v.version))
    (λ p. record { text = p.0; version = p.1 }) (λ _. refl)

abbrev pub states_code : Coded States
states_code = map.code coded_ℕ versioned_code
