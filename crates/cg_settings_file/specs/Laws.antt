-- The laws of the settings, as statements.
use Rattle.std.specs.Prelude.{ℕ, ◌≡◌, List}
use Rattle.cg_types.specs.Rising.{Rises, is_among}
use Rattle.cg_settings_file.specs.declared.limits.TheConstants.{TURN_LIMIT, INTERVAL_LIMIT, DEFAULT_INTERVAL, DEFAULT_RANDOM, LOAD_LIMIT, RECEIVER_LIMIT, DEFAULT_JOURNAL_MB, DEFAULT_KEEP, DEFAULT_RECEIVERS}

pub record LimitValues : Type 0 where
  pub turns : TURN_LIMIT ≡ 1000000
  pub interval : INTERVAL_LIMIT ≡ 60000
  pub default_interval : DEFAULT_INTERVAL ≡ 1000
  pub default_random : DEFAULT_RANDOM ≡ 0
  pub load : LOAD_LIMIT ≡ 1000000
  pub receivers : RECEIVER_LIMIT ≡ 8
  pub default_journal_mb : DEFAULT_JOURNAL_MB ≡ 1024
  pub default_keep : DEFAULT_KEEP ≡ 1000
  pub default_receivers : DEFAULT_RECEIVERS ≡ 2

-- The seeds rise strictly, and are the listed ones.
pub record AreDistinct (listed seeds : List ℕ) : Type 0 where
  pub rise : Rises seeds
  pub same : (endpoint : ℕ) → is_among seeds endpoint ≡ is_among listed endpoint
