-- Values of a node's settings, as contracts see them.
use Rattle.std.specs.Prelude.{ℕ, ◌≡◌, ◌≤◌, List, length, refl}
use Rattle.std.specs.Coded.{Coded, code_by, coded×, coded_ℕ, coded_list}
use Rattle.cg_types.specs.declared.limits.TheConstants.{PARTITIONER}
use Rattle.cg_types.specs.Rising.{Rises}
use Rattle.cg_types.specs.Text.{ClusterValue, cluster_code}
use Rattle.cg_silence.specs.Values.{SilenceValue, silence_code}
use Rattle.cg_core.specs.declared.limits.TheConstants.{SEED_LIMIT}

-- the cluster, the endpoints that a round falls back on, and the settings of silence
pub record SettingsValue : Type 0 where
  pub cluster : ClusterValue
  pub seeds : List ℕ
  pub silence : SilenceValue

abbrev pub settings_of_parts : ClusterValue → List ℕ → SilenceValue → SettingsValue
settings_of_parts cluster seeds silence = record { cluster = cluster; seeds = seeds; silence = silence }

-- The partitioner is the one in use, and the seeds rise strictly and are few.
pub record IsSettings (s : SettingsValue) : Type 0 where
  pub in_use : s.cluster.partitioner ≡ PARTITIONER
  pub rise : Rises s.seeds
  pub few : length s.seeds ≤ SEED_LIMIT

-- the code that models of such values require
abbrev pub settings_code : Coded SettingsValue
settings_code =
    code_by (ClusterValue × (List ℕ × SilenceValue))
    (coded× cluster_code (coded× (coded_list coded_ℕ) silence_code))
    (λ s. (s.cluster, (s.seeds, s.silence)))
    (λ p. record { cluster = p.0; seeds = p.1.0; silence = p.1.1 }) (λ _. refl)
