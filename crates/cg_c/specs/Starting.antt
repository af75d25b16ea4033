-- The node that texts and numbers start.
use Rattle.std.specs.Prelude.{ℕ, List, [], ◌∷◌, Option, Some, Result}
use Rattle.cg_types.specs.declared.fault.Fault.{Fault}
use Rattle.cg_types.specs.declared.limits.TheConstants.{PARTITIONER}
use Rattle.cg_types.specs.EndpointText.{endpoint_in}
use Rattle.cg_types.specs.OptionSteps.{◌>>=◌}
use Rattle.cg_types.specs.ResultSteps.{then}
use Rattle.cg_types.specs.Text.{cluster_of}
use Rattle.cg_silence.specs.Values.{SilenceValue, silence_of}
use Rattle.cg_silence.specs.Settings.{settings_or_fault as silence_or_fault}
use Rattle.cg_silence.specs.declared.limits.TheConstants.{DEFAULT_WINDOW, DEFAULT_INITIAL_GAP, DEFAULT_MAX_GAP, DEFAULT_THRESHOLD}
use Rattle.cg_core.specs.declared.limits.TheConstants.{SEED_LIMIT}
use Rattle.cg_core.specs.Settings.{settings_or_fault}
use Rattle.cg_core.specs.SettingsValues.{SettingsValue, settings_of_parts}
use Rattle.cg_core.specs.Values.{NodeValue}
use Rattle.cg_core.specs.Step.{starting_node}
use Rattle.cg_text.specs.Gives.{readable}
use Rattle.cg_text.specs.Words.{endpoints_in}
use Rattle.cg_c.specs.declared.starting.Judgement.{Judgement}
use Rattle.cg_c.specs.Ranges.{generation_of}
use Rattle.cg_c.specs.Told.{read_or_bad}

-- the numbers of a settings file that says nothing
abbrev pub defaults : Judgement
defaults = record {
  window = DEFAULT_WINDOW;
  initial_gap = DEFAULT_INITIAL_GAP;
  max_gap = DEFAULT_MAX_GAP;
  threshold = DEFAULT_THRESHOLD;
}

-- the settings of silence, if each number is in its range
abbrev pub silence_by : Judgement → Option SilenceValue
silence_by j = readable (silence_or_fault (silence_of j.window j.initial_gap j.max_gap j.threshold))

-- the seeds of a text: none, or endpoints with a comma between them
abbrev pub seeds_in_text : List ℕ → Option (List ℕ)
seeds_in_text [] = Some []
seeds_in_text (c ∷ cs) = endpoints_in 44 SEED_LIMIT (c ∷ cs)

abbrev pub settings_in_texts : List ℕ → List ℕ → Judgement → Option SettingsValue
settings_in_texts cluster seeds judgement = do
  name ← readable (cluster_of cluster PARTITIONER)
  listed ← seeds_in_text seeds
  silence ← silence_by judgement
  readable (settings_or_fault (settings_of_parts name listed silence))

abbrev pub node_in_texts : List ℕ → ℕ → SettingsValue → Option NodeValue
node_in_texts endpoint number settings = do
  own ← endpoint_in endpoint
  generation ← generation_of number
  Some (starting_node own generation settings)

abbrev pub started : List ℕ → ℕ → List ℕ → List ℕ → Judgement → Option NodeValue
started endpoint generation cluster seeds judgement = do
  settings ← settings_in_texts cluster seeds judgement
  node_in_texts endpoint generation settings

-- the node that is held after a start
abbrev pub held_start : List ℕ → ℕ → List ℕ → List ℕ → Judgement → Result (Option NodeValue) Fault
held_start endpoint generation cluster seeds judgement =
    then (read_or_bad (started endpoint generation cluster seeds judgement)) (λ n. Some n)
