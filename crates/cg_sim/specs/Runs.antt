-- A script as the list of the actions that its lines request.
use Rattle.std.specs.Prelude.{◌≡◌, ℕ, List, [], ◌∷◌, ◌++◌, Result, Ok, Err}
use Rattle.cg_types.specs.declared.fault.Fault.{Fault}
use Rattle.cg_core.specs.SettingsValues.{SettingsValue}
use Rattle.cg_world.specs.declared.action.Action.{Action}
use Rattle.cg_world.specs.World.{WorldValue, run}
use Rattle.cg_world.specs.Headline.{Headline}
use Rattle.cg_sim.specs.declared.line.Line.{Line}
use Rattle.cg_sim.specs.declared.line.Line.TheVariants.{Seeds, Act, Show}
use Rattle.cg_sim.specs.ScriptLines.{line_in, settings_with}
use Rattle.cg_sim.specs.Script.{first_play, after_lines}

-- the nodes' settings by a first line: the seeds that it has, or none
abbrev pub settings_by : Result Line Fault → SettingsValue
settings_by (Ok (Seeds settings)) = settings
settings_by (Ok (Act action)) = settings_with []
settings_by (Ok (Show node view)) = settings_with []
settings_by (Err f) = settings_with []

abbrev pub settings_of : List (List ℕ) → SettingsValue
settings_of [] = settings_with []
settings_of (line ∷ lines) = settings_by (line_in line)

-- the action that a line requests; seeds, a view and an unreadable line request none
abbrev pub asked_by : Result Line Fault → List Action
asked_by (Ok (Seeds settings)) = []
asked_by (Ok (Act action)) = action ∷ []
asked_by (Ok (Show node view)) = []
asked_by (Err f) = []

-- the actions that lines request, in their order
abbrev pub actions_of : List (List ℕ) → List Action
actions_of [] = []
actions_of (line ∷ lines) = asked_by (line_in line) ++ actions_of lines

-- The world is the run of the actions that the lines request, and the headline holds of it.
pub record IsScriptRun (lines : List (List ℕ)) (world : WorldValue) : Type 0 where
  pub led : world ≡ run (settings_of lines) (actions_of lines)
  pub headline : Headline (settings_of lines) (actions_of lines) world

-- The same is true of the world that any lines leave, one after the other.
abbrev pub ScriptsAreRuns : Type 0
ScriptsAreRuns = (lines : List (List ℕ)) → IsScriptRun lines (after_lines first_play lines).world
