-- The world that lines leave is the run of the actions that they request.
use Rattle.std.proofs.Common.{◌≡◌, ℕ, true, List, [], ◌∷◌, ◌++◌, Result, Ok, Err, refl, sym, ◌∙◌, subst}
use Rattle.cg_types.specs.declared.fault.Fault.{Fault}
use Rattle.cg_world.specs.declared.action.Action.{Action}
use Rattle.cg_world.specs.World.{WorldValue, run_from, run}
use Rattle.cg_world.specs.Headline.{Headline}
use Rattle.cg_world.proofs.HeadlineLaws.{headline}
use Rattle.cg_sim.specs.declared.line.Line.{Line}
use Rattle.cg_sim.specs.declared.line.Line.TheVariants.{Seeds, Act, Show}
use Rattle.cg_sim.specs.ScriptLines.{line_in}
use Rattle.cg_sim.specs.declared.play.Play.{Play}
use Rattle.cg_sim.specs.Script.{first_play, world_after_line, after_line, after_lines}
use Rattle.cg_sim.specs.Runs.{settings_by, settings_of, asked_by, actions_of, IsScriptRun}

-- a line was read, and the world is this one
abbrev begun : WorldValue → Play
begun c = record { world = c; is_begun = true }

-- a line that is not the first
next_line : (c : WorldValue) (asks : Result Line Fault) (more : List Action) → run_from (world_after_line (begun c) asks) more ≡ run_from c (asked_by asks ++ more)
next_line c (Ok (Seeds settings)) more = refl
next_line c (Ok (Act action)) more = refl
next_line c (Ok (Show node view)) more = refl
next_line c (Err f) more = refl

later_lines : (c : WorldValue) (lines : List (List ℕ)) → (after_lines (begun c) lines).world ≡ run_from c (actions_of lines)
unfolding after_line
later_lines c [] = refl
later_lines c (line ∷ lines) = later_lines (world_after_line (begun c) (line_in line)) lines ∙ next_line c (line_in line) (actions_of lines)

first_line : (asks : Result Line Fault) (more : List Action) → run_from (world_after_line first_play asks) more ≡ run (settings_by asks) (asked_by asks ++ more)
first_line (Ok (Seeds settings)) more = refl
first_line (Ok (Act action)) more = refl
first_line (Ok (Show node view)) more = refl
first_line (Err f) more = refl

led : (lines : List (List ℕ)) → (after_lines first_play lines).world ≡ run (settings_of lines) (actions_of lines)
unfolding after_line
led [] = refl
led (line ∷ lines) = later_lines (world_after_line first_play (line_in line)) lines ∙ first_line (line_in line) (actions_of lines)

pub is_run : (lines : List (List ℕ)) → IsScriptRun lines (after_lines first_play lines).world
is_run lines = record {
  led = led lines;
  headline = subst (Headline (settings_of lines) (actions_of lines)) (sym (led lines)) (headline (settings_of lines) (actions_of lines));
}
