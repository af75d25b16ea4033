-- The settings of a script's first line.
use Rattle.std.proofs.Common.{◌≡◌, ℕ, true, false, cond, List, Option, Some, None, refl}
use Rattle.cg_types.specs.Rising.{rise_past}
use Rattle.cg_types.specs.OptionSteps.{◌>>=◌}
use Rattle.cg_core.specs.declared.limits.TheConstants.{SEED_LIMIT}
use Rattle.cg_core.specs.SettingsValues.{IsSettings}
use Rattle.cg_text.specs.Words.{endpoints_in}
use Rattle.cg_text.proofs.SeedLemmas.{few}
use Rattle.cg_sim.specs.declared.line.Line.TheVariants.{Seeds}
use Rattle.cg_sim.specs.ScriptLines.{settings_with, seeds_in, seeds_line}

pub are_settings : (text es : List ℕ) → endpoints_in 32 SEED_LIMIT text ≡ Some es → rise_past None es ≡ true → IsSettings (settings_with es)
are_settings text es h rise = record { in_use = refl; rise = rise; few = few 32 SEED_LIMIT text es h }

pub no_seeds : (text es : List ℕ) → endpoints_in 32 SEED_LIMIT text ≡ Some es → (IsSettings (settings_with es) → ⊥) → seeds_line text ≡ None
unfolding seeds_line seeds_in
no_seeds text es h refused =
    rw h (elim (rise_past None es) as (λ b. rise_past None es ≡ b → (cond b (Some es) None >>= (λ seeds. Some (Seeds (settings_with seeds)))) ≡ None) [
      | true ↦ λ e. absurd (refused (are_settings text es h e))
      | false ↦ λ e. refl
    ] refl)

pub some_seeds : (text es : List ℕ) → endpoints_in 32 SEED_LIMIT text ≡ Some es → IsSettings (settings_with es) → seeds_line text ≡ Some (Seeds (settings_with es))
unfolding seeds_line seeds_in
some_seeds text es h is = rw h (rw is.rise refl)

pub no_endpoints : (text : List ℕ) → endpoints_in 32 SEED_LIMIT text ≡ None → seeds_line text ≡ None
unfolding seeds_line seeds_in
no_endpoints text h = rw h refl
