use Rattle.std.proofs.Common.{◌≡◌, ◌∙◌, true, false, Some, ap, sym, refl, inr}
use Rattle.cg_core.specs.SettingsValues.{SettingsValue}
use Rattle.cg_sim.specs.declared.line.Line.TheVariants.{Seeds}
use Rattle.cg_sim.specs.ScriptLines.{or_unreadable}
use Rattle.cg_sim.proofs.SeedsLine.{no_endpoints, no_seeds, some_seeds}
use Rattle.cg_sim.proofs.reading.seeds_line.Goals as goal

pub returns-in_default : goal.returns-in_default
returns-in_default c =
    inr (ap or_unreadable (no_endpoints c.args.words.now (sym (rw c.in_default.is at c.in_ok-seeds.ensures))))

pub returns-in-Some-2 : goal.returns-in-Some-2
returns-in-Some-2 c =
    let read = sym (rw c.in-Some.is at c.in_ok-seeds.ensures) in
    let valid = (rw c.in-Some-2.is at c.in_ok-settings.ensures.valid).0 in
    let value = rw c.in-Some-2.is at c.in_ok-settings.ensures.value in
    ap or_unreadable (some_seeds c.args.words.now c.in-Some.seeds.items read (valid refl))
    ∙ sym (ap (λ (s : SettingsValue). or_unreadable (Some (Seeds s))) value)

pub returns-in-None : goal.returns-in-None
returns-in-None c =
    let read = sym (rw c.in-Some.is at c.in_ok-seeds.ensures) in
    let valid = (rw c.in-None.is at c.in_ok-settings.ensures.valid).1 in
    inr (ap or_unreadable (no_seeds c.args.words.now c.in-Some.seeds.items read (λ h. let wrong : false ≡ true = valid h in absurd (cc wrong))))
