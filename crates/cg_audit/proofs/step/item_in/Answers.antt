use Rattle.std.proofs.Common.{◌≡◌, ◌-◌, Option, Some, None, sym, ap, ◌∙◌, slice_get}
use Rattle.std.specs.Option.{option_map}
use Rattle.cg_audit.specs.Items.{item_of, generation_of}
use Rattle.cg_audit.specs.Steps.{run_item}
use Rattle.cg_audit.proofs.CursorLemmas.{item_in_life}
use Rattle.cg_audit.proofs.step.item_in.Goals as goal

pub returns-in-None : goal.returns-in-None
returns-in-None c =
    sym (item_in_life c.args.endpoint c.args.history.now c.args.number c.if-number-eq0.false
    ∙ ap (λ rs. option_map (item_of c.args.endpoint (generation_of c.args.history.now) c.args.number) (slice_get rs (c.args.number - 1))) (sym c.records.ensures.value)
    ∙ ap (option_map (item_of c.args.endpoint (generation_of c.args.history.now) c.args.number)) (sym c.in-None.ensures))

pub returns-in-Some : goal.returns-in-Some
returns-in-Some c =
    ap Some (c.step_of.ensures ∙ ap (λ g. item_of c.args.endpoint g c.args.number c.in-Some.kept.now) c.generation-generation.ensures)
    ∙ sym (item_in_life c.args.endpoint c.args.history.now c.args.number c.if-number-eq0.false
    ∙ ap (λ rs. option_map (item_of c.args.endpoint (generation_of c.args.history.now) c.args.number) (slice_get rs (c.args.number - 1))) (sym c.records.ensures.value)
    ∙ ap (option_map (item_of c.args.endpoint (generation_of c.args.history.now) c.args.number)) (sym c.in-Some.ensures))
