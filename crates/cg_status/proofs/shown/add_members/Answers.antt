use Rattle.std.proofs.Common.{◌++◌, ◌∙◌, ℕ, List, ap, sym, take}
use Rattle.std.specs.Prelude.{slice_get, option_copied}
use Rattle.std.specs.List.{flat_map}
use Rattle.std.specs.FinMap as map
use Rattle.std.proofs.lemmas.List.{flat_map_more}
use Rattle.json.specs.Token.{Token}
use Rattle.cg_entry.specs.Versioned.{Versioned}
use Rattle.cg_entry.proofs.HeldLemmas.{take_next}
use Rattle.cg_status.specs.Flat.{pair_tokens}
use Rattle.cg_status.proofs.shown.add_members.Goals as goal

pub loop-place-preserved : goal.loop-place-preserved
loop-place-preserved c =
    let es : List (ℕ × Versioned) = map.entries c.args.entry.now.states in
    let s : ℕ × Versioned = (c.at-key.result.0, record { text = option_copied c.at-key.result.1; version = c.at-key.result.2 }) in
    let here = ap (λ (xs : List (ℕ × Versioned)). slice_get xs c.loop-place.place) (sym c.by_key-states.ensures) ∙ c.at-key.ensures in (
      c.in_ok-add_state.ensures.tokens ∙ ap (λ (ts : List Token). ts ++ pair_tokens s) c.loop-place.invariant.0 ∙ flat_map_more pair_tokens c.args.writer.now.tokens (take c.loop-place.place es) s
          ∙ ap (λ (xs : List (ℕ × Versioned)). c.args.writer.now.tokens ++ flat_map pair_tokens xs) (sym (take_next es c.loop-place.place s here)),
      c.in_ok-add_state.ensures.before ∙ c.loop-place.invariant.1,
    )
