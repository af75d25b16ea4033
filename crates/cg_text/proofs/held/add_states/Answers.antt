use Rattle.std.proofs.Common.{◌++◌, ◌∙◌, ℕ, List, ap, sym, take, string_bytes}
use Rattle.std.specs.Prelude.{slice_get, option_copied}
use Rattle.std.specs.List.{flat_map}
use Rattle.std.specs.FinMap as map
use Rattle.std.proofs.lemmas.List.{flat_map_more}
use Rattle.cg_entry.specs.Versioned.{Versioned}
use Rattle.cg_text.specs.Printed.{state_line}
use Rattle.cg_entry.proofs.HeldLemmas.{take_next}
use Rattle.cg_text.proofs.held.add_states.Goals as goal

pub loop-place-preserved : goal.loop-place-preserved
loop-place-preserved c =
    let es : List (ℕ × Versioned) = map.entries c.args.entry.now.states in
    let s : ℕ × Versioned = (c.at-key.result.0, record { text = option_copied c.at-key.result.1; version = c.at-key.result.2 }) in
    let here = ap (λ (xs : List (ℕ × Versioned)). slice_get xs c.loop-place.place) (sym c.by_key-states.ensures) ∙ c.at-key.ensures in
    c.in_ok-add_state.ensures ∙ ap (λ (ys : List ℕ). ys ++ state_line s) c.loop-place.invariant ∙ flat_map_more state_line (string_bytes c.args.text.now) (take c.loop-place.place es) s
    ∙ ap (λ (xs : List (ℕ × Versioned)). string_bytes c.args.text.now ++ flat_map state_line xs) (sym (take_next es c.loop-place.place s here))
