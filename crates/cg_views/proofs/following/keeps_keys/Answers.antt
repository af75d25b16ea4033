use Rattle.std.proofs.Common.{◌∙◌, ℕ, Bool, List, sym, ap, arith, take, get_or, length}
use Rattle.std.specs.Prelude.{slice_get, option_copied}
use Rattle.std.specs.List.{list_all}
use Rattle.std.specs.FinMap as map
use Rattle.std.proofs.lemmas.List.{take_all}
use Rattle.std.proofs.lemmas.List.Folds.{list_all_more, list_all_at}
use Rattle.std.proofs.lemmas.Option.{slice_get_within, get_or_from_slice_get}
use Rattle.cg_types.proofs.RisingLemmas.{both}
use Rattle.cg_entry.specs.Versioned.{Versioned}
use Rattle.cg_table.specs.Puts.{is_held_from}
use Rattle.cg_views.proofs.following.keeps_keys.Goals as goal

pub loop-place-preserved : goal.loop-place-preserved
loop-place-preserved c =
    let kept : ℕ × Versioned → Bool = λ e. is_held_from e.1.version (map.get c.args.after.now.states e.0) in
    let es : List (ℕ × Versioned) = map.entries c.args.before.now.states in
    let s : ℕ × Versioned = (c.at-key.result.0, record { text = option_copied c.at-key.result.1; version = c.at-key.result.2 }) in
    let here = ap (λ (xs : List (ℕ × Versioned)). slice_get xs c.loop-place.place) (sym c.by_key-states.ensures) ∙ c.at-key.ensures in
    list_all_more kept es c.loop-place.place s (slice_get_within es c.loop-place.place s here)
    ∙ both (list_all kept (take c.loop-place.place es)) (kept (get_or es c.loop-place.place s)) c.loop-place.invariant
    (ap kept (get_or_from_slice_get es c.loop-place.place s s here) ∙ sym c.keeps_key.ensures ∙ c.if-not-keeps_key.false)

pub returns-then-not-keeps_key : goal.returns-then-not-keeps_key
returns-then-not-keeps_key c =
    let kept : ℕ × Versioned → Bool = λ e. is_held_from e.1.version (map.get c.args.after.now.states e.0) in
    let es : List (ℕ × Versioned) = map.entries c.args.before.now.states in
    let s : ℕ × Versioned = (c.at-key.result.0, record { text = option_copied c.at-key.result.1; version = c.at-key.result.2 }) in
    let here = ap (λ (xs : List (ℕ × Versioned)). slice_get xs c.loop-place.place) (sym c.by_key-states.ensures) ∙ c.at-key.ensures in
    sym (list_all_at kept es c.loop-place.place s (slice_get_within es c.loop-place.place s here)
    (ap kept (get_or_from_slice_get es c.loop-place.place s s here) ∙ sym c.if-not-keeps_key.ensures))

pub returns : goal.returns
returns c =
    let kept : ℕ × Versioned → Bool = λ e. is_held_from e.1.version (map.get c.args.after.now.states e.0) in
    let es : List (ℕ × Versioned) = map.entries c.args.before.now.states in
    sym (ap (list_all kept) (sym (take_all c.loop-place.place es (omega (arith, c.loop-place-test.false, c.len-place-end.ensures, ap length c.by_key-states.ensures)))) ∙ c.loop-place.invariant)
