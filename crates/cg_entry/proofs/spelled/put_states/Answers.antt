use Rattle.std.proofs.Common.{◌++◌, ◌∙◌, ℕ, List, Option, ap, sym, arith, take}
use Rattle.std.specs.List.{flat_map}
use Rattle.std.proofs.lemmas.List.{take_all, flat_map_more}
use Rattle.cg_entry.specs.State.{pair}
use Rattle.cg_entry.specs.Versioned.{Versioned}
use Rattle.cg_entry.specs.Section.{state}
use Rattle.cg_entry.proofs.HeldLemmas.{take_next}
use Rattle.cg_entry.proofs.spelled.put_states.Goals as goal

pub loop-place-preserved : goal.loop-place-preserved
loop-place-preserved c =
    let es : List (ℕ × Versioned) = c.args.states.now in
    let s : ℕ × Versioned = pair c.at-state.result.now in
    let here = c.at-state.ensures in
    let put = ap (λ (t : Option (List ℕ)). c.loop-place.out.items ++ state (s.0, record { text = t; version = s.1.version })) c.as_ref.ensures.value in
    c.in_ok-put_state.ensures ∙ put ∙ ap (λ (ys : List ℕ). ys ++ state s) c.loop-place.invariant ∙ flat_map_more state c.args.out.now.items (take c.loop-place.place es) s
    ∙ ap (λ (xs : List (ℕ × Versioned)). c.args.out.now.items ++ flat_map state xs) (sym (take_next es c.loop-place.place s here))

pub returns : goal.returns
returns c =
    let es : List (ℕ × Versioned) = c.args.states.now in
    c.loop-place.invariant ∙ ap (λ (xs : List (ℕ × Versioned)). c.args.out.now.items ++ flat_map state xs) (take_all c.loop-place.place es (omega (arith, c.loop-place-test.false, c.len-place-end.ensures)))
