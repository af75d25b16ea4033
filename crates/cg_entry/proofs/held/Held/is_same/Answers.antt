use Rattle.std.proofs.Common.{◌≡◌, ◌∙◌, ℕ, List, length, sym, ap, refl, arith}
use Rattle.std.specs.Prelude.{slice_get}
use Rattle.std.specs.FinMap as map
use Rattle.cg_entry.specs.State.{pair}
use Rattle.cg_entry.specs.Versioned.{Versioned}
use Rattle.cg_entry.proofs.HeldLemmas.{take_same, same_whole}
use Rattle.cg_entry.proofs.held.Held.is_same.Goals as goal

pub at-requires-in-loop-place : goal.at-requires-in-loop-place
at-requires-in-loop-place c =
    omega (arith, c.loop-place-test.true, c.len-place-end.ensures, c.if-len.false, c.len.ensures, c.len-2.ensures, ap length c.by_key-ours.ensures, ap length c.by_key-theirs.ensures, map.len-entries c.args.self.now, map.len-entries c.args.other.now)

pub loop-place-preserved : goal.loop-place-preserved
loop-place-preserved c =
    let place = c.loop-place.place in
    let mine = ap (λ (xs : List (ℕ × Versioned)). slice_get xs place) (sym c.by_key-ours.ensures) ∙ c.at.ensures in
    let yours = ap (λ (xs : List (ℕ × Versioned)). slice_get xs place) (sym c.by_key-theirs.ensures) ∙ c.at-in-loop-place.ensures in
    take_same (map.entries c.args.self.now) (map.entries c.args.other.now) place (pair c.at.result.now) (pair c.at-in-loop-place.result.now) c.loop-place.invariant mine yours (ap pair (c.is_same_state.ensures.0 c.if-not-is_same_state.false))

pub returns : goal.returns
returns c =
    let count : c.len-place-end.result ≡ map.len c.args.self.now = c.len-place-end.ensures ∙ ap length c.by_key-ours.ensures ∙ sym (map.len-entries c.args.self.now) in
    let other : map.len c.args.self.now ≡ map.len c.args.other.now = sym c.len.ensures ∙ c.if-len.false ∙ c.len-2.ensures in
    (λ _. same_whole c.args.self.now c.args.other.now c.loop-place.place c.loop-place.invariant (omega (arith, c.loop-place-test.false)) (omega (arith, c.loop-place-test.false)), λ _. refl)
