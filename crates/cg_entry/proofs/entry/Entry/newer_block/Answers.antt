use Rattle.std.proofs.Common.{◌<◌, ◌∙◌, ◌+◌, ℕ, List, length, sym, ap, subst, arith}
use Rattle.std.specs.Prelude.{slice_get, option_copied}
use Rattle.std.specs.FinMap as map
use Rattle.std.proofs.lemmas.Bool.{le-ltb}
use Rattle.cg_entry.specs.State.{pair}
use Rattle.cg_entry.specs.Versioned.{Versioned, States}
use Rattle.cg_entry.proofs.NewerLemmas.{HasNewer, entries-empty, same_version, newer_before, newer_put, newer_passed, newer_whole, newer_stands}
use Rattle.cg_entry.proofs.entry.Entry.newer_block.Goals.{then-above-get+in_ok-copy_at+in_ok-push, else-above-get}
use Rattle.cg_entry.proofs.entry.Entry.newer_block.Goals as goal

pub loop-number-init : goal.loop-number-init
loop-number-init c = entries-empty c.empty-block.result c.empty-block.ensures

pub returns-in_err-copy_at-clause-bare : goal.returns-in_err-copy_at-clause-bare
returns-in_err-copy_at-clause-bare c = λ none.
    let a : ℕ × Versioned = (c.at-key.result.0, record { text = option_copied c.at-key.result.1; version = c.at-key.result.2 }) in
    let here = ap (λ (xs : List (ℕ × Versioned)). slice_get xs c.loop-number.number) (sym c.by_key-states.ensures) ∙ c.at-key.ensures in
    absurd (newer_stands c.args.above c.args.self.now.states c.loop-number.number a here (omega (arith, c.if-above-get.true, c.get.ensures.value)) none)

pub push-requires : goal.push-requires
push-requires c =
    let here = ap (λ (xs : List (ℕ × Versioned)). slice_get xs c.loop-number.number) (sym c.by_key-states.ensures) ∙ c.in_ok-copy_at.ensures in
    newer_before c.args.above c.args.self.now.states c.loop-number.block c.loop-number.number (pair c.in_ok-copy_at.field-0) c.loop-number.invariant here

pub returns-in_err-push-clause-bare : goal.returns-in_err-push-clause-bare
returns-in_err-push-clause-bare c = λ none.
    let a : ℕ × Versioned = (c.at-key.result.0, record { text = option_copied c.at-key.result.1; version = c.at-key.result.2 }) in
    let here = ap (λ (xs : List (ℕ × Versioned)). slice_get xs c.loop-number.number) (sym c.by_key-states.ensures) ∙ c.at-key.ensures in
    absurd (newer_stands c.args.above c.args.self.now.states c.loop-number.number a here (omega (arith, c.if-above-get.true, c.get.ensures.value)) none)

pub loop-number-preserved : goal.loop-number-preserved
loop-number-preserved c =
    let states : States = c.args.self.now.states in
    let i : ℕ = c.loop-number.number in
    let a : ℕ × Versioned = (c.at-key.result.0, record { text = option_copied c.at-key.result.1; version = c.at-key.result.2 }) in
    let here = ap (λ (xs : List (ℕ × Versioned)). slice_get xs i) (sym c.by_key-states.ensures) ∙ c.at-key.ensures in
    elim c.if-above-get.branch [
      | then-above-get+in_ok-copy_at+in_ok-push w ↦
          let b : ℕ × Versioned = pair w.in_ok-copy_at.field-0 in
          let there = ap (λ (xs : List (ℕ × Versioned)). slice_get xs i) (sym c.by_key-states.ensures) ∙ w.in_ok-copy_at.ensures in
          let lt : c.args.above < b.1.version = omega (arith, w.if-above-get.true, c.get.ensures.value, same_version a b (slice_get (map.entries states) i) here there) in
          subst (λ (m : States). HasNewer m c.args.above (i + 1) (map.entries states)) (sym (w.block-is ∙ w.in_ok-push.ensures.ok))
          (newer_put c.args.above states c.loop-number.block i b c.loop-number.invariant there lt)
      | else-above-get w ↦
          subst (λ (m : States). HasNewer m c.args.above (i + 1) (map.entries states)) (sym w.block-is)
          (newer_passed c.args.above states c.loop-number.block i a c.loop-number.invariant here (le-ltb c.args.above a.1.version (omega (arith, w.if-above-get.false, c.get.ensures.value))))
    ]

pub returns-clause-value : goal.returns-clause-value
returns-clause-value c =
    newer_whole c.args.above c.args.self.now.states c.loop-number.block c.loop-number.number c.loop-number.invariant
    (omega (arith, c.loop-number-test.false, c.len-number-end.ensures, ap (λ (xs : List (ℕ × Versioned)). length xs) c.by_key-states.ensures))
