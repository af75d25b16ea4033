use Rattle.std.proofs.Common.{◌∙◌, ℕ, List, [], ◌∷◌, true, false, length, length-append, take, nat_lt, ap, arith}
use Rattle.std.specs.Prelude.{option_copied}
use Rattle.std.specs.List.{filter}
use Rattle.std.proofs.lemmas.Bool.{lt-ltb, le-ltb}
use Rattle.std.proofs.lemmas.List.{take_all}
use Rattle.cg_entry.specs.Versioned.{Versioned}
use Rattle.cg_entry.proofs.NewerLemmas.{filter_next}
use Rattle.cg_entry.proofs.borrowed.BorrowedStates.newer_count.Goals.{then-above-get, else-above-get}
use Rattle.cg_entry.proofs.borrowed.BorrowedStates.newer_count.Goals as goal

pub loop-number-preserved : goal.loop-number-preserved
loop-number-preserved c =
    let es : List (ℕ × Versioned) = c.args.self.now in
    let i : ℕ = c.loop-number.number in
    let e : ℕ × Versioned = (c.at-key.result.0, record { text = option_copied c.at-key.result.1; version = c.at-key.result.2 }) in
    let so_far : List (ℕ × Versioned) = filter (λ s. nat_lt c.args.above s.1.version) (take i es) in
    elim c.if-above-get.branch [
      | then-above-get w ↦
          let next = filter_next (λ s. nat_lt c.args.above s.1.version) es i e c.at-key.ensures true (lt-ltb c.args.above e.1.version (omega (arith, w.if-above-get.true, c.get.ensures.value))) in
          (omega (arith, w.count-is, c.loop-number.invariant.0, ap (λ (xs : List (ℕ × Versioned)). length xs) next, length-append so_far (e ∷ [])), omega (arith, w.count-is, c.loop-number.invariant.1))
      | else-above-get w ↦
          let next = filter_next (λ s. nat_lt c.args.above s.1.version) es i e c.at-key.ensures false (le-ltb c.args.above e.1.version (omega (arith, w.if-above-get.false, c.get.ensures.value))) in
          (omega (arith, w.count-is, c.loop-number.invariant.0, ap (λ (xs : List (ℕ × Versioned)). length xs) next, length-append so_far []), omega (arith, w.count-is, c.loop-number.invariant.1))
    ]

pub returns : goal.returns
returns c =
    c.loop-number.invariant.0
    ∙ ap (λ (xs : List (ℕ × Versioned)). length (filter (λ s. nat_lt c.args.above s.1.version) xs)) (take_all c.loop-number.number c.args.self.now (omega (arith, c.loop-number-test.false, c.len-number-end.ensures)))
