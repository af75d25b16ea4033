use Rattle.std.proofs.Common.{◌++◌, ◌∙◌, ℕ, List, Vec, Global, true, false, take, nat_lt, ap, sym, arith, append-nil}
use Rattle.std.specs.Prelude.{option_copied}
use Rattle.std.specs.List.{filter, flat_map}
use Rattle.std.proofs.lemmas.Bool.{lt-ltb, le-ltb}
use Rattle.std.proofs.lemmas.List.{take_all, flat_map_more}
use Rattle.cg_entry.specs.Section.{state}
use Rattle.cg_entry.specs.Versioned.{Versioned}
use Rattle.cg_entry.proofs.NewerLemmas.{filter_next}
use Rattle.cg_entry.proofs.borrowed.BorrowedStates.put_newer.Goals.{then-above-get+in_ok-put_state, else-above-get}
use Rattle.cg_entry.proofs.borrowed.BorrowedStates.put_newer.Goals as goal

pub loop-number-preserved : goal.loop-number-preserved
loop-number-preserved c =
    let es : List (ℕ × Versioned) = c.args.self.now in
    let i : ℕ = c.loop-number.number in
    let e : ℕ × Versioned = (c.at-key.result.0, record { text = option_copied c.at-key.result.1; version = c.at-key.result.2 }) in
    let so_far : List (ℕ × Versioned) = filter (λ s. nat_lt c.args.above s.1.version) (take i es) in
    elim c.if-above-get.branch [
      | then-above-get+in_ok-put_state w ↦
          let next = filter_next (λ s. nat_lt c.args.above s.1.version) es i e c.at-key.ensures true (lt-ltb c.args.above e.1.version (omega (arith, w.if-above-get.true, c.get.ensures.value))) in
          ap (λ (v : Vec ℕ Global). v.items) w.out-is ∙ w.in_ok-put_state.ensures ∙ ap (λ (ys : List ℕ). ys ++ state e) c.loop-number.invariant ∙ flat_map_more state c.args.out.now.items so_far e
          ∙ ap (λ (xs : List (ℕ × Versioned)). c.args.out.now.items ++ flat_map state xs) (sym next)
      | else-above-get w ↦
          let next = filter_next (λ s. nat_lt c.args.above s.1.version) es i e c.at-key.ensures false (le-ltb c.args.above e.1.version (omega (arith, w.if-above-get.false, c.get.ensures.value))) in
          ap (λ (v : Vec ℕ Global). v.items) w.out-is ∙ c.loop-number.invariant ∙ ap (λ (xs : List (ℕ × Versioned)). c.args.out.now.items ++ flat_map state xs) (sym (next ∙ append-nil so_far))
    ]

pub returns : goal.returns
returns c =
    c.loop-number.invariant
    ∙ ap (λ (xs : List (ℕ × Versioned)). c.args.out.now.items ++ flat_map state (filter (λ s. nat_lt c.args.above s.1.version) xs)) (take_all c.loop-number.number c.args.self.now (omega (arith, c.loop-number-test.false, c.len-number-end.ensures)))
