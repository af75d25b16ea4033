use Rattle.std.proofs.Common.{subst, List, ℕ}
use Rattle.cg_types.specs.Rows.{IsRowAt, IsGapAt}
use Rattle.cg_entry.specs.Versioned.{Versioned}
use Rattle.cg_entry.proofs.BlockLemmas.{rows_of}
use Rattle.cg_entry.proofs.block.Block.with_newest.Goals as goal

pub number_of-requires : goal.number_of-requires
number_of-requires c = rw (c.deref.ensures.value, c.as_slice.ensures.value) c.self.invariant.rise

pub with_other-requires-clause-row : goal.with_other-requires-clause-row
with_other-requires-clause-row c =
    subst (λ (es : List (ℕ × Versioned)). IsRowAt es c.args.state.key c.in-Ok.number)
    (rows_of c.deref.result.now c.self.inside.items.items c.as_slice.result.now c.self.inside.places c.args.self.now c.deref.ensures.value c.as_slice.ensures.value c.self.invariant.rise c.self.view_is) c.in-Ok.ensures.found

pub add-requires-clause-gap : goal.add-requires-clause-gap
add-requires-clause-gap c =
    rw c.in_ok-copy-in-Err.ensures (subst (λ (es : List (ℕ × Versioned)). IsGapAt es c.args.state.key c.in-Err.number)
    (rows_of c.deref.result.now c.self.inside.items.items c.as_slice.result.now c.self.inside.places c.args.self.now c.deref.ensures.value c.as_slice.ensures.value c.self.invariant.rise c.self.view_is) c.in-Err.ensures.absent)
