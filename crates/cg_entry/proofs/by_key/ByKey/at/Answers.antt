use Rattle.std.proofs.Common.{◌<◌, ◌∙◌, ℕ, List, length, ap, sym, arith, get_or}
use Rattle.std.specs.Prelude.{Some, slice_get}
use Rattle.cg_entry.specs.declared.state.State.{State}
use Rattle.cg_entry.specs.State.{pair}
use Rattle.cg_entry.specs.Block.{no_state}
use Rattle.cg_entry.specs.Versioned.{Versioned}
use Rattle.cg_entry.proofs.BlockLemmas.{each_at, get_or_any, length-rows, picked_at}
use Rattle.cg_entry.proofs.by_key.ByKey.at.Goals as goal

pub returns : goal.returns
returns c =
    let items : List State = c.self.inside.items.now in
    let ps : List ℕ = c.self.inside.places.now in
    let few : c.args.number < length ps = omega (arith, c.requires, ap length c.self.view_is, length-rows items ps) in
    ap (λ (xs : List (ℕ × Versioned)). slice_get xs c.args.number) (sym c.self.view_is) ∙ picked_at items ps c.args.number few
    ∙ ap (λ (s : State). Some (pair s)) (get_or_any items (get_or ps c.args.number 0) no_state c.index-self-self.result (each_at (λ p. p < length items) ps c.args.number 0 c.self.invariant few))
