use Rattle.std.proofs.Common.{◌≡◌, ◌∙◌, ap, refl, List, [], ◌∷◌, ◌++◌}
use Rattle.std.specs.FinMap as map
use Rattle.cg_entry.specs.declared.state.State.{State}
use Rattle.cg_entry.specs.State.{pairs, value_at_key}
use Rattle.cg_types.proofs.RisingLemmas.{from_sorted-none}
use Rattle.cg_entry.proofs.PutLemmas.{put_inserted}
use Rattle.cg_entry.proofs.states.States.one.Goals as goal

pub from_rising-requires : goal.from_rising-requires
from_rising-requires c = rw (c.in_ok-push.ensures.items, c.in_ok-items.ensures.items) refl

pub returns : goal.returns
returns c =
    let made : c.push.new.self.items ≡ c.args.state ∷ [] = c.in_ok-push.ensures.items ∙ ap (λ (xs : List State). xs ++ c.args.state ∷ []) c.in_ok-items.ensures.items in
    c.from_rising.ensures ∙ put_inserted c.args.state.key (value_at_key c.args.state) [] [] c.push.new.self.items map.empty refl refl from_sorted-none (ap (λ (xs : List State). pairs xs) made)
