-- An overlay by a map that has all keys is that map.
use Rattle.std.proofs.Common.{◌≡◌, ℕ, Option, Some, None, refl, ◌∙◌}
use Rattle.std.specs.Option.{option_or}
use Rattle.std.specs.Cmp.{nat_cmp_total}
use Rattle.std.specs.FinMap.{get, same_map, nat_cmp-IsAntisymmetric}
use Rattle.cg_entry.specs.Versioned.{States}
use Rattle.cg_entry.specs.Entry.{overlay}
use Rattle.cg_entry.proofs.PutLemmas.{get-overlay}

or_kept : {X : Type 0} (o p : Option X) → (o ≡ None → p ≡ None) → option_or o p ≡ o
or_kept None p none = none refl
or_kept (Some x) p none = refl

pub overlay_covered : (old new : States) → ((q : ℕ) → get new q ≡ None → get old q ≡ None) → overlay old new ≡ new
overlay_covered old new none =
    same_map nat_cmp_total nat_cmp-IsAntisymmetric (overlay old new) new (λ q. get-overlay old new q ∙ or_kept (get new q) (get old q) (none q))
