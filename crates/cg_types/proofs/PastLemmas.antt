-- Maps that hold the same past a key, and changes up to that key.
use Rattle.std.proofs.Common.{◌≡◌, ℕ, true, Option, Some, ◌∙◌}
use Rattle.std.specs.Ordering.{nat_cmp}
use Rattle.std.specs.Cmp.{nat_cmp_total}
use Rattle.std.specs.FinMap.{FinMap, get, insert, get-insert}
use Rattle.std.proofs.lemmas.Bool.{ltb-true}
use Rattle.cg_types.specs.Rising.{is_past}
use Rattle.cg_types.proofs.RisingLemmas.{past_trans, other_key}

module _ {X : Type 0} (base : FinMap nat_cmp X) where
  -- past the last key, if there is one, the map and the base hold the same
  abbrev pub AgreePast : Option ℕ → FinMap nat_cmp X → Type 0
  AgreePast last m = (k : ℕ) → is_past last k ≡ true → get m k ≡ get base k

  -- a change at the key leaves all that is past it
  pub still_agree : (m : FinMap nat_cmp X) (e : ℕ) (x : X) → AgreePast (Some e) m → AgreePast (Some e) (insert m e x)
  still_agree m e x same k past = get-insert nat_cmp_total m e x k ∙ rw (other_key e k past) (same k past)

  -- all that is past a later key is past the earlier one
  pub agree_later : (m : FinMap nat_cmp X) (last : Option ℕ) (e : ℕ) → is_past last e ≡ true → AgreePast last m → AgreePast (Some e) m
  agree_later m last e here same k past = same k (past_trans last e k here (ltb-true e k past))
