use Rattle.std.proofs.Common.{◌≡◌, ℕ, zero, suc, List, [], ◌∷◌, take, refl, add-one}
use Rattle.std.specs.Prelude.{slice_get}
use Rattle.cg_entry.proofs.borrowed.BorrowedStates.are_same.Goals as goal

same_front : {X : Type 0} (xs ys : List X) (i : ℕ) → take i xs ≡ take i ys → slice_get xs i ≡ slice_get ys i → take (suc i) xs ≡ take (suc i) ys
same_front [] [] i so_far here = refl
same_front [] (y ∷ ys) zero so_far here = absurd cc
same_front [] (y ∷ ys) (suc i) so_far here = absurd cc
same_front (x ∷ xs) [] zero so_far here = absurd cc
same_front (x ∷ xs) [] (suc i) so_far here = absurd cc
same_front (x ∷ xs) (y ∷ ys) zero so_far here = let same : x ≡ y = cc in λ j. same j ∷ []
same_front (x ∷ xs) (y ∷ ys) (suc i) so_far here =
    let first : x ≡ y = cc in
    let rest : take i xs ≡ take i ys = cc in
    λ j. first j ∷ same_front xs ys i rest here j

pub loop-number-preserved : goal.loop-number-preserved
loop-number-preserved c = rw add-one (same_front c.args.self.now c.args.other.now c.loop-number.number c.loop-number.invariant (c.is_same_at.ensures.0 c.if-not-is_same_at.false))
