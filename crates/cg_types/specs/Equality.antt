-- Equality by codes that tell values apart, and a proof that `==` may answer so.
use Rattle.std.specs.Prelude.{◌≡◌, Bool, true, false, ◌&&◌, ◌==◌, refl}
use Rattle.std.proofs.Common.{sym, ap, subst}
use Rattle.std.specs.Bool.{Decides}
use Rattle.std.specs.Cmp.{IsEquivalence, IsPartialEquivalence, partial_equiv_from_equiv, both_ways, unsigned_Decides}
use Rattle.std.specs.Coded.{Coded}
use base.Stored.{Gv, gnil, gnum, gcons}

-- a test for the same code
unfoldable pub same_code : Gv → Gv → Bool
same_code gnil gnil = true
same_code gnil (gnum n) = false
same_code gnil (gcons c d) = false
same_code (gnum m) gnil = false
same_code (gnum m) (gnum n) = m == n
same_code (gnum m) (gcons c d) = false
same_code (gcons a b) gnil = false
same_code (gcons a b) (gnum n) = false
same_code (gcons a b) (gcons c d) = same_code a c && same_code b d

-- a test for values with the same code
abbrev pub same_by : {A : Type 0} → Coded A → A → A → Bool
same_by c x y = same_code (c.code x) (c.code y)

-- ---- a proof that it is an equality: an `impl` cites its laws, and cites only what is in `specs/`

both_tell : {a b c d : Gv} (s t : Bool) → (s ≡ true → a ≡ c) → (t ≡ true → b ≡ d) → (s && t) ≡ true
    → gcons a b ≡ gcons c d
both_tell true t f g e = λ i. gcons (f refl i) (g e i)
both_tell false t f g e = absurd cc

code_tells : (a b : Gv) → same_code a b ≡ true → a ≡ b
unfolding same_code
code_tells gnil gnil e = refl
code_tells gnil (gnum n) e = absurd cc
code_tells gnil (gcons c d) e = absurd cc
code_tells (gnum m) gnil e = absurd cc
code_tells (gnum m) (gnum n) e = ap gnum ((unsigned_Decides m n).0 e)
code_tells (gnum m) (gcons c d) e = absurd cc
code_tells (gcons a b) gnil e = absurd cc
code_tells (gcons a b) (gnum n) e = absurd cc
code_tells (gcons a b) (gcons c d) e = both_tell (same_code a c) (same_code b d) (code_tells a c) (code_tells b d) e

code_itself : (a : Gv) → same_code a a ≡ true
unfolding same_code
code_itself gnil = refl
code_itself (gnum n) = (unsigned_Decides n n).1 refl
code_itself (gcons a b) = rw (code_itself a) (code_itself b)

module _ {A : Type 0} (c : Coded A) where
  pub same_by-Decides : (x y : A) → Decides (same_by c x y) (x ≡ y)
  same_by-Decides x y = (
    λ e. c.inj x y (code_tells (c.code x) (c.code y) e),
    λ e. subst (λ z. same_by c x z ≡ true) e (code_itself (c.code x)),
  )

  pub same_by-laws : IsEquivalence (same_by c)
  same_by-laws = record {
    refl = λ x. (same_by-Decides x x).1 refl;
    symm = λ x y. both_ways (same_by c x y) (same_by c y x)
        (λ e. (same_by-Decides y x).1 (sym ((same_by-Decides x y).0 e)))
        (λ e. (same_by-Decides x y).1 (sym ((same_by-Decides y x).0 e)));
    congr = λ x y z e. ap (λ w. same_by c w z) ((same_by-Decides x y).0 e);
  }

  pub same_by-partial : IsPartialEquivalence (same_by c)
  same_by-partial = partial_equiv_from_equiv same_by-laws

  -- a test that decides whether two values are the same is sameness by their code
  pub same_by-is : (x y : A) (r : Bool) → Decides r (x ≡ y) → r ≡ same_by c x y
  same_by-is x y r d = both_ways r (same_by c x y)
      (λ e. (same_by-Decides x y).1 (d.0 e)) (λ e. d.1 ((same_by-Decides x y).0 e))
