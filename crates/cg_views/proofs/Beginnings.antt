-- Prefixes of one list.
use Rattle.std.proofs.lemmas.Bool.Decides.{nat_tests}
use Rattle.std.specs.Prelude.{nat_le, MatchBool, MatchResult, Result, Ok}
use Rattle.std.proofs.Common.{subst, Bool, true, false, ◌<◌, ◌≡◌, ℕ, ◌≤◌, List, [], ◌∷◌, ◌++◌, length, refl, ap, sym, ◌∙◌, arith, append_assoc}
use mathlib.Core.List.{IsPrefix}
use Rattle.cg_table.specs.Puts.{Put}
use Rattle.cg_views.specs.Lists.{joined, StartsWith}

-- of two prefixes of one list the shorter begins the longer
pub shorter_begins : {A : Type 0} (xs ys zs : List A) → IsPrefix xs zs → IsPrefix ys zs → length xs ≤ length ys → IsPrefix xs ys
shorter_begins [] ys zs p q le = (ys, refl)
shorter_begins (x ∷ xs) [] zs p q le = absurd (omega arith)
shorter_begins (x ∷ xs) (y ∷ ys) [] p q le = absurd (cc (p.1))
shorter_begins (x ∷ xs) (y ∷ ys) (z ∷ zs) p q le =
    let heads : x ≡ y = cc (p.1, q.1) in
    let rest = shorter_begins xs ys zs (p.0, cc (p.1)) (q.0, cc (q.1)) (omega arith) in
    (rest.0, cc (heads, rest.1))

-- a prefix as long as the whole is the whole
pub whole_begins : {A : Type 0} (xs ys : List A) → IsPrefix xs ys → length ys ≤ length xs → xs ≡ ys
whole_begins [] [] p le = refl
whole_begins [] (y ∷ ys) p le = absurd (omega arith)
whole_begins (x ∷ xs) [] p le = absurd (cc (p.1))
whole_begins (x ∷ xs) (y ∷ ys) p le =
    let rest = whole_begins xs ys (p.0, cc (p.1)) (omega arith) in cc (p.1, rest)

pub joined-append : (xs ys : List (List Put)) → joined (xs ++ ys) ≡ joined xs ++ joined ys
joined-append [] ys = refl
joined-append (x ∷ xs) ys = ap (λ ps. x ++ ps) (joined-append xs ys) ∙ sym (append_assoc x (joined xs) (joined ys))

-- the puts of a prefix begin the puts of the whole
pub joined-begins : (xs ys : List (List Put)) → IsPrefix xs ys → StartsWith (joined ys) (joined xs)
joined-begins xs ys p = (joined p.0, sym (ap joined p.1) ∙ joined-append xs p.0)

-- of two prefixes of one list, by their lengths, one begins the other
pub begins_by_length : {A : Type 0} (xs ys both : List A) (m n : ℕ) → m ≡ length xs → n ≡ length ys → IsPrefix xs both → IsPrefix ys both → (b : Bool) → nat_le n m ≡ b → MatchBool b (IsPrefix ys xs) (IsPrefix xs ys)
begins_by_length xs ys both m n p q f g true is = let le : n ≤ m = grind (arith, nat_tests) in shorter_begins ys xs both g f (omega arith)
begins_by_length xs ys both m n p q f g false is = let lt : m < n = grind (arith, nat_tests) in shorter_begins xs ys both f g (omega arith)

pub when_true : (X Y : Type 0) (b : Bool) → b ≡ true → MatchBool b X Y → X
when_true X Y true e h = h
when_true X Y false e h = cc

pub at_ok : {T E : Type 0} (A B : Type 0) (r : Result T E) (x : T) → r ≡ Ok x → MatchResult r (λ _. A) (λ _. B) → A
at_ok A B r x e h = subst (λ q. MatchResult q (λ _. A) (λ _. B)) e h
