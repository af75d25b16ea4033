-- Lines of a text that comes in chunks.
use Rattle.std.proofs.Common.{◌≡◌, ℕ, ◌+◌, ◌≤◌, Bool, true, false, cond, List, [], ◌∷◌, ◌++◌, length, Option, Some, None, refl, sym, ap, ◌∙◌, append_assoc, append-nil, arith}
use Rattle.std.specs.Prelude.{◌==◌}
use Rattle.cg_types.specs.Words.{cut_at, with_first}
use Rattle.cg_links.specs.Lines.{ended_lines, unended_line}

-- ---- a text in two chunks

pub ended_lines-append : (front xs ys : List ℕ) → ended_lines front (xs ++ ys) ≡ ended_lines front xs ++ ended_lines (unended_line front xs) ys
ended_lines-append front [] ys = refl
ended_lines-append front (b ∷ bs) ys =
    elim (b == 10) as (λ (t : Bool). cond t (front ∷ ended_lines [] (bs ++ ys)) (ended_lines (front ++ b ∷ []) (bs ++ ys)) ≡ cond t (front ∷ ended_lines [] bs) (ended_lines (front ++ b ∷ []) bs) ++ ended_lines (cond t (unended_line [] bs) (unended_line (front ++ b ∷ []) bs)) ys) [
      | true ↦ ap (λ (ls : List (List ℕ)). front ∷ ls) (ended_lines-append [] bs ys)
      | false ↦ ended_lines-append (front ++ b ∷ []) bs ys
    ]

pub unended_line-append : (front xs ys : List ℕ) → unended_line front (xs ++ ys) ≡ unended_line (unended_line front xs) ys
unended_line-append front [] ys = refl
unended_line-append front (b ∷ bs) ys =
    elim (b == 10) as (λ (t : Bool). cond t (unended_line [] (bs ++ ys)) (unended_line (front ++ b ∷ []) (bs ++ ys)) ≡ unended_line (cond t (unended_line [] bs) (unended_line (front ++ b ∷ []) bs)) ys) [
      | true ↦ unended_line-append [] bs ys
      | false ↦ unended_line-append (front ++ b ∷ []) bs ys
    ]

-- ---- a text that is cut at its first line feed

-- the cut of all bytes by the cut of the rest
abbrev EndedBy : List ℕ → List ℕ → Option (List ℕ × List ℕ) → Type 0
EndedBy front bs None = (ended_lines front bs ≡ []) × (unended_line front bs ≡ front ++ bs)
EndedBy front bs (Some p) = (ended_lines front bs ≡ (front ++ p.0) ∷ ended_lines [] p.1) × (unended_line front bs ≡ unended_line [] p.1)

more : (front : List ℕ) (b : ℕ) (bs : List ℕ) (cut : Option (List ℕ × List ℕ)) → EndedBy (front ++ b ∷ []) bs cut
    → ended_lines front (b ∷ bs) ≡ ended_lines (front ++ b ∷ []) bs → unended_line front (b ∷ bs) ≡ unended_line (front ++ b ∷ []) bs
    → EndedBy front (b ∷ bs) (with_first b cut)
more front b bs None h e o = (e ∙ h.0, o ∙ h.1 ∙ append_assoc front (b ∷ []) bs)
more front b bs (Some p) h e o = (e ∙ h.0 ∙ ap (λ (l : List ℕ). l ∷ ended_lines [] p.1) (append_assoc front (b ∷ []) p.0), o ∙ h.1)

pub ended_by_cut : (front bs : List ℕ) → EndedBy front bs (cut_at 10 bs)
ended_by_cut front [] = (refl, sym (append-nil front))
ended_by_cut front (b ∷ bs) =
    let here = ended_by_cut (front ++ b ∷ []) bs in
    let P : Bool → Type 0 = λ t. (ended_lines front (b ∷ bs) ≡ cond t (front ∷ ended_lines [] bs) (ended_lines (front ++ b ∷ []) bs))
    → (unended_line front (b ∷ bs) ≡ cond t (unended_line [] bs) (unended_line (front ++ b ∷ []) bs))
    → EndedBy front (b ∷ bs) (cond t (Some ([], bs)) (with_first b (cut_at 10 bs))) in
    (elim (b == 10) as P [
      | true ↦ λ e o. (e ∙ ap (λ (l : List ℕ). l ∷ ended_lines [] bs) (sym (append-nil front)), o)
      | false ↦ λ e o. more front b bs (cut_at 10 bs) here e o
    ]) refl refl

pub ended_some : (front bs : List ℕ) (p : List ℕ × List ℕ) → cut_at 10 bs ≡ Some p → ended_lines front bs ≡ (front ++ p.0) ∷ ended_lines [] p.1
ended_some front bs p e = (rw e at (ended_by_cut front bs)).0

pub open_some : (front bs : List ℕ) (p : List ℕ × List ℕ) → cut_at 10 bs ≡ Some p → unended_line front bs ≡ unended_line [] p.1
open_some front bs p e = (rw e at (ended_by_cut front bs)).1

pub ended_none : (front bs : List ℕ) → cut_at 10 bs ≡ None → ended_lines front bs ≡ []
ended_none front bs e = (rw e at (ended_by_cut front bs)).0

pub open_none : (front bs : List ℕ) → cut_at 10 bs ≡ None → unended_line front bs ≡ front ++ bs
open_none front bs e = (rw e at (ended_by_cut front bs)).1

abbrev rest_of : Option (List ℕ × List ℕ) → List ℕ
rest_of None = []
rest_of (Some p) = p.1

behind_shorter : (b : ℕ) (bs : List ℕ) (p : List ℕ × List ℕ) (cut : Option (List ℕ × List ℕ))
    → ((q : List ℕ × List ℕ) → cut ≡ Some q → length q.1 + 1 ≤ length bs) → with_first b cut ≡ Some p → length p.1 + 1 ≤ length (b ∷ bs)
behind_shorter b bs p None shorter h = absurd cc
behind_shorter b bs p (Some q) shorter h =
    let same : q.1 ≡ p.1 = ap (λ (o : Option (List ℕ × List ℕ)). rest_of o) h in
    let lengths : length q.1 ≡ length p.1 = ap length same in
    let less = shorter q refl in
    omega (arith, less, lengths)

-- the rest after a line feed is shorter
pub cut_shorter : (bs : List ℕ) (p : List ℕ × List ℕ) → cut_at 10 bs ≡ Some p → length p.1 + 1 ≤ length bs
cut_shorter [] p e = absurd cc
cut_shorter (b ∷ bs) p e =
    let P : Bool → Type 0 = λ t. cond t (Some ([], bs)) (with_first b (cut_at 10 bs)) ≡ Some p → length p.1 + 1 ≤ length (b ∷ bs) in
    (elim (b == 10) as P [
      | true ↦ λ h. let same : bs ≡ p.1 = ap (λ (o : Option (List ℕ × List ℕ)). rest_of o) h in let lengths = ap length same in omega (arith, lengths)
      | false ↦ λ h. behind_shorter b bs p (cut_at 10 bs) (cut_shorter bs) h
    ]) e
