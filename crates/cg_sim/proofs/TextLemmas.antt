-- The text that some lines print, and then some more; prefixes of that.
use Rattle.std.proofs.Common.{◌≡◌, ℕ, ◌+◌, ◌≤◌, suc, zero, List, [], ◌∷◌, ◌++◌, length, take, refl, sym, ap, ◌∙◌, append_assoc, length-append, arith}
use Rattle.std.proofs.Math.Seq.{take-append-add, take-append_seam, take-append-le}
use Rattle.cg_sim.specs.declared.play.Play.{Play}
use Rattle.cg_sim.specs.Script.{after_line, line_text, after_lines, lines_text}

pub after_lines-append : (p : Play) (xs ys : List (List ℕ)) → after_lines p (xs ++ ys) ≡ after_lines (after_lines p xs) ys
after_lines-append p [] ys = refl
after_lines-append p (x ∷ xs) ys = after_lines-append (after_line p x) xs ys

pub lines_text-append : (p : Play) (xs ys : List (List ℕ)) → lines_text p (xs ++ ys) ≡ lines_text p xs ++ lines_text (after_lines p xs) ys
lines_text-append p [] ys = refl
lines_text-append p (x ∷ xs) ys =
    ap (λ (t : List ℕ). line_text p x ++ t) (lines_text-append (after_line p x) xs ys)
    ∙ sym (append_assoc (line_text p x) (lines_text (after_line p x) xs) (lines_text (after_lines (after_line p x) xs) ys))

-- a prefix of the first part is a prefix of both
pub take_front : {A : Type 0} → (n : ℕ) (xs ys : List A) → (k : ℕ) × (take n xs ≡ take k (xs ++ ys))
take_front zero xs ys = (0, refl)
take_front (suc n) [] ys = (0, refl)
take_front {A} (suc n) (x ∷ xs) ys = let h = take_front n xs ys in (suc h.0, ap (λ (l : List A). x ∷ l) h.1)

-- the elements before an element of two parts, of which the second has one at most, are a prefix of the first part
pub front_of_first : {A : Type 0} (xs ys front rest : List A) (x : A) → length ys ≤ 1 → xs ++ ys ≡ front ++ x ∷ rest
    → front ≡ take (length front) xs
front_of_first xs ys front rest x few are =
    let lengths : length (xs ++ ys) ≡ length (front ++ x ∷ rest) = ap length are in
    let whole : length (xs ++ ys) ≡ length xs + length ys = length-append xs ys in
    let parts : length (front ++ x ∷ rest) ≡ length front + length (x ∷ rest) = length-append front (x ∷ rest) in
    let within : length front ≤ length xs = omega (arith, few, lengths, whole, parts) in
    sym (take-append_seam front (x ∷ rest)) ∙ ap (take (length front)) (sym are) ∙ take-append-le (length front) xs ys within

-- all of a first part's text, and then a prefix of a second's
pub text_front-more : (p : Play) (xs ys : List (List ℕ)) (n : ℕ)
    → take (length (lines_text p xs) + n) (lines_text p (xs ++ ys)) ≡ lines_text p xs ++ take n (lines_text (after_lines p xs) ys)
text_front-more p xs ys n =
    ap (take (length (lines_text p xs) + n)) (lines_text-append p xs ys) ∙ take-append-add (lines_text p xs) (lines_text (after_lines p xs) ys) n
