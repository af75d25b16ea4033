-- Escaped texts have no markup.
use Rattle.std.proofs.Common.{◌≡◌, ℕ, ◌==◌, ◌||◌, Bool, true, false, cond, List, [], ◌∷◌, ◌++◌, codes, refl, ap, sym, ◌∙◌}
use Rattle.std.specs.List.{flat_map, list_any}
use Rattle.cg_page.specs.Escaped.{escaped_byte, escaped, is_markup}

by_head : (b : Bool) (xs ys : List ℕ) → (list_any is_markup xs ≡ false → list_any is_markup (xs ++ ys) ≡ false)
    → (b || list_any is_markup xs) ≡ false → (b || list_any is_markup (xs ++ ys)) ≡ false
by_head true xs ys more e = e
by_head false xs ys more e = more e

any_append : (xs ys : List ℕ) → list_any is_markup xs ≡ false → list_any is_markup ys ≡ false → list_any is_markup (xs ++ ys) ≡ false
any_append [] ys first second = second
any_append (x ∷ xs) ys first second = by_head (is_markup x) xs ys (λ e. any_append xs ys e second) first

-- the cases of a byte: each test has its answer
cases : (b : ℕ) (amp less more double single : Bool) → (b == 60) ≡ less → (b == 62) ≡ more → (b == 34) ≡ double → (b == 39) ≡ single
    → list_any is_markup (cond amp (codes "&amp;") (cond less (codes "&lt;") (cond more (codes "&gt;") (cond double (codes "&quot;") (cond single (codes "&#39;") (b ∷ [])))))) ≡ false
cases b true less more double single e f g h = refl
cases b false true more double single e f g h = refl
cases b false false true double single e f g h = refl
cases b false false false true single e f g h = refl
cases b false false false false true e f g h = refl
cases b false false false false false e f g h = rw (e, f, g, h) refl

byte_stays : (b : ℕ) → list_any is_markup (escaped_byte b) ≡ false
byte_stays b = cases b (b == 38) (b == 60) (b == 62) (b == 34) (b == 39) refl refl refl refl

pub stays : (text : List ℕ) → list_any is_markup (escaped text) ≡ false
unfolding escaped
stays [] = refl
stays (b ∷ bs) = any_append (escaped_byte b) (flat_map escaped_byte bs) (byte_stays b) (stays bs)
