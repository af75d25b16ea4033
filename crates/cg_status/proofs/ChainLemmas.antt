-- Lists to which parts are added, one after the other, before the last call.
use Rattle.std.proofs.Common.{◌≡◌, List, ◌++◌, Result, Ok, Err, ap, ◌∙◌, append_assoc}
use Rattle.std.specs.Prelude.{OnOk}

-- a part and the rest behind it
pub onto : {A T E : Type 0} (r : Result T E) (t b u rest v : List A) → u ≡ t ++ b → OnOk r (v ≡ u ++ rest) → OnOk r (v ≡ t ++ (b ++ rest))
onto (Ok x) t b u rest v e f = f ∙ ap (λ z. z ++ rest) e ∙ append_assoc t b rest
onto (Err x) t b u rest v e f = f

-- the parts, spelled otherwise
pub spelled : {A T E : Type 0} (r : Result T E) (t x y v : List A) → x ≡ y → OnOk r (v ≡ t ++ x) → OnOk r (v ≡ t ++ y)
spelled (Ok z) t x y v e f = f ∙ ap (λ z. t ++ z) e
spelled (Err z) t x y v e f = f
