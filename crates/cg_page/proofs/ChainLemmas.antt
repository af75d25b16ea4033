-- Lists to which parts are added, one after the other.
use Rattle.std.proofs.Common.{◌≡◌, List, [], ◌++◌, ap, ◌∙◌, append_assoc}

-- a part and the rest behind it
pub onto : {A : Type 0} (t b u rest v : List A) → u ≡ t ++ b → v ≡ u ++ rest → v ≡ t ++ (b ++ rest)
onto t b u rest v e f = f ∙ ap (λ z. z ++ rest) e ∙ append_assoc t b rest

-- all parts, which began with nothing
pub whole : {A : Type 0} (t all v : List A) → t ≡ [] → v ≡ t ++ all → v ≡ all
whole t all v e f = f ∙ ap (λ z. z ++ all) e
