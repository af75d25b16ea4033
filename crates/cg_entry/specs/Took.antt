-- The names of outcomes, and the code by which `==` of their holders distinguishes values.
use Rattle.std.specs.Prelude.{ℕ, zero, suc, ◌≡◌, List, codes, refl}
use Rattle.std.specs.Coded.{Coded, code_by, coded_ℕ}
use Rattle.cg_entry.specs.declared.took.Took.{Took}
use Rattle.cg_entry.specs.declared.took.Took.TheVariants.{Taken, Old, Gap, Own}

-- the name of an outcome
abbrev pub took_name : Took → List ℕ
took_name Taken = codes "took"
took_name Old = codes "old"
took_name Gap = codes "gap"
took_name Own = codes "own"

abbrev number_of : Took → ℕ
number_of Taken = 0
number_of Old = 1
number_of Gap = 2
number_of Own = 3

abbrev took_of : ℕ → Took
took_of zero = Taken
took_of (suc zero) = Old
took_of (suc (suc zero)) = Gap
took_of (suc (suc (suc n))) = Own

pub of_its_number : (t : Took) → took_of (number_of t) ≡ t
of_its_number Taken = refl
of_its_number Old = refl
of_its_number Gap = refl
of_its_number Own = refl

abbrev pub took_code : Coded Took
took_code = code_by ℕ coded_ℕ number_of took_of of_its_number
