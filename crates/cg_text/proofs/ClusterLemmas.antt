-- Bytes that are not UTF-8 name no cluster.
use Rattle.std.proofs.Common.{◌≡◌, ℕ, Bool, true, false, cond, List, length, None, refl}
use Rattle.std.specs.Prelude.{nat_lt, ◌==◌, Ok, Err}
use Rattle.std.specs.Str.{IsUtf8}
use Rattle.cg_types.specs.declared.fault.Fault.TheVariants.{TooLong, BadText}
use Rattle.cg_types.specs.declared.limits.TheConstants.{NAME_LIMIT}
use Rattle.cg_types.specs.Text.{ClusterValue, cluster_of, plain}
use Rattle.cg_types.proofs.PlainLemmas.{not_plain}
use Rattle.cg_text.specs.Gives.{readable}

refused_by : (long none is_plain : Bool) (c : ClusterValue) → is_plain ≡ false
    → readable (cond long (Err TooLong) (cond none (Err BadText) (cond is_plain (Ok c) (Err BadText)))) ≡ None
refused_by true none is_plain c e = refl
refused_by false true is_plain c e = refl
refused_by false false true c e = absurd cc
refused_by false false false c e = refl

pub not_named : (name : List ℕ) (partitioner : ℕ) → (IsUtf8 name → ⊥) → readable (cluster_of name partitioner) ≡ None
not_named name partitioner refused =
    refused_by (nat_lt NAME_LIMIT (length name)) (length name == 0) (plain name) (record { name = name; partitioner = partitioner }) (not_plain name refused)
