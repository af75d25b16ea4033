-- Each name is the name of one key.
use Rattle.std.proofs.Common.{◌≡◌, ℕ, zero, suc, List, refl, sym, ap, ◌∙◌, arith}
use Rattle.std.specs.Prelude.{codes, if◌then◌else◌}
use Rattle.std.specs.Str.{bytes_eq}
use Rattle.cg_types.specs.Key.{key_name, EachKeyHasItsName}
use Rattle.cg_types.specs.Numbers.{IsKey}

-- the key of a name
abbrev key_named : List ℕ → ℕ
key_named name =
    if bytes_eq name (codes "STATUS") then 1
    else if bytes_eq name (codes "TOKENS") then 2
    else if bytes_eq name (codes "LOAD") then 3
    else if bytes_eq name (codes "SCHEMA") then 4
    else if bytes_eq name (codes "DC") then 5
    else if bytes_eq name (codes "RACK") then 6
    else if bytes_eq name (codes "RELEASE_VERSION") then 7
    else if bytes_eq name (codes "RPC_ADDRESS") then 8
    else if bytes_eq name (codes "HOST_ID") then 9
    else if bytes_eq name (codes "INTERNAL_IP") then 10
    else if bytes_eq name (codes "NET_VERSION") then 11
    else if bytes_eq name (codes "SEVERITY") then 12
    else if bytes_eq name (codes "RPC_READY") then 13
    else if bytes_eq name (codes "X1") then 14
    else if bytes_eq name (codes "X2") then 15
    else 16

name_names : (k : ℕ) → IsKey k → key_named (key_name k) ≡ k
unfolding key_name
name_names zero is = absurd (omega (arith, is.0))
name_names (suc zero) is = refl
name_names (suc (suc zero)) is = refl
name_names (suc (suc (suc zero))) is = refl
name_names (suc (suc (suc (suc zero)))) is = refl
name_names (suc (suc (suc (suc (suc zero))))) is = refl
name_names (suc (suc (suc (suc (suc (suc zero)))))) is = refl
name_names (suc (suc (suc (suc (suc (suc (suc zero))))))) is = refl
name_names (suc (suc (suc (suc (suc (suc (suc (suc zero)))))))) is = refl
name_names (suc (suc (suc (suc (suc (suc (suc (suc (suc zero))))))))) is = refl
name_names (suc (suc (suc (suc (suc (suc (suc (suc (suc (suc zero)))))))))) is = refl
name_names (suc (suc (suc (suc (suc (suc (suc (suc (suc (suc (suc zero))))))))))) is = refl
name_names (suc (suc (suc (suc (suc (suc (suc (suc (suc (suc (suc (suc zero)))))))))))) is = refl
name_names (suc (suc (suc (suc (suc (suc (suc (suc (suc (suc (suc (suc (suc zero))))))))))))) is = refl
name_names (suc (suc (suc (suc (suc (suc (suc (suc (suc (suc (suc (suc (suc (suc zero)))))))))))))) is = refl
name_names (suc (suc (suc (suc (suc (suc (suc (suc (suc (suc (suc (suc (suc (suc (suc zero))))))))))))))) is = refl
name_names (suc (suc (suc (suc (suc (suc (suc (suc (suc (suc (suc (suc (suc (suc (suc (suc zero)))))))))))))))) is = refl
name_names (suc (suc (suc (suc (suc (suc (suc (suc (suc (suc (suc (suc (suc (suc (suc (suc (suc n))))))))))))))))) is = absurd (omega (arith, is.1))

pub each_has_its_name : EachKeyHasItsName
each_has_its_name j k is_j is_k same = sym (name_names j is_j) ∙ ap key_named same ∙ name_names k is_k
