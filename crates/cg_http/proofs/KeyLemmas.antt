-- Keys that are looked for by their names.
use Rattle.std.proofs.Common.{◌≡◌, ℕ, suc, ◌+◌, ◌-◌, ◌≤◌, Bool, true, false, cond, List, Option, Some, None, bytes_eq, refl, ap, sym, ◌∙◌, arith}
use Rattle.cg_types.specs.declared.limits.TheConstants.{STATE_LIMIT}
use Rattle.cg_types.specs.Key.{key_name}
use Rattle.cg_http.specs.Paths.{named_from, key_named}

-- the key of this name among those from k on
abbrev pub left : ℕ → List ℕ → Option ℕ
left k name = named_from (STATE_LIMIT + 1 - k) k name

step : (k : ℕ) (name : List ℕ) → k ≤ STATE_LIMIT
    → left k name ≡ cond (bytes_eq name (key_name k)) (Some k) (left (k + 1) name)
step k name within =
    let more : STATE_LIMIT + 1 - k ≡ suc (STATE_LIMIT + 1 - (k + 1)) = omega arith in
    ap (λ (n : ℕ). named_from n k name) more

pub begins : (name : List ℕ) → key_named name ≡ left 1 name
unfolding key_named
begins name = refl

pub found : (k : ℕ) (name : List ℕ) → k ≤ STATE_LIMIT → bytes_eq name (key_name k) ≡ true → left k name ≡ Some k
found k name within is = step k name within ∙ ap (λ b. cond b (Some k) (left (k + 1) name)) is

pub passed : (k : ℕ) (name : List ℕ) → k ≤ STATE_LIMIT → bytes_eq name (key_name k) ≡ false → left k name ≡ left (k + 1) name
passed k name within other = step k name within ∙ ap (λ b. cond b (Some k) (left (k + 1) name)) other

pub ended : (k : ℕ) (name : List ℕ) → STATE_LIMIT + 1 ≤ k → left k name ≡ None
ended k name past =
    let none : STATE_LIMIT + 1 - k ≡ 0 = omega arith in
    ap (λ (n : ℕ). named_from n k name) none

-- a test of the name that a key has, as one of the key's number
pub named_so : (name : List ℕ) (key k : ℕ) (shown : List ℕ) (is : Bool) → key ≡ k → shown ≡ key_name key
    → bytes_eq name shown ≡ is → bytes_eq name (key_name k) ≡ is
named_so name key k shown is same spelled test =
    ap (λ (n : ℕ). bytes_eq name (key_name n)) (sym same) ∙ ap (λ (t : List ℕ). bytes_eq name t) (sym spelled) ∙ test
