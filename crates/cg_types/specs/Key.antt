-- The names of the state keys.
use Rattle.std.specs.Prelude.{ℕ, ◌≡◌, ◌==◌, List, codes, if◌then◌else◌}
use Rattle.cg_types.specs.declared.limits.TheConstants.{STATUS_KEY, TOKENS_KEY}
use Rattle.cg_types.specs.Numbers.{IsKey}

-- the name of a key from 1 to 16
unfoldable pub key_name : ℕ → List ℕ
key_name k =
    if k == STATUS_KEY then codes "STATUS"
    else if k == TOKENS_KEY then codes "TOKENS"
    else if k == 3 then codes "LOAD"
    else if k == 4 then codes "SCHEMA"
    else if k == 5 then codes "DC"
    else if k == 6 then codes "RACK"
    else if k == 7 then codes "RELEASE_VERSION"
    else if k == 8 then codes "RPC_ADDRESS"
    else if k == 9 then codes "HOST_ID"
    else if k == 10 then codes "INTERNAL_IP"
    else if k == 11 then codes "NET_VERSION"
    else if k == 12 then codes "SEVERITY"
    else if k == 13 then codes "RPC_READY"
    else if k == 14 then codes "X1"
    else if k == 15 then codes "X2"
    else codes "X3"

-- keys with one name are one key
abbrev pub EachKeyHasItsName : Type 0
EachKeyHasItsName = (j k : ℕ) → IsKey j → IsKey k → key_name j ≡ key_name k → j ≡ k
