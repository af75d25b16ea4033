-- Plain text, and the texts of states and clusters.
use Rattle.std.specs.Prelude.{ℕ, ◌<◌, ◌≤◌, ◌≡◌, Bool, true, ◌&&◌, not, nat_le, nat_lt, ◌==◌, List, length, Result, Ok, Err, if◌then◌else◌, refl}
use Rattle.cg_types.specs.declared.fault.Fault.{Fault}
use Rattle.cg_types.specs.declared.fault.Fault.TheVariants.{TooLong, BadText}
use Rattle.std.specs.Coded.{Coded, code_by, coded×, coded_ℕ, coded_list}
use Rattle.std.specs.List.{list_all}
use Rattle.std.specs.Str.{is_utf8}
use Rattle.cg_types.specs.declared.limits.TheConstants.{TEXT_LIMIT, NAME_LIMIT}

abbrev pub printable : List ℕ → Bool
printable text = list_all (λ b. nat_le 32 b && not (b == 127)) text

-- UTF-8 with no control characters
abbrev pub plain : List ℕ → Bool
plain text = is_utf8 text && printable text

pub record IsStateText (text : List ℕ) : Type 0 where
  pub is_plain : plain text ≡ true
  pub fits : length text ≤ TEXT_LIMIT

pub record IsClusterName (name : List ℕ) : Type 0 where
  pub is_plain : plain name ≡ true
  pub some : 0 < length name
  pub fits : length name ≤ NAME_LIMIT

-- a cluster's name, and the number of its partitioner
pub record ClusterValue : Type 0 where
  pub name : List ℕ
  pub partitioner : ℕ

-- the code that models of values with a cluster require
abbrev pub cluster_code : Coded ClusterValue
cluster_code =
    code_by (List ℕ × ℕ) (coded× (coded_list coded_ℕ) coded_ℕ) (λ c. (c.name, c.partitioner))
    (λ p. record { name = p.0; partitioner = p.1 }) (λ _. refl)

pub record IsCluster (c : ClusterValue) : Type 0 where
  pub is_named : IsClusterName c.name
  pub is_byte : c.partitioner < 256

-- the expected answer for a text of a state: itself, or why it is refused
abbrev pub state_text_of : List ℕ → Result (List ℕ) Fault
state_text_of text =
    if nat_lt TEXT_LIMIT (length text) then Err TooLong
    else if plain text then Ok text else Err BadText

-- the expected answer for a cluster's name and partitioner
abbrev pub cluster_of : List ℕ → ℕ → Result ClusterValue Fault
cluster_of name partitioner =
    if nat_lt NAME_LIMIT (length name) then Err TooLong
    else if length name == 0 then Err BadText
    else if plain name then Ok (record { name = name; partitioner = partitioner }) else Err BadText
