-- The settings that a node takes from a file which runs until it is stopped.
use Rattle.std.specs.Prelude.{◌≡◌, ◌⊎◌, ℕ, true, false, List, codes, Option, Some, None, Ok}
use Rattle.cg_types.specs.declared.fault.Fault.{Fault}
use Rattle.cg_types.specs.declared.fault.Fault.TheVariants as fault
use Rattle.cg_host.specs.Disk.{Call, Compared, HasBytes}
use Rattle.cg_host.specs.Kept.{IsUnreadable}
use Rattle.cg_settings_file.specs.Agent.{AgentValue, agent_or_key_in_bytes}
use Rattle.cg_settings_file.specs.Seen.{RefusesKey}
use Rattle.cg_host.specs.declared.settings.TheConstants.{SETTINGS_MOST}

-- by the calls of a disk that were made, and the bytes that an open file has left
module _ {F : Type 0} (did : Call F → Type 0) (remaining : F → Option (List ℕ)) (path : List ℕ) where
  -- The bytes of the file, within the limit, hold these settings, by which the generation's file is another one.
  pub record AgentSettles (s : AgentValue) : Type 0 where
    pub bytes : List ℕ
    pub are : HasBytes did remaining path SETTINGS_MOST bytes
    pub hold : agent_or_key_in_bytes bytes ≡ Ok s
    pub apart : did (Compared path s.generation_file false)

  -- They hold settings by which the generation's file is this one; the key is told, or memory ran out.
  pub record AgentIsShared (f : Fault) (key : Option (List ℕ)) : Type 0 where
    pub bytes : List ℕ
    pub are : HasBytes did remaining path SETTINGS_MOST bytes
    pub settings : AgentValue
    pub hold : agent_or_key_in_bytes bytes ≡ Ok settings
    pub shared : did (Compared path settings.generation_file true)
    pub is : ((f ≡ fault.OutOfMemory) × (key ≡ None))
        ⊎ ((f ≡ fault.BadText) × (key ≡ Some (codes "generation_file")))

  -- The bytes of the file hold no settings, and the key is told that they are refused by; or memory ran out.
  pub record AgentHoldsNone (f : Fault) (key : Option (List ℕ)) : Type 0 where
    pub bytes : List ℕ
    pub are : HasBytes did remaining path SETTINGS_MOST bytes
    pub caused : RefusesKey (agent_or_key_in_bytes bytes) f key

  -- The file can't be read or is missing, and no key is told; or it holds no settings by which the files are two.
  abbrev pub AgentUnsettled : Fault → Option (List ℕ) → Type 0
  AgentUnsettled f key =
      ((key ≡ None) × IsUnreadable did remaining path f)
      ⊎ (AgentHoldsNone f key ⊎ AgentIsShared f key)
