-- The settings and the generation that a life takes from files, its journal, and the faults that prevent it.
use Rattle.std.specs.Prelude.{◌≡◌, ◌<◌, ◌⊎◌, ℕ, true, false, List, ◌++◌, codes, Option, Some, None, Result, Ok, Err, IfSome}
use Rattle.cg_types.specs.declared.fault.Fault.{Fault}
use Rattle.cg_types.specs.declared.fault.Fault.TheVariants as fault
use Rattle.cg_history.specs.History.{HistoryValue}
use Rattle.cg_host.specs.Disk.{Call, Opened, Placed, Made, Compared, OpenedToLock, Locked, HasBytes, Unfound, Replaces, Unreplaced}
use Rattle.cg_host.specs.Generation.{kept_text_of}
use Rattle.cg_host.specs.Replacing.{aside_of}
use Rattle.cg_host.specs.Storing.{Stored, Unstored}
use Rattle.cg_settings_file.specs.Settings.{ServeValue, settings_in_bytes, settings_or_key_in_bytes}
use Rattle.cg_settings_file.specs.Seen.{RefusesKey}
use Rattle.cg_version.specs.Version.{generation_at_start}
use Rattle.cg_host.specs.declared.settings.TheConstants.{SETTINGS_MOST}

-- A settings file can't be read, or is missing.
abbrev pub IsUnreadable : {F : Type 0} → (Call F → Type 0) → (F → Option (List ℕ)) → List ℕ → Fault → Type 0
IsUnreadable did remaining path f =
    Unfound did remaining path SETTINGS_MOST f ⊎ ((f ≡ fault.ReadFault) × did (Opened path (Ok None)))

-- by the calls of a disk that were made, and the bytes that an open file has left or holds
module _ {F : Type 0} (did : Call F → Type 0) (remaining contents : F → Option (List ℕ)) (path : List ℕ) where
  -- ---- settings

  -- This file, the one of the generation and the journal are three.
  pub record AreApart (s : ServeValue) : Type 0 where
    pub generation : did (Compared path s.generation_file false)
    pub journal : did (Compared path s.journal false)
    pub both : did (Compared s.generation_file s.journal false)

  -- Two of them are one, of which one is at this key.
  abbrev pub AreShared : ServeValue → List ℕ → Type 0
  AreShared s key =
      ((key ≡ codes "generation_file") × did (Compared path s.generation_file true))
      ⊎ ((key ≡ codes "journal") × (did (Compared path s.journal true) ⊎ did (Compared s.generation_file s.journal true)))

  -- The bytes of the file, within the limit, hold these settings, by which no two files are one.
  pub record Settles (s : ServeValue) : Type 0 where
    pub bytes : List ℕ
    pub are : HasBytes did remaining path SETTINGS_MOST bytes
    pub hold : settings_in_bytes bytes ≡ Some s
    pub apart : AreApart s

  -- They hold settings by which two files are one; the key is told, or memory ran out.
  pub record IsShared (f : Fault) (key : Option (List ℕ)) : Type 0 where
    pub bytes : List ℕ
    pub are : HasBytes did remaining path SETTINGS_MOST bytes
    pub settings : ServeValue
    pub hold : settings_in_bytes bytes ≡ Some settings
    pub at : List ℕ
    pub shared : AreShared settings at
    pub is : ((f ≡ fault.OutOfMemory) × (key ≡ None)) ⊎ ((f ≡ fault.BadText) × (key ≡ Some at))

  -- The bytes of the file hold no settings, and the key is told that they are refused by; or memory ran out.
  pub record HoldsNone (f : Fault) (key : Option (List ℕ)) : Type 0 where
    pub bytes : List ℕ
    pub are : HasBytes did remaining path SETTINGS_MOST bytes
    pub caused : RefusesKey (settings_or_key_in_bytes bytes) f key

  -- The file can't be read or is missing, and no key is told; or it holds no settings by which the files are three.
  abbrev pub Unsettled : Fault → Option (List ℕ) → Type 0
  Unsettled f key =
      ((key ≡ None) × IsUnreadable did remaining path f)
      ⊎ (HoldsNone f key ⊎ IsShared f key)

  -- ---- a generation, by the one that was stored and the seconds since 1970

  -- Stored next, or why not.
  abbrev pub StoresNext : Option ℕ → ℕ → Result ℕ Fault → Type 0
  StoresNext stored seconds (Ok g) =
      (generation_at_start stored seconds ≡ Ok g) × Replaces did contents path (kept_text_of g)
  StoresNext stored seconds (Err f) =
      (generation_at_start stored seconds ≡ Err f)
      ⊎ ((g : ℕ) × (generation_at_start stored seconds ≡ Ok g) × ((f ≡ fault.OutOfMemory) ⊎ Unreplaced did path f))

  -- the file beside it that is locked
  abbrev pub lock_path : List ℕ
  lock_path = path ++ codes ".lock"

  -- Under its lock, if there is one, the file was read, and the generation of a start was stored in it; or it could not
  -- be.
  pub record Advances (next : Result ℕ Fault) : Type 0 where
    pub lock : Option F
    pub opened : did (OpenedToLock lock_path lock)
    pub locked : IfSome lock (λ l. did (Locked l true))
    pub stored : Option ℕ
    pub was : Stored did remaining path stored
    pub seconds : ℕ
    pub is : StoresNext stored seconds next

  -- another has the lock
  pub record IsHeld (f : Fault) : Type 0 where
    pub lock : F
    pub opened : did (OpenedToLock lock_path (Some lock))
    pub held : did (Locked lock false)
    pub is : f ≡ fault.ReadFault

  abbrev pub IsUnkept : Fault → Type 0
  IsUnkept f = (f ≡ fault.OutOfMemory) ⊎ (IsHeld f ⊎ (Unstored did remaining path f ⊎ Advances (Err f)))

-- ---- a journal

-- A record of the history is folded, or the file could not be replaced.
abbrev pub Unwritten : {F : Type 0} → (Call F → Type 0) → List ℕ → HistoryValue → Fault → Type 0
Unwritten did path h f =
    ((h.folded ≡ 0) × Unreplaced did path f) ⊎ ((0 < h.folded) × (f ≡ fault.Folded))

-- A new file was made beside the one that the path leads to.
pub record IsTried {F : Type 0} (did : Call F → Type 0) (path : List ℕ) : Type 0 where
  pub place : List ℕ
  pub placed : did (Placed path (Ok place))
  pub new : F
  pub made : did (Made (aside_of place) place (Ok new))
