-- The calls of a disk, and what reading and replacing a file are by these.
use Rattle.std.specs.Prelude.{◌≡◌, ◌⊎◌, ◌≤◌, ◌<◌, ℕ, Bool, List, length, Option, Some, None, Result, Ok, Err, IfSome}
use Rattle.std.specs.Io.KnownBytes.{Appends}
use Rattle.cg_types.specs.declared.fault.Fault.{Fault}
use Rattle.cg_types.specs.declared.fault.Fault.TheVariants as fault
use Rattle.cg_host.specs.Replacing.{aside_of}

abbrev pub IsWritingFault : Fault → Type 0
IsWritingFault f = (f ≡ fault.OutOfMemory) ⊎ (f ≡ fault.WriteFault)

abbrev pub IsOpeningFault : Fault → Type 0
IsOpeningFault f = (f ≡ fault.OutOfMemory) ⊎ (f ≡ fault.ReadFault)

-- a call, and its answer
pub data Call (F : Type 0) : Type 0 where
  Looked : List ℕ → Bool → Call F
  Opened : List ℕ → Result (Option F) Fault → Call F
  Placed : List ℕ → Result (List ℕ) Fault → Call F
  Made : List ℕ → List ℕ → Result F Fault → Call F
  Synced : F → Result (Unit {0}) Fault → Call F
  Renamed : List ℕ → List ℕ → Result (Unit {0}) Fault → Call F
  FolderSynced : List ℕ → Result (Unit {0}) Fault → Call F
  Compared : List ℕ → List ℕ → Bool → Call F
  OpenedToLock : List ℕ → Option F → Call F
  Locked : F → Bool → Call F

-- ---- by the calls that were made, and the bytes that an open file has left or holds

module _ {F : Type 0} (did : Call F → Type 0) (remaining : F → Option (List ℕ)) (path : List ℕ) (most : ℕ) where
  -- These are all bytes of the file, no more than the limit.
  pub record HasBytes (bytes : List ℕ) : Type 0 where
    pub file : F
    pub opened : did (Opened path (Ok (Some file)))
    pub few : length bytes ≤ most
    pub all : IfSome (remaining file) (λ known. bytes ≡ known)

  -- the bytes of the file, or no file
  abbrev pub Found : Option (List ℕ) → Type 0
  Found (Some bytes) = HasBytes bytes
  Found None = did (Opened path (Ok None))

  -- The file was opened, and its bytes are over the limit, can't be read or find no memory.
  pub record IsUnread (f : Fault) : Type 0 where
    pub file : F
    pub opened : did (Opened path (Ok (Some file)))
    pub caused : (f ≡ fault.OutOfMemory)
        ⊎ ((f ≡ fault.ReadFault) ⊎ ((f ≡ fault.BadText) × IfSome (remaining file) (λ known. most < length known)))

  -- the file can't be opened, or not be read
  abbrev pub Unfound : Fault → Type 0
  Unfound f = (IsOpeningFault f × did (Opened path (Err f))) ⊎ IsUnread f

module _ {F : Type 0} (did : Call F → Type 0) where
  -- The new file at `aside` was synced and renamed to `path`, whose folder was synced.
  pub record Puts (file : F) (aside path : List ℕ) : Type 0 where
    pub synced : did (Synced file (Ok tt))
    pub renamed : did (Renamed aside path (Ok tt))
    pub kept : did (FolderSynced path (Ok tt))

  -- A new file was made beside the one that the path leads to, got this text, and was put in its place.
  pub record Replaces (contents : F → Option (List ℕ)) (path text : List ℕ) : Type 0 where
    pub place : List ℕ
    pub placed : did (Placed path (Ok place))
    pub new : F
    pub made : did (Made (aside_of place) place (Ok new))
    pub filled : F
    pub holds : Appends (contents new) (contents filled) text
    pub put : Puts filled (aside_of place) place

  -- The file that the path leads to was looked for; writing failed, or memory was refused.
  pub record Unreplaced (path : List ℕ) (f : Fault) : Type 0 where
    pub place : Result (List ℕ) Fault
    pub placed : did (Placed path place)
    pub is : IsWritingFault f
