-- The generation that a file keeps.
use Rattle.std.specs.Prelude.{◌≡◌, ◌⊎◌, ℕ, true, false, List, Option, Some, None, Ok}
use Rattle.cg_types.specs.declared.fault.Fault.{Fault}
use Rattle.cg_types.specs.declared.fault.Fault.TheVariants as fault
use Rattle.cg_host.specs.declared.generation.TheConstants.{MOST}
use Rattle.cg_host.specs.Generation.{kept_generation_in}
use Rattle.cg_host.specs.Disk.{Call, Looked, Opened, HasBytes, Unfound}

module _ {F : Type 0} (did : Call F → Type 0) (remaining : F → Option (List ℕ)) (path : List ℕ) where
  -- the generation that the file's bytes are, or no file
  abbrev pub Holds : Option ℕ → Type 0
  Holds (Some generation) = (bytes : List ℕ) × HasBytes did remaining path MOST bytes × (kept_generation_in bytes ≡ Some generation)
  Holds None = did (Opened path (Ok None))

  -- the file can't be read, or its bytes are no generation
  abbrev pub HoldsNone : Fault → Type 0
  HoldsNone f =
      Unfound did remaining path MOST f
      ⊎ ((bytes : List ℕ) × HasBytes did remaining path MOST bytes × (kept_generation_in bytes ≡ None) × (f ≡ fault.BadText))

  -- the same of a path that leads to no FIFO
  pub record Stored (found : Option ℕ) : Type 0 where
    pub looked : did (Looked path false)
    pub holds : Holds found

  -- The path leads to a FIFO, or what it leads to holds no generation.
  abbrev pub Unstored : Fault → Type 0
  Unstored f = (did (Looked path true) × (f ≡ fault.ReadFault)) ⊎ (did (Looked path false) × HoldsNone f)
