-- Answers of a reader, beside the values that reading gives.
use Rattle.std.specs.Prelude.{◌≡◌, ℕ, ◌-◌, true, false, List, [], length, drop, Result, Ok, Err, IsOk, ◌==◌}
use Rattle.cg_types.specs.declared.fault.Cause.TheVariants as causes
use Rattle.cg_frames.specs.declared.misread.Misread.{Misread}
use Rattle.cg_frames.specs.declared.misread.ReadError.{ReadError}
use Rattle.cg_frames.specs.declared.misread.ReadError.TheVariants as errors
use Rattle.cg_frames.specs.Fields.{Field}

-- A reader gives exactly what reading gives, and is left after it.
abbrev pub Reads : {X Y : Type 0} → (X → Y) → Result X Misread → List ℕ → Field Y → Type 0
Reads view (Ok x) rest read = read ≡ Ok (view x, rest)
Reads view (Err m) rest read = read ≡ Err m

-- a field of which a part is kept
abbrev pub part_of_field : {X Y : Type 0} → (Y → X) → Field Y → Field X
part_of_field part (Ok y) = Ok (part y.0, y.1)
part_of_field part (Err m) = Err m

-- the bytes after a field
abbrev pub behind : {A : Type 0} → Field A → Result (List ℕ) Misread
behind (Ok x) = Ok x.1
behind (Err m) = Err m

-- A reader that keeps nothing goes as far as reading goes.
abbrev pub Passes : {X Y : Type 0} → Result X Misread → List ℕ → Field Y → Type 0
Passes (Ok x) rest read = behind read ≡ Ok rest
Passes (Err m) rest read = behind read ≡ Err m

-- A reader that needs memory gives what reading gives, unless memory ran out.
abbrev pub Fails : {Y : Type 0} → ReadError → Result Y Misread → Type 0
Fails errors.Memory read = Unit {0}
Fails (errors.Misread m) read = read ≡ Err m

abbrev pub GivesField : {X Y : Type 0} → (X → Y) → Result X ReadError → List ℕ → Field Y → Type 0
GivesField view (Ok x) rest read = read ≡ Ok (view x, rest)
GivesField view (Err e) rest read = Fails e read

-- Nothing is left, or the fault is a rest.
abbrev pub FindsEnd : {X : Type 0} → Result X Misread → List ℕ → Type 0
FindsEnd (Ok x) bytes = (length bytes == 0) ≡ true
FindsEnd (Err m) bytes = ((length bytes == 0) ≡ false) × (m ≡ record { cause = causes.Rest; left = length bytes })

-- A frame that passes the check is read, else reading has this fault.
abbrev pub Checks : {X Y : Type 0} → Result X Misread → Result Y Misread → Type 0
Checks (Ok x) read = IsOk read
Checks (Err m) read = read ≡ Err m

abbrev pub GivesWhole : {X Y : Type 0} → (X → Y) → Result X ReadError → Result Y Misread → Type 0
GivesWhole view (Ok x) read = read ≡ Ok (view x)
GivesWhole view (Err e) read = Fails e read

-- Of some bytes alone reading gives the same as of all, and leaves nothing of them; of all it leaves these.
abbrev pub GivesAlone : {A : Type 0} → Field A → List ℕ → Field A → Type 0
GivesAlone (Ok x) rest alone = (x.1 ≡ rest) × (alone ≡ Ok (x.0, []))
GivesAlone (Err m) rest alone = ⊥

-- the part of the bytes that is read, up to the rest
abbrev pub IsCutOut : {A : Type 0} → (List ℕ → Field A) → List ℕ → List ℕ → List ℕ → Type 0
IsCutOut read bytes rest part = GivesAlone (read bytes) rest (read part)

-- The bytes end with these.
abbrev pub IsEndOf : List ℕ → List ℕ → Type 0
IsEndOf bytes rest = drop (length bytes - length rest) bytes ≡ rest
