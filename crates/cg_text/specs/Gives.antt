-- Results of calls that may run out of memory before they know the expected result.
use Rattle.std.specs.Prelude.{◌≡◌, ◌⊎◌, Option, Some, None, Result, Ok, Err, MatchResult}
use Rattle.cg_types.specs.declared.fault.Fault.{Fault}
use Rattle.cg_types.specs.declared.fault.Fault.TheVariants.{OutOfMemory, BadText}

-- The call returns the expected result, unless memory ran out first.
abbrev pub Gives : {X Y : Type 0} → (X → Y) → Result X Fault → Result Y Fault → Type 0
Gives view r due = MatchResult r (λ x. due ≡ Ok (view x)) (λ f. (f ≡ OutOfMemory) ⊎ (due ≡ Err f))

-- a value, or nothing if it is refused
abbrev pub readable : {A E : Type 0} → Result A E → Option A
readable (Ok x) = Some x
readable (Err e) = None

-- The value is read if the bytes have one, and refused as BadText if not. Memory may run out before that.
abbrev pub Finds : {X Y : Type 0} → (X → Y) → Result X Fault → Option Y → Type 0
Finds view r due = MatchResult r (λ x. due ≡ Some (view x)) (λ f. (f ≡ OutOfMemory) ⊎ ((f ≡ BadText) × (due ≡ None)))
