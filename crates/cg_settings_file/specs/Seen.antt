-- The settings as a clause reads them, and the rule of finding them.
use Rattle.std.specs.Prelude.{◌≡◌, ◌⊎◌, ⊤, List, ℕ, Option, Some, None, Result, Ok, Err, MatchResult, option_map, string_bytes}
use Rattle.std.specs.Borrow.{Bor}
use Rattle.cg_types.specs.declared.fault.Fault.{Fault}
use Rattle.cg_types.specs.declared.fault.Fault.TheVariants.{OutOfMemory, BadText}
use Rattle.cg_settings_file.specs.Settings.{ServeValue, TurnsValue}
use Rattle.cg_settings_file.specs.declared.settings.ServeSettings.{ServeSettings}
use Rattle.cg_workers.specs.declared.turns.Turns.{Turns}
use Rattle.cg_settings_file.specs.declared.stop.Stop.{Stop}
use Rattle.cg_settings_file.specs.declared.stop.Stop.TheVariants.{Memory, Key}
use Rattle.cg_settings_file.specs.declared.stop.Unset.{Unset}

abbrev pub turns_view : Turns → TurnsValue
turns_view t = record { rounds = t.rounds; exchanges = t.exchanges; interval = t.interval }

abbrev pub settings_view : ServeSettings → ServeValue
settings_view s = record {
  node = s.node;
  listen = s.listen;
  generation_file = string_bytes s.generation_file;
  journal = string_bytes s.journal;
  turns = turns_view s.turns;
  random = s.random;
}

-- The result is the expected value, or memory ran out before, or it is BadText and no value is expected.
abbrev pub Finds : {X Y : Type 0} → (X → Y) → Result X Fault → Option Y → Type 0
Finds view found due =
    MatchResult found (λ x. due ≡ Some (view x)) (λ f. (f ≡ OutOfMemory) ⊎ ((f ≡ BadText) × (due ≡ None)))

-- what ends the reading at a key whose value has this fault
abbrev pub stop_of : Bor (List ℕ) → Fault → Stop
stop_of key OutOfMemory = Memory
stop_of key fault = Key key

-- memory ran out, or this key is the one that is refused
abbrev pub IsStop : {Y : Type 0} → Result Y (List ℕ) → Stop → Type 0
IsStop due Memory = ⊤
IsStop due (Key key) = due ≡ Err key.now

-- The result is the expected value, or what ended the reading.
abbrev pub GivesOrStops : {X Y : Type 0} → (X → Y) → Result X Stop → Result Y (List ℕ) → Type 0
GivesOrStops view found due = MatchResult found (λ x. due ≡ Ok (view x)) (IsStop due)

-- The result is the expected value, or the key that is refused.
abbrev pub Names : {X Y : Type 0} → (X → Y) → Result X (Bor (List ℕ)) → Result Y (List ℕ) → Type 0
Names view found due = MatchResult found (λ x. due ≡ Ok (view x)) (λ key. due ≡ Err key.now)

-- the key that is told
abbrev pub told_key : Unset → Option (List ℕ)
told_key u = option_map string_bytes u.key

-- the fault of what ended the reading of a table, and its key if memory for it is not refused too
abbrev pub IsUnsetBy : Stop → Unset → Type 0
IsUnsetBy Memory u = (u.fault ≡ OutOfMemory) × (told_key u ≡ None)
IsUnsetBy (Key key) u =
    ((u.fault ≡ OutOfMemory) × (told_key u ≡ None)) ⊎ ((u.fault ≡ BadText) × (told_key u ≡ Some key.now))

-- memory ran out, and no key is told; or it is BadText, with the key that is refused, if it is of one
abbrev pub RefusesKey : {Y : Type 0} → Result Y (Option (List ℕ)) → Fault → Option (List ℕ) → Type 0
RefusesKey due fault key = ((fault ≡ OutOfMemory) × (key ≡ None)) ⊎ ((fault ≡ BadText) × (due ≡ Err key))

-- The result is the expected value, or the fault with its key.
abbrev pub Tells : {X Y : Type 0} → (X → Y) → Result X Unset → Result Y (Option (List ℕ)) → Type 0
Tells view found due = MatchResult found (λ x. due ≡ Ok (view x)) (λ u. RefusesKey due u.fault (told_key u))
