-- Bytes as C sees them.
use Rattle.std.specs.Prelude.{ℕ, List, [], Option, Some, None, length}
use Rattle.std.specs.declared.vec.Vec.{Vec}
use Rattle.std.specs.declared.alloc.Global.{Global}

-- the bytes that are held
abbrev pub held_items : Option (Vec ℕ Global) → List ℕ
held_items None = []
held_items (Some v) = v.items

-- how many they are
abbrev pub items_length : Option (Vec ℕ Global) → ℕ
items_length held = length (held_items held)
