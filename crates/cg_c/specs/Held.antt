-- What a handle owns: the memory behind its pointer, and the right to free it. A handle that holds nothing is null.
use base.Fml.{Fml, feq}
use denote.RattleType.{RattleType}
use denote.RawPtr.{Ptr, null_ptr}
use denote.Builtin.{u8}
use Rattle.std.specs.Prelude.{Option, Some, None}
use Rattle.libc.specs.Heap.{chunk}
use Rattle.std_alloc.specs.Box.Ownership.{box_owns}
use Rattle.std_alloc.specs.declared.boxed.Box.{Box}
use Rattle.std_alloc.specs.contracts.vec.Vec as vec
use Rattle.std.specs.contracts.alloc.Global as heap
use Rattle.std.specs.contracts.impls.GlobalAllocator.TheImpl.{ghosts}
use Rattle.cg_c.specs.declared.loose.Loose.{Loose}

abbrev pub held : (R : RattleType) → Ptr → Option R.Denot → Fml
held R p None = feq Ptr p null_ptr
held R p (Some x) = box_owns chunk R p x

-- a Vec<u8>
abbrev pub bytes_row : RattleType
bytes_row = vec.the_row u8 heap.the_row ghosts

module _ {X Z : Type 0} where
  -- what lies in a box, if there is one
  abbrev pub in_box : Option (Box X Z) → Option X
  in_box None = None
  in_box (Some it) = Some it.value

  -- what lies behind a pointer, if there is one
  abbrev pub in_loose : Option (Loose X Z) → Option X
  in_loose None = None
  in_loose (Some it) = Some it.value
