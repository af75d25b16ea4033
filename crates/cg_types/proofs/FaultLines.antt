-- The lines that need no memory.
use Rattle.std.proofs.Common.{◌≡◌, codes, refl}
use Rattle.std.specs.Fmt.{digits}
use Rattle.cg_types.specs.declared.fault.Fault.TheVariants.{OutOfMemory, ReadFault}
use Rattle.cg_types.specs.Fault.{fault_text}

pub out_of_memory_line : codes "fault 1 OutOfMemory\n" ≡ fault_text OutOfMemory
unfolding digits
out_of_memory_line = refl

pub read_fault_line : codes "fault 14 ReadFault\n" ≡ fault_text ReadFault
unfolding digits
read_fault_line = refl
