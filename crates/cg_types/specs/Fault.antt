-- The numbers and names of faults, the names of causes, and the texts of faults.
use Rattle.std.specs.Prelude.{ℕ, List, ◌++◌, codes, decimal}
use Rattle.cg_types.specs.declared.fault.Cause.{Cause}
use Rattle.cg_types.specs.declared.fault.Cause.TheVariants as cause
use Rattle.cg_types.specs.declared.fault.Fault.{Fault}
use Rattle.cg_types.specs.declared.fault.Fault.TheVariants as fault

-- the cause's name
abbrev pub cause_name : Cause → List ℕ
cause_name cause.Length = codes "Length"
cause_name cause.Short = codes "Short"
cause_name cause.Layout = codes "Layout"
cause_name cause.Kind = codes "Kind"
cause_name cause.Name = codes "Name"
cause_name cause.Count = codes "Count"
cause_name cause.Endpoint = codes "Endpoint"
cause_name cause.Order = codes "Order"
cause_name cause.Generation = codes "Generation"
cause_name cause.Version = codes "Version"
cause_name cause.Above = codes "Above"
cause_name cause.Heartbeat = codes "Heartbeat"
cause_name cause.Key = codes "Key"
cause_name cause.Text = codes "Text"
cause_name cause.Empty = codes "Empty"
cause_name cause.Rest = codes "Rest"
cause_name cause.Unexpected = codes "Unexpected"

-- the fault's number
abbrev pub fault_number : Fault → ℕ
fault_number fault.OutOfMemory = 1
fault_number fault.BadText = 2
fault_number fault.TooLong = 3
fault_number fault.VersionsSpent = 4
fault_number fault.TableFull = 8
fault_number fault.OtherCluster = 9
fault_number fault.NoSuchMessage = 10
fault_number fault.NotRising = 11
fault_number (fault.BadFrame place why) = 12
fault_number fault.Truncated = 13
fault_number fault.ReadFault = 14
fault_number fault.WriteFault = 15
fault_number fault.Stranger = 16
fault_number fault.Stuck = 17
fault_number fault.Folded = 18
fault_number fault.NoSuchNode = 19
fault_number fault.NoSuchKey = 20

-- the fault's name
abbrev pub fault_name : Fault → List ℕ
fault_name fault.OutOfMemory = codes "OutOfMemory"
fault_name fault.BadText = codes "BadText"
fault_name fault.TooLong = codes "TooLong"
fault_name fault.VersionsSpent = codes "VersionsSpent"
fault_name fault.TableFull = codes "TableFull"
fault_name fault.OtherCluster = codes "OtherCluster"
fault_name fault.NoSuchMessage = codes "NoSuchMessage"
fault_name fault.NotRising = codes "NotRising"
fault_name (fault.BadFrame place why) = codes "BadFrame"
fault_name fault.Truncated = codes "Truncated"
fault_name fault.ReadFault = codes "ReadFault"
fault_name fault.WriteFault = codes "WriteFault"
fault_name fault.Stranger = codes "Stranger"
fault_name fault.Stuck = codes "Stuck"
fault_name fault.Folded = codes "Folded"
fault_name fault.NoSuchNode = codes "NoSuchNode"
fault_name fault.NoSuchKey = codes "NoSuchKey"

-- the text of a fault: its number and name, and of a bad frame its offset and cause
abbrev pub fault_shown : Fault → List ℕ
fault_shown (fault.BadFrame place why) = codes "12 BadFrame " ++ (decimal place ++ (codes " " ++ cause_name why))
fault_shown f = decimal (fault_number f) ++ (codes " " ++ fault_name f)

-- the line that says the fault
abbrev pub fault_text : Fault → List ℕ
fault_text f = codes "fault " ++ (fault_shown f ++ codes "\n")
