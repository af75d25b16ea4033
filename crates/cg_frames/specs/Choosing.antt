-- The layout of a list that a frame is read in: the byte after the length names it.
use Rattle.std.specs.Prelude.{◌≡◌, ℕ, ◌<◌, ◌==◌, List, length, Option, Some, None, Result, Ok, slice_get, nat_lt, if◌then◌else◌}
use Rattle.std.specs.List.{find, reduce, AllByRecursion}
use Rattle.std.specs.Option.{unwrap_or}
use Rattle.cg_types.specs.declared.fault.Fault.{Fault}
use Rattle.cg_messages.specs.declared.message.Message.{Message}
use Rattle.cg_frames.specs.declared.layout.Layout.{Layout}
use Rattle.cg_frames.specs.declared.layout.TheConstants.{LAYOUT_1}
use Rattle.cg_frames.specs.Layouts.{IsLayout, IsRead}
use Rattle.cg_frames.specs.Reading.{frame_at}

-- the layout that a byte names: the first of the list that has it
abbrev pub layout_with_byte : List Layout → ℕ → Option Layout
layout_with_byte layouts byte = find (λ layout. layout.byte == byte) layouts

-- the one with the longer frames; the first if both are as long
abbrev pub wider : Layout → Layout → Layout
wider a b = if nat_lt a.length b.length then b else a

-- The layout with the longest frames. Of no layouts it is LAYOUT_1, so that there always is one.
abbrev pub widest : List Layout → Layout
widest layouts = unwrap_or (reduce wider layouts) LAYOUT_1

-- the expected layout by the byte after the length, if it has come
abbrev pub expected_by : List Layout → Option ℕ → Layout
expected_by layouts (Some byte) = unwrap_or (layout_with_byte layouts byte) (widest layouts)
expected_by layouts None = widest layouts

-- The expected layout: the one that the byte after the length names; if it names none, or none has come yet, the one
-- with the longest frames.
unfoldable pub expected_layout : List Layout → List ℕ → Layout
expected_layout layouts bytes = expected_by layouts (slice_get bytes 4)

-- The frame at the start of the bytes in the expected layout, and its length; None if more bytes are needed.
abbrev pub frame_among : List Layout → List ℕ → Result (Option (Message × ℕ)) Fault
frame_among layouts bytes = frame_at (expected_layout layouts bytes) bytes

-- More bytes are needed: the bytes begin with neither a whole frame nor a fault.
abbrev pub NeedsMore : List Layout → List ℕ → Type 0
NeedsMore layouts bytes = frame_among layouts bytes ≡ Ok None

-- The layout is one of the list: its byte names it.
abbrev pub IsOneOf : List Layout → Layout → Type 0
IsOneOf layouts layout = layout_with_byte layouts layout.byte ≡ Some layout

-- One layout at least; each is the one that its byte names, and its limits and greatest frame fit into their fields.
pub record AreLayouts (layouts : List Layout) : Type 0 where
  pub some : 0 < length layouts
  pub found : AllByRecursion (IsOneOf layouts) layouts
  pub each : AllByRecursion IsLayout layouts

-- One layout at least; messages hold what each allows.
pub record AreRead (layouts : List Layout) : Type 0 where
  pub some : 0 < length layouts
  pub each : AllByRecursion IsRead layouts
