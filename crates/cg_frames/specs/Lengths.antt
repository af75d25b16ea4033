-- The most bytes that a spelling has, by the limits of its layout.
use Rattle.std.specs.Prelude.{ℕ, ◌+◌, ◌*◌, max}
use Rattle.cg_types.specs.declared.limits.TheConstants.{NAME_LIMIT, STATE_LIMIT}
use Rattle.cg_frames.specs.declared.layout.Layout.{Layout}

-- a key, a version, a length and a text
abbrev pub state_most : Layout → ℕ
state_most layout = 7 + layout.text

-- an endpoint, a generation, two versions, a count and the states
abbrev pub delta_most : Layout → ℕ
delta_most layout = 19 + STATE_LIMIT * state_most layout

-- a count and the deltas
abbrev pub deltas_most : Layout → ℕ
deltas_most layout = 2 + layout.members * delta_most layout

-- a count and the digests; a request has 14 bytes, as a digest has
abbrev pub digests_most : Layout → ℕ
digests_most layout = 2 + layout.members * 14

-- the body of a SYN: a name with its length, a partitioner and digests
abbrev pub syn_most : Layout → ℕ
syn_most layout = 2 + NAME_LIMIT + digests_most layout

-- the body of an ACK: requests and deltas; an ACK2 has no requests
abbrev pub ack_most : Layout → ℕ
ack_most layout = digests_most layout + deltas_most layout

-- the bytes after the length of a frame: the layout's byte, the kind and a body
abbrev pub greatest_length : Layout → ℕ
greatest_length layout = 2 + max (syn_most layout) (ack_most layout)
