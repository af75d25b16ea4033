-- A number that equal messages have in common.
use Rattle.std.specs.Prelude.{ℕ, ◌+◌, ◌*◌, ◌%◌, ◌^◌, fold}
use Rattle.std.specs.Int.{w32, to_be_bytes, from_be_bytes}
use Rattle.cg_types.specs.Numbers.{address_of, port_of}
use Rattle.cg_entry.specs.declared.digest.Digest.{Digest}
use Rattle.cg_entry.specs.Entry.{greatest}
use Rattle.cg_messages.specs.Values.{RequestValue}
use Rattle.cg_messages.specs.declared.owner_delta.OwnerDelta.{OwnerDelta}
use Rattle.cg_messages.specs.declared.message.Message.{Message}
use Rattle.cg_messages.specs.declared.message.Message.TheVariants.{Syn, Ack, Ack2}
use Rattle.cg_audit.specs.declared.hash.TheConstants.{FACTOR}

-- a hash with one more number
abbrev pub mixed : ℕ → ℕ → ℕ
mixed hash number = ((hash * FACTOR) % 2 ^ 64 + number) % 2 ^ 64

abbrev pub endpoint_number : ℕ → ℕ
endpoint_number e = (from_be_bytes w32 (to_be_bytes w32 (address_of e)) + port_of e) % 2 ^ 32

-- a hash with one more part of a message
abbrev pub hash_with_digest : ℕ → Digest → ℕ
hash_with_digest hash d = mixed (mixed hash (endpoint_number d.endpoint)) d.newest

abbrev pub hash_with_request : ℕ → RequestValue → ℕ
hash_with_request hash r = mixed (mixed hash (endpoint_number r.endpoint)) r.version

abbrev pub hash_with_delta : ℕ → OwnerDelta → ℕ
hash_with_delta hash d = mixed (mixed hash (endpoint_number d.endpoint)) (greatest d.delta.heartbeat d.delta.states)

-- the hash of a message's content
abbrev pub hash_of : Message → ℕ
hash_of (Syn syn) = fold hash_with_digest 1 syn.digests
hash_of (Ack ack) = fold hash_with_delta (fold hash_with_request 2 ack.requests) ack.deltas
hash_of (Ack2 ack2) = fold hash_with_delta 3 ack2.deltas
