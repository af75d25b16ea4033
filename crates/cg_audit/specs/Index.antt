-- Lists of messages that are found by their hashes.
use Rattle.std.specs.Prelude.{ℕ, suc, ◌≡◌, ◌<◌, ◌≤◌, ◌%◌, ◌↔◌, List, length, map, Contains, slice_index}
use Rattle.cg_messages.specs.declared.message.Message.{Message}
use Rattle.cg_audit.specs.Hash.{hash_of}

-- The greatest number of a bucket among this many first messages, or 0 if the bucket has none of them.
pub record IsLast (hashes : List ℕ) (buckets bucket first number : ℕ) : Type 0 where
  pub within : number ≤ first
  pub here : (place : ℕ) → number ≡ suc place → slice_index hashes place % buckets ≡ bucket
  pub none : (place : ℕ) → number ≤ place → place < first → slice_index hashes place % buckets ≡ bucket → ⊥

-- The hashes are those of the messages, each bucket has its last message, and each message the one before it.
pub record IsIndex (messages : List Message) (hashes last before : List ℕ) : Type 0 where
  pub some : 0 < length last
  pub hashed : map hash_of messages ≡ hashes
  pub as_many : length before ≡ length hashes
  pub ends : (bucket : ℕ) → bucket < length last
      → IsLast hashes (length last) bucket (length hashes) (slice_index last bucket)
  pub steps : (place : ℕ) → place < length hashes
      → IsLast hashes (length last) (slice_index hashes place % length last) place (slice_index before place)

-- The same messages are in both lists.
abbrev pub HaveTheSame : List Message → List Message → Type 0
HaveTheSame xs ys = (m : Message) → Contains xs m ↔ Contains ys m
