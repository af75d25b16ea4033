-- A counted link as contracts see it: the link, its counts, and its flushes.
use Rattle.std.specs.Prelude.{◌≡◌, ℕ, ◌<◌, ◌⊎◌, List, length, Bool, true, false, MatchResult, Result}
use Rattle.cg_links.specs.Counts.{more_by, one_more}
use Rattle.cg_links.specs.declared.counted.Counted.{Counted}

-- the link
abbrev pub link_of : {L : Type 0} → Counted L → L
link_of c = c.link

-- the number of its calls
abbrev pub calls_of : {L : Type 0} → Counted L → ℕ
calls_of c = c.calls

-- the number of its calls that failed
abbrev pub failed_of : {L : Type 0} → Counted L → ℕ
failed_of c = c.failed

-- the number of its writes that took none of their bytes
abbrev pub idle_of : {L : Type 0} → Counted L → ℕ
idle_of c = c.idle

-- `true` if no write took a byte since the last flush that did not fail
abbrev pub flushed_of : {L : Type 0} → Counted L → Bool
flushed_of c = c.flushed

-- no byte that was written waits for a flush
abbrev pub IsFlushed : {L : Type 0} → Counted L → Type 0
IsFlushed c = flushed_of c ≡ true

-- no call was counted, and nothing was written
pub record IsNew {L : Type 0} (c : Counted L) : Type 0 where
  pub calls : calls_of c ≡ 0
  pub failed : failed_of c ≡ 0
  pub idle : idle_of c ≡ 0
  pub flushed : IsFlushed c

-- k calls were made
pub record CountsCalls {L : Type 0} (old new : Counted L) (k : ℕ) : Type 0 where
  pub calls : calls_of new ≡ more_by k (calls_of old)

-- fewer than k calls were made
abbrev pub CountsFewer : {L : Type 0} → Counted L → Counted L → ℕ → Type 0
CountsFewer old new k = calls_of new < more_by k (calls_of old)

-- no call failed, and no write took none of its bytes
pub record KeepsCounts {L : Type 0} (old new : Counted L) : Type 0 where
  pub failed : failed_of new ≡ failed_of old
  pub idle : idle_of new ≡ idle_of old

-- one more call failed
pub record CountsFailed {L : Type 0} (old new : Counted L) : Type 0 where
  pub failed : failed_of new ≡ one_more (failed_of old)
  pub idle : idle_of new ≡ idle_of old

-- one more write took none of its bytes
pub record CountsIdle {L : Type 0} (old new : Counted L) : Type 0 where
  pub failed : failed_of new ≡ failed_of old
  pub idle : idle_of new ≡ one_more (idle_of old)

-- the change of counts by a read
abbrev pub CountsRead : {L E : Type 0} → Counted L → Counted L → Result ℕ E → Type 0
CountsRead old new r = MatchResult r (λ _. KeepsCounts old new) (λ _. CountsFailed old new)

-- the change of counts by a write
abbrev pub CountsWrite : {L E : Type 0} → Counted L → Counted L → Result ℕ E → List ℕ → Type 0
CountsWrite old new r buf = MatchResult r
    (λ n. ((0 < n ⊎ length buf ≡ 0) → KeepsCounts old new) × (n ≡ 0 → 0 < length buf → CountsIdle old new))
    (λ _. CountsFailed old new)

-- the change of counts by a flush
abbrev pub CountsFlush : {L T E : Type 0} → Counted L → Counted L → Result T E → Type 0
CountsFlush old new r = MatchResult r (λ _. KeepsCounts old new) (λ _. CountsFailed old new)

-- Bytes that a write took wait for a flush; a write that took none changes nothing of that.
abbrev pub AwaitsFlush : {L E : Type 0} → Counted L → Counted L → Result ℕ E → Type 0
AwaitsFlush old new r = MatchResult r
    (λ n. (n ≡ 0 → flushed_of new ≡ flushed_of old) × (0 < n → flushed_of new ≡ false))
    (λ _. flushed_of new ≡ flushed_of old)

-- A flush that does not fail leaves nothing that waits for one.
abbrev pub Flushes : {L T E : Type 0} → Counted L → Counted L → Result T E → Type 0
Flushes old new r = MatchResult r (λ _. IsFlushed new) (λ _. flushed_of new ≡ flushed_of old)
