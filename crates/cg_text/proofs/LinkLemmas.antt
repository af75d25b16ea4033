-- Bytes read and written when no call of a link failed.
use Rattle.std.proofs.Common.{◌≡◌, ℕ, ◌⊎◌, inl, inr, List, ◌++◌, Option, Some, None, sym, ap, ◌∙◌, append-nil, arith}
use Rattle.std.specs.Io.KnownBytes.{Consumes, IsAtEnd}
use Rattle.cg_links.specs.declared.counted.Counted.{Counted}
use Rattle.cg_links.specs.declared.transfer.TheConstants.{MOST_READS}
use Rattle.cg_links.specs.Counted.{failed_of, idle_of, CountsFewer, CountsCalls, CountsFailed, CountsIdle}
use Rattle.cg_text.specs.Written.{WroteAll, Wrote, WroteOut}

-- all bytes of the input were read
pub all_read : (input bytes : List ℕ) (after : Option (List ℕ)) → Consumes (Some input) after bytes → IsAtEnd after → bytes ≡ input
all_read input bytes None read end = absurd read
all_read input bytes (Some rest) read end = sym (read ∙ ap (λ (l : List ℕ). bytes ++ l) end ∙ append-nil bytes)

-- a link with no failed call, on which fewer than `MOST_READS` were made, has neither cause of a read fault
pub never_unread : {R : Type 0} (r0 r1 : Counted R) → failed_of r1 ≡ 0 → CountsFewer r0 r1 MOST_READS → CountsFailed r0 r1 ⊎ CountsCalls r0 r1 MOST_READS → ⊥
never_unread r0 r1 f few (inl failed) = omega (arith, failed.failed)
never_unread r0 r1 f few (inr made) = omega (arith, few, made.calls)

-- a writer with no failed call and no idle write has neither cause of a write fault
pub never_broken : {W : Type 0} (w0 w1 : Counted W) → failed_of w1 ≡ 0 → idle_of w1 ≡ 0 → CountsFailed w0 w1 ⊎ CountsIdle w0 w1 → ⊥
never_broken w0 w1 f i (inl failed) = omega (arith, failed.failed)
never_broken w0 w1 f i (inr idle) = omega (arith, idle.idle)

pub all_written : {W : Type 0} (held holds : Option (List ℕ)) (w0 w1 : Counted W) (text : List ℕ) (status result : ℕ) → Wrote held holds w0 w1 text status result
    → failed_of w1 ≡ 0 → idle_of w1 ≡ 0 → WroteAll held holds w0 w1 text status result
all_written held holds w0 w1 text status result (inl all) f i = all
all_written held holds w0 w1 text status result (inr front) f i = absurd (never_broken w0 w1 f i front.caused)

pub wrote_out : {W : Type 0} (held holds : Option (List ℕ)) (w0 w1 : Counted W) (text : List ℕ) (status result : ℕ) → WroteOut held holds w0 w1 text status result
    → Wrote held holds w0 w1 text status result
wrote_out held holds w0 w1 text status result (inl all) = inl all.0
wrote_out held holds w0 w1 text status result (inr front) = inr front
