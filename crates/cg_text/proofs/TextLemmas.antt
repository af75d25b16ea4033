-- Bytes that are no text.
use Rattle.std.proofs.Common.{◌≡◌, ℕ, true, false, cond, List, Some, None, refl}
use Rattle.std.specs.Str.{IsUtf8, is_utf8}
use Rattle.std.proofs.lemmas.Str.{IsUtf8-from_is_utf8}
use Rattle.cg_text.specs.Words.{text_in}

pub no_text : (bytes : List ℕ) → (IsUtf8 bytes → ⊥) → text_in bytes ≡ None
unfolding text_in
no_text bytes refused =
    elim (is_utf8 bytes) as (λ b. is_utf8 bytes ≡ b → cond b (Some bytes) None ≡ None) [
      | true ↦ λ e. absurd (refused (IsUtf8-from_is_utf8 bytes e))
      | false ↦ λ e. refl
    ] refl
