-- Bytes that are no UTF-8 are no plain text; what is a text of a state is UTF-8.
use Rattle.std.proofs.Common.{◌≡◌, ℕ, true, false, List, refl, arith}
use Rattle.std.specs.Prelude.{◌&&◌}
use Rattle.std.specs.Str.{IsUtf8, is_utf8}
use Rattle.std.proofs.lemmas.Str.{IsUtf8-from_is_utf8}
use Rattle.cg_types.specs.Text.{plain, printable, IsStateText}

pub not_plain : (bytes : List ℕ) → (IsUtf8 bytes → ⊥) → plain bytes ≡ false
not_plain bytes refused =
    elim (is_utf8 bytes) as (λ b. is_utf8 bytes ≡ b → (b && printable bytes) ≡ false) [
      | true ↦ λ e. absurd (refused (IsUtf8-from_is_utf8 bytes e))
      | false ↦ λ e. refl
    ] refl

pub utf8_of_text : (bytes : List ℕ) → IsStateText bytes → IsUtf8 bytes
utf8_of_text bytes t = IsUtf8-from_is_utf8 bytes (grind arith)
