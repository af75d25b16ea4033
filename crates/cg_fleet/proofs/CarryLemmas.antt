-- Lemmas on messages that pass through their frames.
use Rattle.std.proofs.Common.{ℕ, ◌≡◌, List, [], length, Option, Some, Ok, sym, ◌∙◌}
use Rattle.std.proofs.lemmas.List.{append-nil}
use Rattle.cg_types.specs.Answer.{Answers}
use Rattle.cg_messages.specs.declared.message.Message.{Message}
use Rattle.cg_frames.specs.declared.layout.TheConstants.{LAYOUTS, WRITTEN}
use Rattle.cg_frames.specs.Choosing.{IsOneOf}
use Rattle.cg_frames.specs.Fits.{Fits}
use Rattle.cg_frames.specs.Laws.{GivesEachSpelled}
use Rattle.cg_frames.specs.Spelling.{frame}

pub found_is : {X : Type 0} (due found : X) → Answers {X = Option X} {Y = Option X} (λ x. x) (Ok (Some due)) (Ok (Some found)) → found ≡ due
found_is due found is = cc

-- the bytes of a frame are read as its message
pub read_back : (m : Message) (bytes : List ℕ) (found : Message × ℕ)
    → IsOneOf LAYOUTS WRITTEN → Fits WRITTEN m → bytes ≡ frame WRITTEN m → GivesEachSpelled LAYOUTS bytes (Ok (Some found))
    → found ≡ (m, length (frame WRITTEN m))
read_back m bytes found one fits is gives =
    found_is (m, length (frame WRITTEN m)) found
    (gives WRITTEN m [] one fits (is ∙ sym (append-nil (frame WRITTEN m))))
