-- The turns of cutting.
use Rattle.std.proofs.Common.{◌≡◌, ℕ, ◌+◌, ◌<◌, ◌≤◌, List, [], ◌∷◌, ◌++◌, length, drop, Option, Some, None, Result, Ok, Err, refl, sym, ap, subst, ◌∙◌, arith, length-drop, append_assoc, append-nil}
use Rattle.std.specs.Prelude.{IsErr}
use Rattle.std.proofs.lemmas.List.{drop-drop}
use Rattle.cg_types.specs.declared.fault.Fault.{Fault}
use Rattle.cg_messages.specs.declared.message.Message.{Message}
use Rattle.cg_frames.specs.declared.layout.Layout.{Layout}
use Rattle.cg_frames.specs.Reading.{size_of}
use Rattle.cg_frames.specs.Choosing.{expected_layout, frame_among}
use Rattle.cg_frames.specs.Feeding.{Standing, Cut, with_front, frames_in, IsCut}
use Rattle.cg_frames.proofs.FrameLemmas.{frame_parts}
use Rattle.cg_frames.proofs.FeedingLemmas.{frames_at, fed_nothing}

-- The progress of cutting.
pub record Progress (layouts : List Layout) (bytes : List ℕ) (messages : List Message) (taken : ℕ) : Type 0 where
  pub within : taken ≤ length bytes
  pub so_far : frames_in layouts bytes ≡ with_front messages (frames_in layouts (drop taken bytes))
  -- A fault at the start is met at once.
  pub first : IsErr (frame_among layouts bytes) → taken ≡ 0

none_err : (p : Message × ℕ) → IsErr {T = Option (Message × ℕ)} {E = Fault} (Ok (Some p)) → ⊥
none_err p err = absurd cc

module _ (layouts : List Layout) where
  pub some_taken : (xs : List ℕ) (p : Message × ℕ) → frame_among layouts xs ≡ Ok (Some p) → (0 < p.1) × (p.1 ≤ length xs)
  some_taken xs p some =
      let s = frame_parts (expected_layout layouts xs) xs p.0 p.1 some in
      let size : p.1 ≡ 4 + size_of xs = s.size in
      (omega arith, s.within)

  pub begun : (bytes : List ℕ) → Progress layouts bytes [] 0
  begun bytes = record { within = omega arith; so_far = refl; first = λ err. refl }

  -- Nothing is cut off after a fault at the start.
  pub still_faulty : (bytes : List ℕ) (messages : List Message) (taken : ℕ) → Progress layouts bytes messages taken
      → IsErr (frame_among layouts bytes) → IsErr (frame_among layouts (drop taken bytes))
  still_faulty bytes messages taken progress err = subst (λ n. IsErr (frame_among layouts (drop n bytes))) (sym (progress.first err)) err

  pub one_more : (bytes : List ℕ) (messages : List Message) (taken : ℕ) (message : Message) (size : ℕ) → Progress layouts bytes messages taken → frame_among layouts (drop taken bytes) ≡ Ok (Some (message, size)) → Progress layouts bytes (messages ++ message ∷ []) (taken + size)
  one_more bytes messages taken message size progress some =
      let fits = some_taken (drop taken bytes) (message, size) some in
      let within : taken ≤ length bytes = progress.within in
      record {
        within = omega (arith, fits.1, length-drop taken bytes);
        so_far = progress.so_far
            ∙ ap (with_front messages) (frames_at layouts (drop taken bytes) (Ok (Some (message, size))) some)
            ∙ ap (λ (c : Cut). with_front messages (with_front (message ∷ []) c)) (ap (frames_in layouts) (drop-drop size taken bytes))
            ∙ ap (λ (l : List Message). record { messages = l; rest = (frames_in layouts (drop (taken + size) bytes)).rest }) (sym (append_assoc messages (message ∷ []) (frames_in layouts (drop (taken + size) bytes)).messages));
        first = λ err. absurd (none_err (message, size) (subst (λ r. IsErr r) some (still_faulty bytes messages taken progress err)));
      }

  pub ends_in_none : (bytes : List ℕ) (messages : List Message) (taken : ℕ) → Progress layouts bytes messages taken → frame_among layouts (drop taken bytes) ≡ Ok None → IsCut layouts bytes messages taken None
  ends_in_none bytes messages taken progress none = record {
    within = progress.within;
    all = progress.so_far
        ∙ ap (with_front messages) (frames_at layouts (drop taken bytes) (Ok None) none)
        ∙ ap (λ (l : List Message). record { messages = l; rest = Ok (drop taken bytes) }) (append-nil messages);
  }

  pub ends_in_fault : (bytes : List ℕ) (messages : List Message) (taken : ℕ) (f : Fault) → Progress layouts bytes messages taken → frame_among layouts (drop taken bytes) ≡ Err f → IsCut layouts bytes messages taken (Some f)
  ends_in_fault bytes messages taken f progress is = record {
    within = progress.within;
    all = progress.so_far
        ∙ ap (with_front messages) (frames_at layouts (drop taken bytes) (Err f) is)
        ∙ ap (λ (l : List Message). record { messages = l; rest = Err f }) (append-nil messages);
  }

  not_held : (bytes : List ℕ) (r : Result (Option (Message × ℕ)) Fault) (messages : List Message) (held : List ℕ) → frame_among layouts bytes ≡ r → IsErr r
      → frames_in layouts bytes ≡ record { messages = messages; rest = Ok held } → ⊥
  not_held bytes (Ok x) messages held is err cut = absurd cc
  not_held bytes (Err f) messages held is err cut =
      let both : ◌≡◌ {A = Standing} (Err f) (Ok held) = ap (λ (c : Cut). c.rest) (sym (frames_at layouts bytes (Err f) is) ∙ cut) in
      cc both

  -- Cutting ends in a fault if the bytes begin with one.
  pub not_cut : (bytes : List ℕ) (messages : List Message) (taken : ℕ) → IsCut layouts bytes messages taken None → IsErr (frame_among layouts bytes) → ⊥
  not_cut bytes messages taken is err = not_held bytes (frame_among layouts bytes) messages (drop taken bytes) refl err is.all

  -- The empty chunk gives nothing.
  pub cut_nothing : (held piece : List ℕ) → length piece ≡ 0 → frame_among layouts held ≡ Ok None
      → frames_in layouts (held ++ piece) ≡ record { messages = []; rest = Ok held }
  cut_nothing held [] none partial = fed_nothing layouts (Ok held) partial
  cut_nothing held (b ∷ piece) some partial = absurd (omega arith)
