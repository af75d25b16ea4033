-- All bytes are the spellings of the messages that they are cut into, and then a rest.
use Rattle.std.proofs.Common.{◌≡◌, ℕ, zero, suc, ◌+◌, ◌≤◌, List, [], ◌∷◌, ◌++◌, length, drop, Option, Some, None, Result, Ok, Err, refl, sym, ap, ◌∙◌, subst, arith, length-drop, append_assoc}
use Rattle.std.specs.List.{flat_map}
use Rattle.std.proofs.lemmas.List.{take-append-drop}
use Rattle.std.proofs.lemmas.List.Concat.{flat_map-cons}
use Rattle.cg_types.specs.declared.fault.Fault.{Fault}
use Rattle.cg_messages.specs.declared.message.Message.{Message}
use Rattle.cg_frames.specs.declared.layout.Layout.{Layout}
use Rattle.cg_frames.specs.Reading.{size_of}
use Rattle.cg_frames.specs.Choosing.{expected_layout, frame_among, AreRead}
use Rattle.cg_frames.specs.Spelling.{frame}
use Rattle.cg_frames.specs.Feeding.{cut_by, frames_in, spelling, IsSpellable, Splits}
use Rattle.cg_frames.specs.Laws.{AreBytes}
use Rattle.cg_frames.proofs.FrameLemmas.{frame_parts}
use Rattle.cg_frames.proofs.ReadIsSpelledLemmas.{later_bytes}
use Rattle.cg_frames.proofs.ReadIsSpelledFrames.{found_among}
use Rattle.cg_frames.proofs.FeedingLemmas.{frames_by}

module _ (layouts : List Layout) (are : AreRead layouts) where
  front_found : (xs : List ℕ) (p : Message × ℕ) → AreBytes xs → frame_among layouts xs ≡ Ok (Some p) → (layout : Layout) × (xs ≡ frame layout p.0 ++ drop p.1 xs) × IsSpellable layouts (layout, p.0)
  front_found xs p bytes read =
      let f = found_among layouts are xs p.0 p.1 bytes read in
      (f.0, sym (take-append-drop p.1 xs) ∙ ap (λ (l : List ℕ). l ++ drop p.1 xs) f.2.spelled, (f.1, f.2.fits))

  splits_by : (xs : List ℕ) (r : Result (Option (Message × ℕ)) Fault) → AreBytes xs → frame_among layouts xs ≡ r
      → ((p : Message × ℕ) → r ≡ Ok (Some p) → Splits layouts (drop p.1 xs) (frames_in layouts (drop p.1 xs)))
      → Splits layouts xs (cut_by (frames_in layouts) xs r)
  splits_by xs (Err f) bytes is next = record { spelled = []; rest = xs; messages = refl; whole = refl; fit = tt; stands = is }
  splits_by xs (Ok None) bytes is next = record { spelled = []; rest = xs; messages = refl; whole = refl; fit = tt; stands = (refl, is) }
  splits_by xs (Ok (Some p)) bytes is next =
      let s = next p refl in
      let front = front_found xs p bytes is in
      let first : Layout × Message = (front.0, p.0) in
      record {
        spelled = first ∷ s.spelled;
        rest = s.rest;
        messages = ap (λ (ms : List Message). p.0 ∷ ms) s.messages;
        whole = front.1
            ∙ ap (λ l. frame front.0 p.0 ++ l) s.whole
            ∙ sym (append_assoc (frame front.0 p.0) (flat_map spelling s.spelled) s.rest)
            ∙ ap (λ l. l ++ s.rest) (sym (flat_map-cons spelling first s.spelled));
        fit = (front.2, s.fit);
        stands = s.stands;
      }

  splits_within : (n : ℕ) (xs : List ℕ) → length xs ≤ n → AreBytes xs → Splits layouts xs (frames_in layouts xs)
  splits_within zero xs few bytes =
      subst (λ c. Splits layouts xs c) (sym (frames_by layouts xs)) (splits_by xs (frame_among layouts xs) bytes refl (λ p read.
      let s = frame_parts (expected_layout layouts xs) xs p.0 p.1 read in
      let size : p.1 ≡ 4 + size_of xs = s.size in
      let fits : p.1 ≤ length xs = s.within in
      absurd (omega arith)))
  splits_within (suc n) xs few bytes =
      subst (λ c. Splits layouts xs c) (sym (frames_by layouts xs)) (splits_by xs (frame_among layouts xs) bytes refl (λ p read.
      let s = frame_parts (expected_layout layouts xs) xs p.0 p.1 read in
      let size : p.1 ≡ 4 + size_of xs = s.size in
      splits_within n (drop p.1 xs) (omega (arith, length-drop p.1 xs)) (later_bytes p.1 xs bytes)))

  -- All bytes are the spellings of the messages, and then the rest.
  pub frames_split : (xs : List ℕ) → AreBytes xs → Splits layouts xs (frames_in layouts xs)
  frames_split xs bytes = splits_within (length xs) xs (omega arith) bytes
