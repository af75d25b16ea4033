-- Cutting bytes into messages: by turns, after more bytes, and in chunks.
use Rattle.std.proofs.Common.{◌≡◌, ℕ, zero, suc, ◌+◌, ◌≤◌, List, [], ◌∷◌, ◌++◌, length, drop, Option, Some, None, Result, Ok, Err, refl, sym, ap, ◌∙◌, subst, inl, inr, arith, length-drop, append_assoc, append-nil}
use Rattle.std.specs.List.{flat_map}
use Rattle.std.specs.Prelude.{IfErr}
use Rattle.std.proofs.lemmas.List.{drop-append-le}
use Rattle.cg_types.specs.declared.fault.Fault.{Fault}
use Rattle.cg_messages.specs.declared.message.Message.{Message}
use Rattle.cg_frames.specs.declared.layout.Layout.{Layout}
use Rattle.cg_frames.specs.Faults.{IsBadFrame}
use Rattle.cg_frames.specs.Reading.{size_of, frame_at}
use Rattle.cg_frames.specs.Choosing.{expected_layout, frame_among}
use Rattle.cg_frames.specs.Laws.{WhatIsHeldIsPartial}
use Rattle.cg_frames.specs.Feeding.{Standing, Cut, lack_of, with_front, cut_by, cut_within, frames_in, cut_of_piece, fed_all, HoldsNoFrame, IsPartial, HasAtMostOne}
use Rattle.cg_frames.proofs.FrameLemmas.{frame_parts}
use Rattle.cg_frames.proofs.FrontLemmas.{settled_among, fault_among, frame_is_all}

module _ (layouts : List Layout) where
  -- ---- turns

  pub nothing_at : frame_among layouts [] ≡ Ok None
  unfolding frame_at
  nothing_at = refl

  cut_by_same : (f g : List ℕ → Cut) (bytes : List ℕ) (r : Result (Option (Message × ℕ)) Fault) → ((p : Message × ℕ) → r ≡ Ok (Some p) → f (drop p.1 bytes) ≡ g (drop p.1 bytes)) → cut_by f bytes r ≡ cut_by g bytes r
  cut_by_same f g bytes (Err e) same = refl
  cut_by_same f g bytes (Ok None) same = refl
  cut_by_same f g bytes (Ok (Some p)) same = ap (with_front (p.0 ∷ [])) (same p refl)

  within_nothing : (n : ℕ) → cut_within layouts n [] ≡ record { messages = []; rest = Ok [] }
  within_nothing zero = refl
  within_nothing (suc n) = ap (cut_by (cut_within layouts n) []) nothing_at

  -- More turns than enough give the same.
  cut_enough : (n m : ℕ) (bytes : List ℕ) → length bytes ≤ n → length bytes ≤ m → cut_within layouts n bytes ≡ cut_within layouts m bytes
  cut_enough n m [] a b = within_nothing n ∙ sym (within_nothing m)
  cut_enough zero m (x ∷ xs) a b = absurd (omega arith)
  cut_enough (suc n) zero (x ∷ xs) a b = absurd (omega arith)
  cut_enough (suc n) (suc m) (x ∷ xs) a b =
      cut_by_same (cut_within layouts n) (cut_within layouts m) (x ∷ xs) (frame_among layouts (x ∷ xs)) (λ p some.
      let s = frame_parts (expected_layout layouts (x ∷ xs)) (x ∷ xs) p.0 p.1 some in
      let size : p.1 ≡ 4 + size_of (x ∷ xs) = s.size in
      let left : length (drop p.1 (x ∷ xs)) ≤ n = omega (arith, length-drop p.1 (x ∷ xs)) in
      let left_too : length (drop p.1 (x ∷ xs)) ≤ m = omega (arith, length-drop p.1 (x ∷ xs)) in
      cut_enough n m (drop p.1 (x ∷ xs)) left left_too)

  -- The first frame or fault of the bytes decides how they are cut.
  pub frames_by : (bytes : List ℕ) → frames_in layouts bytes ≡ cut_by (frames_in layouts) bytes (frame_among layouts bytes)
  unfolding frames_in
  frames_by [] = within_nothing 0 ∙ sym (ap (cut_by (frames_in layouts) []) nothing_at)
  frames_by (x ∷ xs) =
      cut_by_same (cut_within layouts (length xs)) (frames_in layouts) (x ∷ xs) (frame_among layouts (x ∷ xs)) (λ p some.
      let s = frame_parts (expected_layout layouts (x ∷ xs)) (x ∷ xs) p.0 p.1 some in
      let size : p.1 ≡ 4 + size_of (x ∷ xs) = s.size in
      let left : length (drop p.1 (x ∷ xs)) ≤ length xs = omega (arith, length-drop p.1 (x ∷ xs)) in
      cut_enough (length xs) (length (drop p.1 (x ∷ xs))) (drop p.1 (x ∷ xs)) left (omega arith))

  pub frames_at : (bytes : List ℕ) (r : Result (Option (Message × ℕ)) Fault) → frame_among layouts bytes ≡ r → frames_in layouts bytes ≡ cut_by (frames_in layouts) bytes r
  frames_at bytes r is = frames_by bytes ∙ ap (cut_by (frames_in layouts) bytes) is

  -- ---- more bytes

  -- The messages cut from the bytes, and then from the rest with the bytes that follow.
  abbrev pub carried : List Message → Standing → List ℕ → Cut
  carried messages rest more = with_front messages (cut_of_piece layouts rest more)

  longer_by : (xs ys : List ℕ) (r : Result (Option (Message × ℕ)) Fault) → frame_among layouts xs ≡ r
      → ((p : Message × ℕ) → r ≡ Ok (Some p) → frames_in layouts (drop p.1 xs ++ ys) ≡ carried (frames_in layouts (drop p.1 xs)).messages (frames_in layouts (drop p.1 xs)).rest ys)
      → frames_in layouts (xs ++ ys) ≡ carried (cut_by (frames_in layouts) xs r).messages (cut_by (frames_in layouts) xs r).rest ys
  longer_by xs ys (Ok None) is next = refl
  longer_by xs ys (Err f) is next = elim (settled_among layouts xs ys) [
    | inl none ↦ cc
    | inr same ↦ frames_at (xs ++ ys) (Err f) (same ∙ is)
  ]
  longer_by xs ys (Ok (Some p)) is next =
      let s = frame_parts (expected_layout layouts xs) xs p.0 p.1 is in
      let fits : p.1 ≤ length xs = s.within in
      elim (settled_among layouts xs ys) [
        | inl none ↦ cc
        | inr same ↦ frames_at (xs ++ ys) (Ok (Some p)) (same ∙ is)
            ∙ ap (λ l. with_front (p.0 ∷ []) (frames_in layouts l)) (drop-append-le p.1 xs ys fits)
            ∙ ap (with_front (p.0 ∷ [])) (next p refl)
      ]

  longer_within : (n : ℕ) (xs ys : List ℕ) → length xs ≤ n → frames_in layouts (xs ++ ys) ≡ carried (frames_in layouts xs).messages (frames_in layouts xs).rest ys
  longer_within zero xs ys few =
      subst (λ c. frames_in layouts (xs ++ ys) ≡ carried c.messages c.rest ys) (sym (frames_by xs)) (longer_by xs ys (frame_among layouts xs) refl (λ p some.
      let s = frame_parts (expected_layout layouts xs) xs p.0 p.1 some in
      let size : p.1 ≡ 4 + size_of xs = s.size in
      let fits : p.1 ≤ length xs = s.within in
      absurd (omega arith)))
  longer_within (suc n) xs ys few =
      subst (λ c. frames_in layouts (xs ++ ys) ≡ carried c.messages c.rest ys) (sym (frames_by xs)) (longer_by xs ys (frame_among layouts xs) refl (λ p some.
      let s = frame_parts (expected_layout layouts xs) xs p.0 p.1 some in
      let size : p.1 ≡ 4 + size_of xs = s.size in
      longer_within n (drop p.1 xs) ys (omega (arith, length-drop p.1 xs))))

  -- More bytes change nothing of the messages that were cut, and go on after them.
  pub frames_longer : (xs ys : List ℕ) → frames_in layouts (xs ++ ys) ≡ carried (frames_in layouts xs).messages (frames_in layouts xs).rest ys
  frames_longer xs ys = longer_within (length xs) xs ys (omega arith)

  -- ---- chunks

  -- The rest that a feed is left with holds no whole frame and no fault.
  partial_by : (xs : List ℕ) (r : Result (Option (Message × ℕ)) Fault) → frame_among layouts xs ≡ r
      → ((p : Message × ℕ) → r ≡ Ok (Some p) → IsPartial layouts (frames_in layouts (drop p.1 xs)).rest)
      → IsPartial layouts (cut_by (frames_in layouts) xs r).rest
  partial_by xs (Err f) is next = fault_among layouts xs f is
  partial_by xs (Ok None) is next = is
  partial_by xs (Ok (Some p)) is next = next p refl

  partial_within : (n : ℕ) (xs : List ℕ) → length xs ≤ n → IsPartial layouts (frames_in layouts xs).rest
  partial_within zero xs few =
      subst (λ c. IsPartial layouts c.rest) (sym (frames_by xs)) (partial_by xs (frame_among layouts xs) refl (λ p some.
      let s = frame_parts (expected_layout layouts xs) xs p.0 p.1 some in
      let size : p.1 ≡ 4 + size_of xs = s.size in
      let fits : p.1 ≤ length xs = s.within in
      absurd (omega arith)))
  partial_within (suc n) xs few =
      subst (λ c. IsPartial layouts c.rest) (sym (frames_by xs)) (partial_by xs (frame_among layouts xs) refl (λ p some.
      let s = frame_parts (expected_layout layouts xs) xs p.0 p.1 some in
      let size : p.1 ≡ 4 + size_of xs = s.size in
      partial_within n (drop p.1 xs) (omega (arith, length-drop p.1 xs))))

  pub frames_partial : (xs : List ℕ) → IsPartial layouts (frames_in layouts xs).rest
  frames_partial xs = partial_within (length xs) xs (omega arith)

  pub fed_partial : (s : Standing) (piece : List ℕ) → IfErr s IsBadFrame → IsPartial layouts (cut_of_piece layouts s piece).rest
  fed_partial (Ok held) piece bad = frames_partial (held ++ piece)
  fed_partial (Err f) piece bad = bad

  -- Two chunks give what both at once give.
  pub fed_twice : (s : Standing) (first second : List ℕ) → cut_of_piece layouts s (first ++ second) ≡ carried (cut_of_piece layouts s first).messages (cut_of_piece layouts s first).rest second
  fed_twice (Ok held) first second = ap (frames_in layouts) (sym (append_assoc held first second)) ∙ frames_longer (held ++ first) second
  fed_twice (Err f) first second = refl

  -- The lasting fault may be any.
  holds_no_frame : (s : Standing) → IsPartial layouts s → HoldsNoFrame layouts s
  holds_no_frame (Ok held) partial = partial
  holds_no_frame (Err f) partial = tt

  fed_no_frame : (s : Standing) (piece : List ℕ) → HoldsNoFrame layouts (cut_of_piece layouts s piece).rest
  fed_no_frame (Ok held) piece = holds_no_frame (frames_in layouts (held ++ piece)).rest (frames_partial (held ++ piece))
  fed_no_frame (Err f) piece = tt

  pub fed_nothing : (s : Standing) → HoldsNoFrame layouts s → cut_of_piece layouts s [] ≡ record { messages = []; rest = s }
  fed_nothing (Ok held) none = ap (frames_in layouts) (append-nil held) ∙ frames_at held (Ok None) none
  fed_nothing (Err f) none = refl

  -- Chunks of a stream give what the whole gives, however the stream is cut.
  pub pieces_add_up : (s : Standing) (pieces : List (List ℕ)) → HoldsNoFrame layouts s → fed_all layouts s pieces ≡ cut_of_piece layouts s (flat_map (λ (piece : List ℕ). piece) pieces)
  pieces_add_up s [] none = sym (fed_nothing s none)
  pieces_add_up s (piece ∷ pieces) none =
      ap (with_front (cut_of_piece layouts s piece).messages) (pieces_add_up (cut_of_piece layouts s piece).rest pieces (fed_no_frame s piece))
      ∙ sym (fed_twice s piece (flat_map (λ (q : List ℕ). q) pieces))

  pub from_nothing : (pieces : List (List ℕ)) → fed_all layouts (Ok []) pieces ≡ frames_in layouts (flat_map (λ (piece : List ℕ). piece) pieces)
  from_nothing pieces = pieces_add_up (Ok []) pieces nothing_at

  pub held_partial : WhatIsHeldIsPartial layouts
  held_partial = record { new = nothing_at; later = fed_partial }

  -- ---- one at a time

  one_by : (held piece : List ℕ) (r : Result (Option (Message × ℕ)) Fault) → frame_among layouts held ≡ Ok None → length piece ≤ lack_of held → frame_among layouts (held ++ piece) ≡ r
      → HasAtMostOne (cut_by (frames_in layouts) (held ++ piece) r).messages (cut_by (frames_in layouts) (held ++ piece) r).rest
  one_by held piece (Err f) none fits is = tt
  one_by held piece (Ok None) none fits is = tt
  one_by held piece (Ok (Some p)) none fits is =
      let all : frames_in layouts (drop p.1 (held ++ piece)) ≡ record { messages = []; rest = Ok [] } =
      ap (frames_in layouts) (frame_is_all layouts held piece p none fits is) ∙ frames_at [] (Ok None) nothing_at in
      subst (λ c. HasAtMostOne (p.0 ∷ c.messages) c.rest) (sym all) refl

  pub at_most_one : (held piece : List ℕ) → frame_among layouts held ≡ Ok None → length piece ≤ lack_of held → HasAtMostOne (frames_in layouts (held ++ piece)).messages (frames_in layouts (held ++ piece)).rest
  at_most_one held piece none fits =
      subst (λ c. HasAtMostOne c.messages c.rest) (sym (frames_by (held ++ piece))) (one_by held piece (frame_among layouts (held ++ piece)) none fits refl)
