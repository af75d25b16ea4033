-- Properties of the grammar for feeding: the first frame or fault is settled once it is there, and has a length.
use Rattle.std.proofs.Common.{◌≡◌, ℕ, ◌+◌, ◌-◌, ◌<◌, ◌≤◌, List, [], ◌++◌, length, take, drop, Option, Some, None, Result, Ok, Err, refl, sym, ap, ◌∙◌, subst, inl, inr, arith, length-append, length-drop}
use Rattle.std.specs.Prelude.{◌⊎◌}
use Rattle.std.specs.Int.{w32, from_be_bytes}
use Rattle.std.proofs.lemmas.Bool.{lt-ltb, le-ltb, cases_lt}
use Rattle.std.proofs.lemmas.List.{take-append-le, drop-append-le, drop_all}
use Rattle.cg_types.specs.declared.fault.Cause.TheVariants as causes
use Rattle.cg_types.specs.declared.fault.Fault.{Fault}
use Rattle.cg_types.specs.declared.fault.Fault.TheVariants as faults
use Rattle.cg_messages.specs.declared.message.Message.{Message}
use Rattle.cg_frames.specs.declared.layout.Layout.{Layout}
use Rattle.cg_frames.specs.Reading.{inside_at, fault_at, with_place, with_size, size_of, frame_at}
use Rattle.cg_frames.specs.declared.misread.Misread.{Misread}
use Rattle.cg_frames.specs.Choosing.{widest, expected_layout, frame_among}
use Rattle.cg_frames.specs.Faults.{IsBadFrame}
use Rattle.cg_frames.specs.Feeding.{lack_of}
use Rattle.cg_frames.proofs.ChoosingLemmas.{due_shorter, due_early, due_longer}
use Rattle.cg_frames.proofs.FrameLemmas.{frame_parts}

size_longer : (xs ys : List ℕ) → 4 ≤ length xs → size_of (xs ++ ys) ≡ size_of xs
size_longer xs ys long = ap (from_be_bytes w32) (take-append-le 4 xs ys long)

inside_longer : (xs ys : List ℕ) (n : ℕ) → 4 + n ≤ length xs → take n (drop 4 (xs ++ ys)) ≡ take n (drop 4 xs)
inside_longer xs ys n long =
    ap (take n) (drop-append-le 4 xs ys (omega arith)) ∙ take-append-le n (drop 4 xs) ys (omega (arith, length-drop 4 xs))

with_size_none : (n : ℕ) (r : Result Message Fault) → with_size n r ≡ Ok None → ⊥
with_size_none n (Ok x) is = cc
with_size_none n (Err f) is = cc

err_is : (f g : Fault) → ◌≡◌ {A = Result (Option (Message × ℕ)) Fault} (Err f) (Err g) → f ≡ g
err_is f g e = cc

-- A fault with its offset is a bad frame.
located_fault : (n : ℕ) (r : Result Message Misread) (f : Fault) → with_size n (with_place n r) ≡ Err f → IsBadFrame f
located_fault n (Ok x) f is = cc
located_fault n (Err m) f is = subst IsBadFrame (err_is (fault_at n m) f is) tt

short_lacks : (xs : List ℕ) → length xs < 4 → lack_of xs ≡ 4 - length xs
unfolding lack_of
short_lacks xs few = rw (lt-ltb (length xs) 4 few) refl

long_lacks : (xs : List ℕ) → 4 ≤ length xs → lack_of xs ≡ 4 + size_of xs - length xs
unfolding lack_of
long_lacks xs long = rw (le-ltb (length xs) 4 long) refl

-- ---- in one layout

-- The cases of the start of bytes.
data Front (layout : Layout) (xs : List ℕ) : Type 0 where
  short : length xs < 4 → frame_at layout xs ≡ Ok None → Front layout xs
  over : 4 ≤ length xs → layout.length < size_of xs → frame_at layout xs ≡ Err (faults.BadFrame 0 causes.Length) → Front layout xs
  part : 4 ≤ length xs → length xs < 4 + size_of xs → frame_at layout xs ≡ Ok None → Front layout xs
  whole : 4 + size_of xs ≤ length xs → size_of xs ≤ layout.length → frame_at layout xs ≡ with_size (size_of xs) (with_place (size_of xs) (inside_at layout (take (size_of xs) (drop 4 xs)))) → Front layout xs

module _ (layout : Layout) where
  short_is : (xs : List ℕ) → length xs < 4 → frame_at layout xs ≡ Ok None
  unfolding frame_at
  short_is xs few = rw (lt-ltb (length xs) 4 few) refl

  pub over_is : (xs : List ℕ) → 4 ≤ length xs → layout.length < size_of xs → frame_at layout xs ≡ Err (faults.BadFrame 0 causes.Length)
  unfolding frame_at
  over_is xs long high = rw (le-ltb (length xs) 4 long, lt-ltb layout.length (size_of xs) high) refl

  pub part_is : (xs : List ℕ) → 4 ≤ length xs → size_of xs ≤ layout.length → length (drop 4 xs) < size_of xs → frame_at layout xs ≡ Ok None
  unfolding frame_at
  part_is xs long low few = rw (le-ltb (length xs) 4 long, le-ltb layout.length (size_of xs) low, lt-ltb (length (drop 4 xs)) (size_of xs) few) refl

  pub whole_is : (xs : List ℕ) → 4 ≤ length xs → size_of xs ≤ layout.length → size_of xs ≤ length (drop 4 xs) → frame_at layout xs ≡ with_size (size_of xs) (with_place (size_of xs) (inside_at layout (take (size_of xs) (drop 4 xs))))
  unfolding frame_at
  whole_is xs long low enough = rw (le-ltb (length xs) 4 long, le-ltb layout.length (size_of xs) low, le-ltb (length (drop 4 xs)) (size_of xs) enough) refl

  front_of : (xs : List ℕ) → Front layout xs
  front_of xs = elim (cases_lt (length xs) 4) [
    | inl few ↦ short few (short_is xs few)
    | inr long ↦ elim (cases_lt layout.length (size_of xs)) [
      | inl high ↦ over long high (over_is xs long high)
      | inr low ↦ elim (cases_lt (length (drop 4 xs)) (size_of xs)) [
        | inl few ↦ part long (omega (arith, length-drop 4 xs)) (part_is xs long low few)
        | inr enough ↦ whole (omega (arith, length-drop 4 xs)) low (whole_is xs long low enough)
      ]
    ]
  ]

  -- The first frame or fault of the bytes stays the same, whatever follows.
  settled : (xs ys : List ℕ) → (frame_at layout xs ≡ Ok None) ⊎ (frame_at layout (xs ++ ys) ≡ frame_at layout xs)
  settled xs ys = elim (front_of xs) [
    | short few is ↦ inl is
    | over long high is ↦ inr (over_is (xs ++ ys) (omega (arith, length-append xs ys)) (subst (λ n. layout.length < n) (sym (size_longer xs ys long)) high) ∙ sym is)
    | part long few is ↦ inl is
    | whole long low is ↦
        let same : size_of (xs ++ ys) ≡ size_of xs = size_longer xs ys (omega arith) in
        inr (whole_is (xs ++ ys) (omega (arith, length-append xs ys)) (subst (λ n. n ≤ layout.length) (sym same) low) (omega (arith, length-append xs ys, length-drop 4 (xs ++ ys), same))
        ∙ ap (λ n. with_size n (with_place n (inside_at layout (take n (drop 4 (xs ++ ys)))))) same
        ∙ ap (λ l. with_size (size_of xs) (with_place (size_of xs) (inside_at layout l))) (inside_longer xs ys (size_of xs) long)
        ∙ sym is)
  ]

  partial_lacks : (xs : List ℕ) → frame_at layout xs ≡ Ok None → 0 < lack_of xs
  partial_lacks xs none = elim (front_of xs) [
    | short few is ↦ omega (arith, short_lacks xs few)
    | over long high is ↦ cc
    | part long few is ↦ omega (arith, long_lacks xs long)
    | whole long low is ↦ absurd (with_size_none (size_of xs) (with_place (size_of xs) (inside_at layout (take (size_of xs) (drop 4 xs)))) (sym is ∙ none))
  ]

  -- A fault is a bad frame.
  fault_is_bad : (xs : List ℕ) (f : Fault) → frame_at layout xs ≡ Err f → IsBadFrame f
  fault_is_bad xs f bad = elim (front_of xs) [
    | short few is ↦ cc
    | over long high is ↦ subst IsBadFrame (err_is (faults.BadFrame 0 causes.Length) f (sym is ∙ bad)) tt
    | part long few is ↦ cc
    | whole long low is ↦ located_fault (size_of xs) (inside_at layout (take (size_of xs) (drop 4 xs))) f (sym is ∙ bad)
  ]

  -- A frame of length 0 is too short for the byte of its layout.
  empty_is : (xs : List ℕ) → 4 ≤ length xs → size_of xs ≡ 0 → frame_at layout xs ≡ Err (faults.BadFrame 4 causes.Short)
  unfolding inside_at
  empty_is xs long zero =
      whole_is xs long (omega (arith, zero)) (omega (arith, zero))
      ∙ ap (λ n. with_size n (with_place n (inside_at layout (take n (drop 4 xs))))) zero

-- ---- the same, in the expected layout

module _ (layouts : List Layout) where
  -- The length is settled by the first four bytes, in any expected layout.
  settled_early : (xs ys : List ℕ) → length xs ≤ 4 → (frame_among layouts xs ≡ Ok None) ⊎ (frame_among layouts (xs ++ ys) ≡ frame_among layouts xs)
  settled_early xs ys early = elim (front_of (expected_layout layouts xs) xs) [
    | short few is ↦ inl is
    | over long high is ↦
        let wide : (expected_layout layouts xs).length ≡ (widest layouts).length = ap (λ (l : Layout). l.length) (due_early layouts xs early) in
        let same : size_of (xs ++ ys) ≡ size_of xs = size_longer xs ys long in
        inr (over_is (expected_layout layouts (xs ++ ys)) (xs ++ ys) (omega (arith, length-append xs ys)) (omega (arith, due_shorter layouts (xs ++ ys), wide, same)) ∙ sym is)
    | part long few is ↦ inl is
    | whole long low is ↦
        let zero : size_of xs ≡ 0 = omega arith in
        let same : size_of (xs ++ ys) ≡ size_of xs = size_longer xs ys (omega arith) in
        inr (empty_is (expected_layout layouts (xs ++ ys)) (xs ++ ys) (omega (arith, length-append xs ys)) (same ∙ zero) ∙ sym (empty_is (expected_layout layouts xs) xs (omega arith) zero))
  ]

  -- The first frame or fault of the bytes stays the same, whatever follows.
  pub settled_among : (xs ys : List ℕ) → (frame_among layouts xs ≡ Ok None) ⊎ (frame_among layouts (xs ++ ys) ≡ frame_among layouts xs)
  settled_among xs ys = elim (cases_lt 4 (length xs)) [
    | inl long ↦ elim (settled (expected_layout layouts xs) xs ys) [
      | inl none ↦ inl none
      | inr same ↦ inr (ap (λ (l : Layout). frame_at l (xs ++ ys)) (due_longer layouts xs ys long) ∙ same)
    ]
    | inr early ↦ settled_early xs ys early
  ]

  -- A fault is a bad frame.
  pub fault_among : (xs : List ℕ) (f : Fault) → frame_among layouts xs ≡ Err f → IsBadFrame f
  fault_among xs f bad = fault_is_bad (expected_layout layouts xs) xs f bad

  -- Some bytes are lacking if more are needed.
  pub some_lacking : (xs : List ℕ) → frame_among layouts xs ≡ Ok None → 0 < lack_of xs
  some_lacking xs none = partial_lacks (expected_layout layouts xs) xs none

  -- A chunk that is no longer than the lack doesn't pass the frame.
  pub frame_is_all : (held piece : List ℕ) (p : Message × ℕ) → frame_among layouts held ≡ Ok None → length piece ≤ lack_of held → frame_among layouts (held ++ piece) ≡ Ok (Some p) → drop p.1 (held ++ piece) ≡ []
  frame_is_all held piece p none fits some =
      let s = frame_parts (expected_layout layouts (held ++ piece)) (held ++ piece) p.0 p.1 some in
      let size : p.1 ≡ 4 + size_of (held ++ piece) = s.size in
      elim (front_of (expected_layout layouts held) held) [
        | short few is ↦ drop_all p.1 (held ++ piece) (omega (arith, short_lacks held few, length-append held piece))
        | over long high is ↦ cc
        | part long few is ↦ drop_all p.1 (held ++ piece) (omega (arith, long_lacks held long, length-append held piece, size_longer held piece long))
        | whole long low is ↦ absurd (with_size_none (size_of held) (with_place (size_of held) (inside_at (expected_layout layouts held) (take (size_of held) (drop 4 held)))) (sym is ∙ none))
      ]
