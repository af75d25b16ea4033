-- Frames round their insides: a frame that is spelled so is read, and the other way round.
use Rattle.std.proofs.Common.{◌≡◌, ℕ, ◌+◌, ◌^◌, ◌<◌, ◌≤◌, Bool, true, false, cond, List, ◌++◌, length, take, drop, Option, Some, None, Result, Ok, Err, refl, sym, ap, ◌∙◌, append_assoc, arith, length-append, length-drop}
use Rattle.std.specs.Prelude.{nat_lt}
use Rattle.std.specs.Int.{w32, from_be_bytes, to_be_bytes}
use Rattle.std.proofs.lemmas.Bool.{le-ltb, ltb-false}
use Rattle.std.proofs.lemmas.List.{take_at, drop_at}
use Rattle.std.proofs.lemmas.Nat.{from_be_bytes-to_be_bytes_4}
use Rattle.cg_types.specs.declared.fault.Fault.{Fault}
use Rattle.cg_types.specs.declared.fault.Fault.TheVariants as faults
use Rattle.cg_types.specs.declared.fault.Cause.TheVariants as causes
use Rattle.cg_messages.specs.declared.message.Message.{Message}
use Rattle.cg_frames.specs.declared.layout.Layout.{Layout}
use Rattle.cg_frames.specs.declared.misread.Misread.{Misread}
use Rattle.cg_frames.specs.Reading.{inside_at, with_place, with_size, sized_at, frame_at}
use Rattle.cg_entry.specs.Section.{four_bytes}

sized_again : (layout : Layout) (inside rest : List ℕ) (m : Message) → length inside ≤ layout.length → inside_at layout inside ≡ Ok m → sized_at layout (length inside) (inside ++ rest) ≡ Ok (Some (m, 4 + length inside))
sized_again layout inside rest m short read =
    let low : nat_lt layout.length (length inside) ≡ false = le-ltb layout.length (length inside) short in
    let whole : nat_lt (length (inside ++ rest)) (length inside) ≡ false = le-ltb (length (inside ++ rest)) (length inside) (omega (arith, length-append inside rest)) in
    rw (low, whole, take_at inside rest (length inside) refl, read) refl

-- a frame whose inside is read is read, whatever follows
pub frame_again : (layout : Layout) (inside rest : List ℕ) (m : Message) → length inside ≤ layout.length → layout.length < 2 ^ 32 → inside_at layout inside ≡ Ok m → frame_at layout ((four_bytes (length inside) ++ inside) ++ rest) ≡ Ok (Some (m, 4 + length inside))
unfolding four_bytes frame_at
frame_again layout inside rest m short wide read =
    let front = to_be_bytes w32 (length inside) in
    let bytes = front ++ (inside ++ rest) in
    let enough : nat_lt (length bytes) 4 ≡ false = le-ltb (length bytes) 4 (omega (arith, length-append front (inside ++ rest))) in
    let size : from_be_bytes w32 (take 4 bytes) ≡ length inside = ap (from_be_bytes w32) (take_at front (inside ++ rest) 4 refl) ∙ from_be_bytes-to_be_bytes_4 (length inside) (omega arith) in
    ap (frame_at layout) (append_assoc front inside rest)
    ∙ ap (λ (b : Bool). cond b (Ok None) (sized_at layout (from_be_bytes w32 (take 4 bytes)) (drop 4 bytes))) enough
    ∙ ap (λ (n : ℕ). sized_at layout n (drop 4 bytes)) size
    ∙ ap (λ (behind : List ℕ). sized_at layout (length inside) behind) (drop_at front (inside ++ rest) 4 refl)
    ∙ sized_again layout inside rest m short read

-- ---- the parts of a frame that was read

pub record FrameParts (layout : Layout) (bytes : List ℕ) (m : Message) (n : ℕ) : Type 0 where
  pub size : n ≡ 4 + from_be_bytes w32 (take 4 bytes)
  pub within : n ≤ length bytes
  pub inside : inside_at layout (take (from_be_bytes w32 (take 4 bytes)) (drop 4 bytes)) ≡ Ok m

abbrev Answer : Type 0
Answer = Result (Option (Message × ℕ)) Fault

not_none : (b : Bool) (r : Answer) (x : Message × ℕ) → cond b (Ok None) r ≡ Ok (Some x) → (b ≡ false) × (r ≡ Ok (Some x))
not_none true r x e = absurd cc
not_none false r x e = (refl, e)

not_refused : (b : Bool) (f : Fault) (r : Answer) (x : Message × ℕ) → cond b (Err f) r ≡ Ok (Some x) → r ≡ Ok (Some x)
not_refused true f r x e = absurd cc
not_refused false f r x e = e

some_is : (p q : Message × ℕ) → ◌≡◌ {A = Answer} (Ok (Some p)) (Ok (Some q)) → p ≡ q
some_is p q e = cc

was_read : (size : ℕ) (r : Result Message Misread) (m : Message) (n : ℕ) → with_size size (with_place size r) ≡ Ok (Some (m, n)) → (r ≡ Ok m) × (n ≡ 4 + size)
was_read size (Ok x) m n e =
    let same = some_is (x, 4 + size) (m, n) e in
    (ap (λ (p : Message × ℕ). Ok p.0) same, sym (ap (λ (p : Message × ℕ). p.1) same))
was_read size (Err f) m n e = absurd cc

pub frame_parts : (layout : Layout) (bytes : List ℕ) (m : Message) (n : ℕ) → frame_at layout bytes ≡ Ok (Some (m, n)) → FrameParts layout bytes m n
unfolding frame_at
frame_parts layout bytes m n h =
    let size = from_be_bytes w32 (take 4 bytes) in
    let behind = drop 4 bytes in
    let sized = not_none (nat_lt (length bytes) 4) (sized_at layout size behind) (m, n) h in
    let whole : Answer = with_size size (with_place size (inside_at layout (take size behind))) in
    let short = not_refused (nat_lt layout.length size) (faults.BadFrame 0 causes.Length) (cond (nat_lt (length behind) size) (Ok None) whole) (m, n) sized.1 in
    let enough = not_none (nat_lt (length behind) size) whole (m, n) short in
    let read = was_read size (inside_at layout (take size behind)) m n enough.1 in
    record {
      size = read.1;
      within = omega (arith, read.1, ltb-false (length bytes) 4 sized.0, ltb-false (length behind) size enough.0, length-drop 4 bytes);
      inside = read.0;
    }
