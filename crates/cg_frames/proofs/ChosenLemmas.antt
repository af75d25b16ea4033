-- Frames that are read, wait or are refused among several layouts, rule by rule.
use Rattle.std.proofs.Common.{◌≡◌, ℕ, suc, zero, ◌+◌, ◌<◌, ◌≤◌, Bool, true, false, cond, List, ◌∷◌, length, get_or, take, drop, Some, None, Result, Ok, Err, refl, ap, ◌∙◌, subst, arith, length-drop, length-take, drop-cons}
use Rattle.std.specs.Prelude.{◌==◌, slice_get}
use Rattle.std.proofs.Math.Nat.{le_trans}
use Rattle.std.proofs.lemmas.Bool.{eqb-true}
use Rattle.std.proofs.lemmas.Option.{get_or_from_slice_get}
use Rattle.cg_types.specs.declared.fault.Cause.TheVariants as causes
use Rattle.cg_types.specs.declared.fault.Fault.TheVariants as faults
use Rattle.cg_messages.specs.declared.message.Message.{Message}
use Rattle.cg_frames.specs.declared.layout.Layout.{Layout}
use Rattle.cg_frames.specs.declared.misread.Misread.{Misread}
use Rattle.cg_types.specs.ResultSteps.{◌>>=◌}
use Rattle.cg_frames.specs.Fields.{Field}
use Rattle.cg_frames.specs.Reading.{kind_at, of_kind, inside_at, with_place, with_size, size_of, frame_at}
use Rattle.cg_frames.specs.Choosing.{layout_with_byte, widest, expected_layout, frame_among, IsOneOf}
use Rattle.cg_frames.specs.Laws.{ChoosesByTheByte}
use Rattle.cg_frames.proofs.SpelledIsReadLemmas.{byte_again}
use Rattle.cg_frames.proofs.ChoosingLemmas.{named_all, due_all, each_shorter, due_early, due_of, due_unnamed, widest_named}
use Rattle.cg_frames.proofs.FrontLemmas.{over_is, part_is, whole_is}

-- A byte other than the layout's is refused.
other_inside : (layout : Layout) (byte : ℕ) (rest : List ℕ) → (byte == layout.byte) ≡ false → inside_at layout (byte ∷ rest) ≡ Err (record { cause = causes.Layout; left = length (byte ∷ rest) })
unfolding inside_at
other_inside layout byte rest other =
    let fault : Misread = record { cause = causes.Layout; left = length (byte ∷ rest) } in
    ap (λ (r : Field ℕ). (r >>= λ b. cond (b.0 == layout.byte) (Ok b) (Err fault)) >>= λ b. kind_at b.1 >>= λ kind. of_kind layout kind.0 kind.1) (byte_again byte rest)
    ∙ ap (λ (t : Bool). cond t (Ok (byte, rest)) (Err fault) >>= λ (b : ℕ × List ℕ). kind_at b.1 >>= λ kind. of_kind layout kind.0 kind.1) other

-- The byte after the length is the first of the n bytes from there on.
front_byte : (n byte : ℕ) (bytes : List ℕ) → 0 < n → 4 < length bytes → slice_get bytes 4 ≡ Some byte → (rest : List ℕ) × (take n (drop 4 bytes) ≡ byte ∷ rest)
front_byte zero byte bytes some long at = absurd (omega arith)
front_byte (suc n) byte bytes some long at =
    let same : get_or bytes 4 0 ≡ byte = get_or_from_slice_get bytes 4 byte 0 at in
    (take n (drop 5 bytes), ap (take (suc n)) (drop-cons bytes 4 0 long) ∙ ap (λ (b : ℕ). b ∷ take n (drop 5 bytes)) same)

module _ (layouts : List Layout) (some : 0 < length layouts) where
  unnamed_other : (byte : ℕ) → layout_with_byte layouts byte ≡ None → (byte == (widest layouts).byte) ≡ false
  unnamed_other byte none = elim (byte == (widest layouts).byte) as (λ t. (byte == (widest layouts).byte) ≡ t → t ≡ false) [
    | true ↦ λ same. absurd (widest_named layouts some (subst (λ (b : ℕ). layout_with_byte layouts b ≡ None) (eqb-true byte (widest layouts).byte same) none))
    | false ↦ λ other. refl
  ] refl

  within_widest : (layout : Layout) → IsOneOf layouts layout → layout.length ≤ (widest layouts).length
  within_widest layout one = named_all (λ (l : Layout). l.length ≤ (widest layouts).length) layouts layout (each_shorter layouts) one

  unnamed_is : (byte : ℕ) (bytes : List ℕ) → layout_with_byte layouts byte ≡ None → slice_get bytes 4 ≡ Some byte → 0 < size_of bytes → 4 + size_of bytes ≤ length bytes → size_of bytes ≤ (widest layouts).length → frame_among layouts bytes ≡ Err (faults.BadFrame 4 causes.Layout)
  unnamed_is byte bytes none at more whole low =
      let n = size_of bytes in
      let layout = widest layouts in
      let behind = drop 4 bytes in
      let enough : n ≤ length behind = omega (arith, length-drop 4 bytes) in
      let front = front_byte n byte bytes more (omega arith) at in
      let left : length (byte ∷ front.0) ≡ n = omega (arith, ap (λ (l : List ℕ). length l) front.1, length-take n behind) in
      ap (λ (l : Layout). frame_at l bytes) (due_unnamed layouts byte bytes none at)
      ∙ whole_is layout bytes (omega arith) low enough
      ∙ ap (λ (l : List ℕ). with_size n (with_place n (inside_at layout l))) front.1
      ∙ ap (λ (r : Result Message Misread). with_size n (with_place n r)) (other_inside layout byte front.0 (unnamed_other byte none))
      ∙ ap (λ (k : ℕ). Err (faults.BadFrame k causes.Layout)) (omega (arith, left))

  waits_is : (layout : Layout) (bytes : List ℕ) → IsOneOf layouts layout → length bytes ≡ 4 → 0 < size_of bytes → size_of bytes ≤ layout.length → frame_among layouts bytes ≡ Ok None
  waits_is layout bytes one four more low =
      let wide : (expected_layout layouts bytes).length ≡ (widest layouts).length = ap (λ (l : Layout). l.length) (due_early layouts bytes (omega arith)) in
      part_is (expected_layout layouts bytes) bytes (omega arith) (omega (arith, wide, within_widest layout one)) (omega (arith, length-drop 4 bytes))

  pub chooses : ChoosesByTheByte layouts
  chooses = record {
    by_byte = λ layout bytes one at. ap (λ (l : Layout). frame_at l bytes) (due_of layouts layout bytes one at);
    over = λ bytes long each. over_is (expected_layout layouts bytes) bytes long (due_all (λ (l : Layout). l.length < size_of bytes) layouts bytes some each);
    waits = waits_is;
    unnamed = λ byte bytes none at more whole layout one low. unnamed_is byte bytes none at more whole (le_trans low (within_widest layout one));
  }
