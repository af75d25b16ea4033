-- Pieces of a line: their digits, and writing them.
use Rattle.std.proofs.Common.{◌≡◌, ℕ, ◌+◌, ◌/◌, ◌%◌, slice_index, arith, ◌⊎◌, inr, List, [], ◌∷◌, ◌++◌, length, take, drop, take-append-drop, map, Option, Result, Ok, Err, refl, sym, ap, ◌∙◌, subst, append_assoc, append-nil}
use Rattle.std.specs.Prelude.{MatchResult}
use Rattle.std.specs.Io.KnownBytes.{Appends, Keeps}
use Rattle.std.proofs.KnownBytes.{Appends-kept}
use Rattle.std.proofs.Math.Seq.{take-length}
use Rattle.std.proofs.lemmas.List.{map-append}
use Rattle.hex.specs.Hex.{encode_with, encode_lower, lower_digits}
use Rattle.cg_types.specs.declared.fault.Fault.{Fault}
use Rattle.cg_types.specs.declared.fault.Fault.TheVariants.{WriteFault}
use Rattle.cg_links.specs.declared.counted.Counted.{Counted}
use Rattle.cg_links.specs.Counted.{KeepsCounts, CountsFailed, CountsIdle}
use Rattle.cg_journal.specs.Text.{joined}
use Rattle.cg_journal.specs.Written.{WritesAll, BreaksOff, Writes}
use Rattle.cg_journal.proofs.WrittenLemmas.{joined-append, writes_on, breaks_on, breaks_wider}

encoded_append : (digits xs ys : List ℕ) → encode_with digits (xs ++ ys) ≡ encode_with digits xs ++ encode_with digits ys
unfolding encode_with
encoded_append digits [] ys = refl
encoded_append digits (x ∷ xs) ys = ap (λ (t : List ℕ). slice_index digits (x / 16) ∷ slice_index digits (x % 16) ∷ t) (encoded_append digits xs ys)

module _ {A : Type 0} (f : A → List ℕ) where
  -- one piece more
  pub joined_more : (old new : List A) (p : A) → new ≡ old ++ p ∷ [] → joined (map f new) ≡ joined (map f old) ++ f p
  joined_more old new p more =
      ap (λ (ps : List A). joined (map f ps)) more ∙ ap joined (map-append f old (p ∷ [])) ∙ joined-append (map f old) (f p ∷ [])
      ∙ ap (λ (t : List ℕ). joined (map f old) ++ t) (append-nil (f p))

  -- of the digits of bytes
  pub digits_more : (old new : List A) (p : A) (whole rest front behind : List ℕ) → new ≡ old ++ p ∷ [] → f p ≡ encode_lower front → front ++ behind ≡ rest
      → joined (map f old) ++ encode_lower rest ≡ whole → joined (map f new) ++ encode_lower behind ≡ whole
  digits_more old new p whole rest front behind more digits parts is =
      ap (λ (t : List ℕ). t ++ encode_lower behind) (joined_more old new p more ∙ ap (λ (t : List ℕ). joined (map f old) ++ t) digits)
      ∙ append_assoc (joined (map f old)) (encode_lower front) (encode_lower behind)
      ∙ ap (λ (t : List ℕ). joined (map f old) ++ t) (sym (encoded_append lower_digits front behind) ∙ ap encode_lower parts)
      ∙ is

  module _ {L : Type 0} (a b c : Option (List ℕ)) (u v w : Counted L) (pieces : List A) (i : ℕ) (p : A) (more : take (i + 1) pieces ≡ take i pieces ++ p ∷ [])
      (one : WritesAll a b u v (map f (take i pieces))) where
    abbrev those : map f (take i pieces) ++ f p ∷ [] ≡ map f (take (i + 1) pieces)
    those = sym (ap (map f) more ∙ map-append f (take i pieces) (p ∷ []))

    -- one more was written
    pub piece_written : Appends b c (f p) → KeepsCounts v w → WritesAll a c u w (map f (take (i + 1) pieces))
    piece_written wrote kept =
        subst (λ (ls : List (List ℕ)). WritesAll a c u w ls) those
        (writes_on a b c u v w (map f (take i pieces)) (f p ∷ []) one (record { written = subst (λ (t : List ℕ). Appends b c t) (sym (append-nil (f p))) wrote; kept = kept }))

    -- a part of one more was written
    pub piece_broken : (fault : Fault) → fault ≡ WriteFault → (n : ℕ) × Appends b c (take n (f p)) → CountsFailed v w ⊎ CountsIdle v w → BreaksOff a c u w (map f pieces) fault
    piece_broken fault is front caused =
        let all : map f (take (i + 1) pieces) ++ map f (drop (i + 1) pieces) ≡ map f pieces =
        sym (map-append f (take (i + 1) pieces) (drop (i + 1) pieces)) ∙ ap (map f) (take-append-drop (i + 1) pieces) in
        subst (λ (ls : List (List ℕ)). BreaksOff a c u w ls fault) all
        (breaks_wider a c u w (map f (take (i + 1) pieces)) (map f (drop (i + 1) pieces)) fault
        (subst (λ (ls : List (List ℕ)). BreaksOff a c u w ls fault) those
        (breaks_on a b c u v w (map f (take i pieces)) (f p ∷ []) fault one (record {
          fault = is;
          count = front.0;
          written = subst (λ (t : List ℕ). Appends b c t) (ap (take front.0) (sym (append-nil (f p)))) front.1;
          caused = caused;
        }))))

-- behind the last byte all digits are there
pub digits_done : (pieces rest whole : List ℕ) → length rest ≡ 0 → pieces ++ encode_lower rest ≡ whole → pieces ≡ whole
unfolding encode_with
digits_done pieces [] whole none is = sym (append-nil pieces) ∙ is
digits_done pieces (b ∷ rest) whole none is = absurd (omega (arith, none))

-- a text, the digits of bytes, and an end
pub joined_three : (joins text pieces digits all end : List ℕ) → joins ≡ text → pieces ≡ joins ++ digits → all ≡ pieces ++ end → all ≡ text ++ (digits ++ end)
joined_three joins text pieces digits all end one two three =
    three ∙ ap (λ (t : List ℕ). t ++ end) (two ∙ ap (λ (t : List ℕ). t ++ digits) one) ∙ append_assoc text digits end

-- what was written is not flushed
pub not_flushed : {L : Type 0} (a b c : Option (List ℕ)) (u v : Counted L) (pieces : List (List ℕ)) (line : List ℕ) → joined pieces ≡ line → WritesAll a b u v pieces → Keeps b c
    → (n : ℕ) × Appends a c (take n line)
not_flushed a b c u v pieces line is all keeps =
    (length line, subst (λ (t : List ℕ). Appends a c t) (is ∙ sym (take-length line)) (Appends-kept a b c (joined pieces) all.written keeps))

-- pieces that were written are a line
pub line_of_pieces : {L T : Type 0} (a b : Option (List ℕ)) (u v : Counted L) (pieces : List (List ℕ)) (line : List ℕ) → joined pieces ≡ line → (r : Result T Fault)
    → MatchResult r (λ _. WritesAll a b u v pieces) (λ f. BreaksOff a b u v pieces f) → Writes a b u v (line ∷ []) r
line_of_pieces a b u v pieces line is (Ok x) all =
    record { written = subst (λ (t : List ℕ). Appends a b t) (is ∙ sym (append-nil line)) all.written; kept = all.kept }
line_of_pieces a b u v pieces line is (Err f) h = inr (record {
  fault = h.fault;
  count = h.count;
  written = subst (λ (t : List ℕ). Appends a b t) (ap (take h.count) (is ∙ sym (append-nil line))) h.written;
  caused = h.caused;
})
