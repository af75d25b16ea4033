-- States in bytes of their own: they are read there as they were in a frame, and each text stands at its place.
use Rattle.std.proofs.Common.{◌≡◌, ℕ, ◌+◌, ◌-◌, ◌^◌, ◌<◌, ◌≤◌, List, [], ◌++◌, length, length-append, length-drop, take, drop, Option, Some, None, Ok, Err, IsOk, refl, subst, ap, sym, ◌∙◌, arith}
use Rattle.std.specs.Prelude.{option_map, IfSome}
use Rattle.std.specs.List.{flat_map, AllByRecursion}
use Rattle.std.proofs.lemmas.List.{take_at, drop_at, drop-drop, append-nil}
use Rattle.cg_types.specs.declared.limits.TheConstants.{TEXT_LIMIT}
use Rattle.cg_types.specs.ResultSteps.{◌>>=◌}
use Rattle.cg_entry.specs.declared.state.State.{State}
use Rattle.cg_entry.specs.State.{pair, pairs}
use Rattle.cg_entry.specs.Entry.{text_size}
use Rattle.cg_frames.specs.declared.layout.Layout.{Layout}
use Rattle.cg_entry.specs.declared.spelled.TheConstants.{TOMBSTONE}
use Rattle.cg_frames.specs.Fields.{Field, key_at, version_above_at, value_at}
use Rattle.cg_frames.specs.Layouts.{IsRead}
use Rattle.cg_frames.specs.Laws.{AreBytes}
use Rattle.cg_frames.specs.Lists.{state_at, states_at}
use Rattle.cg_frames.specs.Readers.{behind, GivesAlone, IsCutOut, IsEndOf}
use Rattle.cg_entry.specs.Section.{state, StandsIn}
use Rattle.cg_frames.proofs.FitsFields.{FitsValue, FitsState}
use Rattle.cg_entry.proofs.SectionLemmas.{length-state, stands}
use Rattle.cg_frames.proofs.LengthLemmas.{spelled_pairs}
use Rattle.cg_frames.proofs.LawLemmas.{short_members}
use Rattle.cg_frames.proofs.ListLemmas.{first_ok}
use Rattle.cg_frames.proofs.ReadIsSpelledParts.{ok_is, states_rise}
use Rattle.cg_frames.proofs.ReadIsSpelledLemmas.{rising_found, later_bytes}
use Rattle.cg_frames.proofs.ReadIsSpelledMembers.{state_found}
use Rattle.cg_frames.proofs.SpelledIsReadLemmas.{rising_again}
use Rattle.cg_frames.proofs.SpelledIsReadMembers.{state_again}

abbrev spelled : State → List ℕ
spelled s = state (pair s)

-- ---- the states that are read alone

front_of : (front rest bytes : List ℕ) → bytes ≡ front ++ rest → take (length bytes - length rest) bytes ≡ front
front_of front rest bytes whole =
    let n : length front ≡ length bytes - length rest = omega (arith, length-append front rest, ap length whole) in
    ap (take (length bytes - length rest)) whole ∙ take_at front rest (length bytes - length rest) n

text_short : (layout : Layout) (o : Option (List ℕ)) → layout.text ≤ TEXT_LIMIT → FitsValue layout o → text_size o ≤ TEXT_LIMIT
text_short layout (Some t) few fits = omega (arith, fits.1)
text_short layout None few fits = omega arith

one_short : (layout : Layout) (above : ℕ) (s : State) → layout.text ≤ TEXT_LIMIT → FitsState layout above (pair s) → length (spelled s) ≤ 5000
one_short layout above s few fits = omega (arith, length-state (pair s), text_short layout s.text few fits.value)

all_short : (layout : Layout) (above : ℕ) (ss : List State) → layout.text ≤ TEXT_LIMIT → length ss < 256 → AllByRecursion (λ (s : State). FitsState layout above (pair s)) ss → length (flat_map spelled ss) < 2 ^ 31
all_short layout above ss few lt all =
    let short = short_members spelled (λ (s : State). FitsState layout above (pair s)) 5000 (λ s fits. one_short layout above s few fits) 255 ss all (omega (arith, lt)) in
    omega (arith, short)

pub record CutOut (layout : Layout) (above n : ℕ) (bytes rest part : List ℕ) : Type 0 where
  pub alone : IsCutOut (states_at layout above n None) bytes rest part
  pub short : length part < 2 ^ 31

alone_again : (layout : Layout) (above n : ℕ) (bytes : List ℕ) (ss : List State) (rest : List ℕ) → IsRead layout → AreBytes bytes → n < 256 → states_at layout above n None bytes ≡ Ok (ss, rest)
    → CutOut layout above n bytes rest (take (length bytes - length rest) bytes)
alone_again layout above n bytes ss rest read small few h =
    let found = rising_found (λ (s : State). s.key) spelled (state_at layout above) (λ (s : State). FitsState layout above (pair s)) (state_found layout above) n None bytes ss rest small h in
    let r = states_rise layout above n bytes ss rest h in
    let wide : layout.text < TOMBSTONE = omega (arith, read.text) in
    let again = rising_again (λ (s : State). s.key) spelled (state_at layout above) (λ (s : State). FitsState layout above (pair s)) (state_again layout above wide) None ss [] found.1 r.0 in
    let is : take (length bytes - length rest) bytes ≡ flat_map spelled ss = front_of (flat_map spelled ss) rest bytes found.0.whole in
    let there : states_at layout above n None (flat_map spelled ss) ≡ Ok (ss, []) =
    ap (λ (k : ℕ). states_at layout above k None (flat_map spelled ss)) (sym r.1) ∙ ap (states_at layout above (length ss) None) (sym (append-nil (flat_map spelled ss))) ∙ again in
    subst (CutOut layout above n bytes rest) (sym is)
    (record { alone = subst (λ (f : Field (List State)). GivesAlone f rest (states_at layout above n None (flat_map spelled ss))) (sym h) (refl, there); short = all_short layout above ss read.text (omega (arith, r.1)) found.1 })

passed_is : {A : Type 0} (read : Field A) (rest : List ℕ) → behind read ≡ Ok rest → (x : A) × (read ≡ Ok (x, rest))
passed_is (Ok x) rest h = (x.0, ap (λ (ys : List ℕ). Ok (x.0, ys)) (ok_is x.1 rest h))
passed_is (Err m) rest h = absurd cc

pub cut_out : (layout : Layout) (above n : ℕ) (bytes rest : List ℕ) → IsRead layout → AreBytes bytes → n < 256 → behind (states_at layout above n None bytes) ≡ Ok rest
    → CutOut layout above n bytes rest (take (length bytes - length rest) bytes)
cut_out layout above n bytes rest read small few h =
    let p = passed_is (states_at layout above n None bytes) rest h in
    alone_again layout above n bytes p.0 rest read small few p.1

-- ---- what is read alone, and among all bytes

pub all_read : {A : Type 0} (read : Field A) (x : A) (rest : List ℕ) → behind read ≡ Ok [] → read ≡ Ok (x, rest) → read ≡ Ok (x, [])
all_read read x rest none is =
    let e : rest ≡ [] = ok_is rest [] (sym (ap behind is) ∙ none) in
    subst (λ (ys : List ℕ). read ≡ Ok (x, ys)) e is

pub end_bytes : (bytes rest : List ℕ) → AreBytes bytes → IsEndOf bytes rest → AreBytes rest
end_bytes bytes rest small end = subst AreBytes end (later_bytes (length bytes - length rest) bytes small)

-- ---- one after the other

module _ (layout : Layout) (above : ℕ) where
  -- what a state leaves ends the bytes as well
  pub still_end : (bytes from : List ℕ) (last : Option ℕ) (s : State) (rest : List ℕ) → AreBytes from → IsEndOf bytes from → state_at layout above last from ≡ Ok (s, rest) → IsEndOf bytes rest
  still_end bytes from last s rest small end h =
      let whole : from ≡ spelled s ++ rest = (state_found layout above last from s rest small h).0.whole in
      let k = length (spelled s) in
      let at = length bytes - length from in
      let n : length bytes - length rest ≡ at + k = omega (arith, ap length whole, length-append (spelled s) rest, ap length end, length-drop at bytes) in
      ap (λ (m : ℕ). drop m bytes) n ∙ sym (drop-drop k at bytes) ∙ ap (drop k) (end ∙ whole) ∙ drop_at (spelled s) rest k refl

pub text_stands : (layout : Layout) (above : ℕ) (last : Option ℕ) (bytes from : List ℕ) (s : State) (rest : List ℕ) → AreBytes from → IsEndOf bytes from → state_at layout above last from ≡ Ok (s, rest)
    → IfSome s.text (λ t. StandsIn bytes (length bytes - length from + 7) t)
text_stands layout above last bytes from s rest small end h =
    let found = state_found layout above last from s rest small h in
    stands bytes (length bytes - length from) s.key s.version s.text rest (end ∙ found.0.whole)

shown : {X : Type 0} (text : Option X) (now : X → List ℕ) (bytes : List ℕ) (at : ℕ) → IfSome (option_map now text) (λ t. StandsIn bytes at t) → IfSome text (λ x. StandsIn bytes at (now x))
shown (Some x) now bytes at stands = stands
shown None now bytes at stands = tt

-- in a copy of the bytes, if there is one
pub in_copy : {B X : Type 0} (o : Option B) (items : B → List ℕ) (section : List ℕ) (at : ℕ) (text : Option X) (now : X → List ℕ) → IfSome o (λ b. items b ≡ section) → IfSome (option_map now text) (λ t. StandsIn section at t)
    → IfSome o (λ b. IfSome text (λ x. StandsIn (items b) at (now x)))
in_copy (Some b) items section at text now same stands = subst (λ (bytes : List ℕ). IfSome text (λ x. StandsIn bytes at (now x))) (sym same) (shown text now section at stands)
in_copy None items section at text now same stands = tt

-- what holds of a value holds where it is lent
pub lent : {B T : Type 0} (o : Option B) (now : B → T) (held : Option T) (Is : T → Type 0) → option_map now o ≡ held → IfSome held Is → IfSome o (λ b. Is (now b))
lent (Some b) now held Is same h = subst (λ t. IfSome t Is) (sym same) h
lent None now held Is same h = tt

-- a copy of what spells states spells them
pub copy_spells : {B : Type 0} (o : Option B) (items : B → List ℕ) (section spelling : List ℕ) → section ≡ spelling → IfSome o (λ b. items b ≡ section) → IfSome o (λ b. items b ≡ spelling)
copy_spells (Some b) items section spelling same h = h ∙ same
copy_spells None items section spelling same h = tt

-- ---- a state whose text is not looked at

module _ (layout : Layout) (above : ℕ) (last : Option ℕ) (from : List ℕ) (k v : ℕ) (from_version from_text : List ℕ) (key_is : key_at last from ≡ Ok (k, from_version)) (version_is : version_above_at above from_version ≡ Ok (v, from_text)) where
  with_text : state_at layout above last from ≡ (value_at layout from_text >>= λ t. Ok (record { key = k; version = v; text = t.0 }, t.1))
  unfolding state_at
  with_text = rw (key_is, version_is) refl

  pub value_known : IsOk (state_at layout above last from) → IsOk (value_at layout from_text)
  value_known ok = first_ok (value_at layout from_text) (λ t. Ok (record { key = k; version = v; text = t.0 }, t.1)) (subst IsOk with_text ok)

  pub text_known : (bytes : List ℕ) (o : Option (List ℕ)) (rest : List ℕ) → AreBytes from → IsEndOf bytes from → value_at layout from_text ≡ Ok (o, rest) → IfSome o (λ t. StandsIn bytes (length bytes - length from + 7) t)
  text_known bytes o rest small end h =
      let made : State = record { key = k; version = v; text = o } in
      let is : state_at layout above last from ≡ Ok (made, rest) = with_text ∙ ap (λ (r : Field (Option (List ℕ))). r >>= λ t. Ok (record { key = k; version = v; text = t.0 }, t.1)) h in
      text_stands layout above last bytes from made rest small end is

-- ---- what spells states that were read

pub spelled_of : (layout : Layout) (above n : ℕ) (bytes : List ℕ) (ss : List State) → AreBytes bytes → states_at layout above n None bytes ≡ Ok (ss, []) → bytes ≡ flat_map state (pairs ss)
spelled_of layout above n bytes ss small h =
    let found = rising_found (λ (s : State). s.key) spelled (state_at layout above) (λ (s : State). FitsState layout above (pair s)) (state_found layout above) n None bytes ss [] small h in
    found.0.whole ∙ append-nil (flat_map spelled ss) ∙ spelled_pairs ss
