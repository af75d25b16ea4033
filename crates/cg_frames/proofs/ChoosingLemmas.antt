-- The expected layout of a list: its properties, and the bytes that decide it.
use Rattle.std.proofs.Common.{◌≡◌, ℕ, ◌<◌, ◌≤◌, Bool, true, false, cond, List, [], ◌∷◌, ◌++◌, length, Option, Some, None, refl, sym, ap, ◌∙◌, subst, inl, inr, arith, length-append}
use Rattle.std.specs.Prelude.{◌==◌, nat_lt, slice_get}
use Rattle.std.specs.List.{find, fold, AllByRecursion}
use Rattle.std.specs.Option.{unwrap_or}
use Rattle.std.proofs.Math.Nat.{le_trans}
use Rattle.std.proofs.lemmas.Bool.{eq-eqb, cases_lt, lt-ltb, le-ltb}
use Rattle.std.proofs.lemmas.List.{get_or_append_left}
use Rattle.std.proofs.lemmas.Option.{slice_get_past, slice_get-get_or}
use Rattle.cg_messages.specs.declared.message.Message.{Message}
use Rattle.cg_frames.specs.declared.layout.Layout.{Layout}
use Rattle.cg_entry.specs.Section.{four_bytes}
use Rattle.cg_frames.specs.Spelling.{frame}
use Rattle.cg_frames.specs.Choosing.{layout_with_byte, wider, widest, expected_by, expected_layout, IsOneOf}

-- ---- properties of each layout of a list

-- An item that is found is of the list.
find_all : {X : Type 0} (P : X → Type 0) (test : X → Bool) (xs : List X) (x : X) → AllByRecursion P xs → find test xs ≡ Some x → P x
find_all P test [] x all e = absurd cc
find_all {X = X} P test (y ∷ ys) x all e =
    elim (test y) as (λ b. cond b (Some y) (find test ys) ≡ Some x → P x) [
      | true ↦ λ (is : ◌≡◌ {A = Option X} (Some y) (Some x)). let same : y ≡ x = cc in subst P same all.0
      | false ↦ λ later. find_all P test ys x all.1 later
    ] e

-- A property of each layout is one of the layout that is named.
pub named_all : (P : Layout → Type 0) (layouts : List Layout) (layout : Layout) → AllByRecursion P layouts → IsOneOf layouts layout → P layout
named_all P layouts layout all one = find_all P (λ l. l.byte == layout.byte) layouts layout all one

wider_all : (P : Layout → Type 0) (a b : Layout) → P a → P b → P (wider a b)
wider_all P a b first second = elim (nat_lt a.length b.length) as (λ t. P (cond t b a)) [ true ↦ second | false ↦ first ]

fold_all : (P : Layout → Type 0) (best : Layout) (layouts : List Layout) → P best → AllByRecursion P layouts → P (fold wider best layouts)
fold_all P best [] first all = first
fold_all P best (l ∷ ls) first all = fold_all P (wider best l) ls (wider_all P best l first all.0) all.1

widest_all : (P : Layout → Type 0) (layouts : List Layout) → 0 < length layouts → AllByRecursion P layouts → P (widest layouts)
widest_all P [] some all = absurd (omega arith)
widest_all P (l ∷ ls) some all = fold_all P l ls all.0 all.1

-- A property of the widest layout and of each is one of the expected layout.
due_by_all : (P : Layout → Type 0) (layouts : List Layout) (byte : Option ℕ) → P (widest layouts) → AllByRecursion P layouts → P (expected_by layouts byte)
due_by_all P layouts None wide all = wide
due_by_all P layouts (Some byte) wide all =
    elim (layout_with_byte layouts byte) as (λ o. layout_with_byte layouts byte ≡ o → P (unwrap_or o (widest layouts))) [
      | None ↦ λ none. wide
      | Some l ↦ λ is. find_all P (λ k. k.byte == byte) layouts l all is
    ] refl

pub due_all : (P : Layout → Type 0) (layouts : List Layout) (bytes : List ℕ) → 0 < length layouts → AllByRecursion P layouts → P (expected_layout layouts bytes)
unfolding expected_layout
due_all P layouts bytes some all = due_by_all P layouts (slice_get bytes 4) (widest_all P layouts some all) all

-- ---- the longest frames

wider_longer : (a b : Layout) → (a.length ≤ (wider a b).length) × (b.length ≤ (wider a b).length)
wider_longer a b = elim (cases_lt a.length b.length) [
  | inl less ↦ subst (λ t. (a.length ≤ (cond t b a).length) × (b.length ≤ (cond t b a).length)) (sym (lt-ltb a.length b.length less)) (omega arith, omega arith)
  | inr more ↦ subst (λ t. (a.length ≤ (cond t b a).length) × (b.length ≤ (cond t b a).length)) (sym (le-ltb a.length b.length more)) (omega arith, omega arith)
]

fold_longer : (best : Layout) (layouts : List Layout) → best.length ≤ (fold wider best layouts).length
fold_longer best [] = omega arith
fold_longer best (l ∷ ls) = le_trans (wider_longer best l).0 (fold_longer (wider best l) ls)

fold_each : (best : Layout) (layouts : List Layout) → AllByRecursion (λ l. l.length ≤ (fold wider best layouts).length) layouts
fold_each best [] = tt
fold_each best (l ∷ ls) = (le_trans (wider_longer best l).1 (fold_longer (wider best l) ls), fold_each (wider best l) ls)

pub each_shorter : (layouts : List Layout) → AllByRecursion (λ l. l.length ≤ (widest layouts).length) layouts
each_shorter [] = tt
each_shorter (l ∷ ls) = (fold_longer l ls, fold_each l ls)

pub due_shorter : (layouts : List Layout) (bytes : List ℕ) → (expected_layout layouts bytes).length ≤ (widest layouts).length
unfolding expected_layout
due_shorter layouts bytes = due_by_all (λ l. l.length ≤ (widest layouts).length) layouts (slice_get bytes 4) (omega arith) (each_shorter layouts)

-- ---- the byte that names a layout

-- The byte of the layout names one.
abbrev Named : List Layout → Layout → Type 0
Named layouts layout = layout_with_byte layouts layout.byte ≡ None → ⊥

named_further : (l : Layout) (layouts : List Layout) (k : Layout) → Named layouts k → Named (l ∷ layouts) k
named_further l layouts k some = elim (l.byte == k.byte) as (λ b. cond b (Some l) (layout_with_byte layouts k.byte) ≡ None → ⊥) [
  | true ↦ λ (e : ◌≡◌ {A = Option Layout} (Some l) None). cc
  | false ↦ λ e. some e
]

each_further : (l : Layout) (layouts ks : List Layout) → AllByRecursion (Named layouts) ks → AllByRecursion (Named (l ∷ layouts)) ks
each_further l layouts [] all = tt
each_further l layouts (k ∷ ks) all = (named_further l layouts k all.0, each_further l layouts ks all.1)

named_first : (l : Layout) (layouts : List Layout) → Named (l ∷ layouts) l
named_first l layouts = subst (λ b. cond b (Some l) (layout_with_byte layouts l.byte) ≡ None → ⊥) (sym (eq-eqb l.byte l.byte refl)) (λ (e : ◌≡◌ {A = Option Layout} (Some l) None). cc)

each_named : (layouts : List Layout) → AllByRecursion (Named layouts) layouts
each_named [] = tt
each_named (l ∷ ls) = (named_first l ls, each_further l ls ls (each_named ls))

-- The widest layout's byte names one.
pub widest_named : (layouts : List Layout) → 0 < length layouts → layout_with_byte layouts (widest layouts).byte ≡ None → ⊥
widest_named layouts some none = widest_all (Named layouts) layouts some (each_named layouts) none

one_by : (layouts : List Layout) (layout : Layout) (o : Option Layout) → 0 < length layouts → layout_with_byte layouts layout.byte ≡ o → layout ≡ unwrap_or o (widest layouts) → IsOneOf layouts layout
one_by layouts layout None some none is = absurd (widest_named layouts some (subst (λ (l : Layout). layout_with_byte layouts l.byte ≡ None) is none))
one_by layouts layout (Some l) some found is = found ∙ ap (λ (k : Layout). Some k) (sym is)

-- The expected layout is of the list, if its byte comes after the length.
pub due_is_one : (layouts : List Layout) (bytes : List ℕ) → 0 < length layouts → slice_get bytes 4 ≡ Some (expected_layout layouts bytes).byte → IsOneOf layouts (expected_layout layouts bytes)
unfolding expected_layout
due_is_one layouts bytes some at = one_by layouts (expected_layout layouts bytes) (layout_with_byte layouts (expected_layout layouts bytes).byte) some refl (ap (expected_by layouts) at)

-- A layout of the list is the expected one if its byte comes after the length.
pub due_of : (layouts : List Layout) (layout : Layout) (bytes : List ℕ) → IsOneOf layouts layout → slice_get bytes 4 ≡ Some layout.byte → expected_layout layouts bytes ≡ layout
unfolding expected_layout
due_of layouts layout bytes one at = ap (expected_by layouts) at ∙ ap (λ (o : Option Layout). unwrap_or o (widest layouts)) one

-- The widest layout is expected if the byte names none.
pub due_unnamed : (layouts : List Layout) (byte : ℕ) (bytes : List ℕ) → layout_with_byte layouts byte ≡ None → slice_get bytes 4 ≡ Some byte → expected_layout layouts bytes ≡ widest layouts
unfolding expected_layout
due_unnamed layouts byte bytes none at = ap (expected_by layouts) at ∙ ap (λ (o : Option Layout). unwrap_or o (widest layouts)) none

pub byte_of_frame : (layout : Layout) (m : Message) (rest : List ℕ) → slice_get (frame layout m ++ rest) 4 ≡ Some layout.byte
unfolding four_bytes
byte_of_frame layout m rest = refl

-- The expected layout at a frame is the one that it is spelled in.
pub due_of_frame : (layouts : List Layout) (layout : Layout) (m : Message) (rest : List ℕ) → IsOneOf layouts layout → expected_layout layouts (frame layout m ++ rest) ≡ layout
due_of_frame layouts layout m rest one = due_of layouts layout (frame layout m ++ rest) one (byte_of_frame layout m rest)

-- ---- more bytes

-- The widest layout is expected until the byte has come.
pub due_early : (layouts : List Layout) (bytes : List ℕ) → length bytes ≤ 4 → expected_layout layouts bytes ≡ widest layouts
unfolding expected_layout
due_early layouts bytes few = ap (expected_by layouts) (slice_get_past bytes 4 few)

fifth_longer : (xs ys : List ℕ) → 4 < length xs → slice_get (xs ++ ys) 4 ≡ slice_get xs 4
fifth_longer xs ys long =
    slice_get-get_or (xs ++ ys) 4 0 (omega (arith, length-append xs ys))
    ∙ ap (λ (b : ℕ). Some b) (get_or_append_left xs ys 0 4 long)
    ∙ sym (slice_get-get_or xs 4 0 long)

-- More bytes change nothing once it has come.
pub due_longer : (layouts : List Layout) (xs ys : List ℕ) → 4 < length xs → expected_layout layouts (xs ++ ys) ≡ expected_layout layouts xs
unfolding expected_layout
due_longer layouts xs ys long = ap (expected_by layouts) (fifth_longer xs ys long)
