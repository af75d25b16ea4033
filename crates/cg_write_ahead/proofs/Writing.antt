-- The text of a life with one record more.
use Rattle.std.proofs.Common.{◌≡◌, ℕ, zero, suc, ◌-◌, ◌≤◌, Bool, true, false, List, [], ◌∷◌, ◌++◌, length, take, Option, Some, None, IsSome, refl, sym, ap, ◌∙◌, subst, arith, append_assoc, append-nil, length-append}
use Rattle.std.specs.Prelude.{IfSome}
use Rattle.std.specs.Io.KnownBytes.{Appends}
use Rattle.std.proofs.Math.Seq.{take-append-add, take-append_seam, take-length}
use Rattle.std.proofs.lemmas.List.{map-append}
use Rattle.cg_core.specs.declared.event.Event.{Event}
use Rattle.cg_core.specs.declared.reply.Reply.{Reply}
use Rattle.cg_core.specs.Values.{NodeValue}
use Rattle.cg_history.specs.declared.item.Item.{Item}
use Rattle.cg_journal.specs.Text.{life_line, event_line, event_lines, joined}
use Rattle.cg_journal.proofs.WrittenLemmas.{joined-append}
use Rattle.cg_write_ahead.specs.Text.{life_text, but_last, HoldsText}
use Rattle.cg_write_ahead.specs.Submitting.{IsOneMore}

-- one record more is one line more
text_more : (start : NodeValue) (records : List Item) (r : Item) → life_text start (records ++ r ∷ []) ≡ life_text start records ++ event_line r.event
text_more start records r =
    ap (λ (ls : List (List ℕ)). life_line start ++ joined ls) (map-append (λ (i : Item). event_line i.event) records (r ∷ []))
    ∙ ap (λ (t : List ℕ). life_line start ++ t) (joined-append (event_lines records) (event_line r.event ∷ []))
    ∙ ap (λ (t : List ℕ). life_line start ++ (joined (event_lines records) ++ t)) (append-nil (event_line r.event))
    ∙ sym (append_assoc (life_line start) (joined (event_lines records)) (event_line r.event))

but_last_is : (records : List Item) (r : Item) → but_last (records ++ r ∷ []) ≡ records
but_last_is records r =
    let long : length (records ++ r ∷ []) - 1 ≡ length records = omega (arith, length-append records (r ∷ [])) in
    ap (λ (n : ℕ). take n (records ++ r ∷ [])) long ∙ take-append_seam records (r ∷ [])

same_front : (n : ℕ) (xs ys : List ℕ) → xs ++ take n ys ≡ take (length (xs ++ take n ys)) (xs ++ ys)
same_front n xs ys =
    ap (λ (l : List ℕ). xs ++ l) (front n ys)
    ∙ sym (take-append-add xs ys (length (take n ys)))
    ∙ ap (λ (k : ℕ). take k (xs ++ ys)) (sym (length-append xs (take n ys)))
  where
    front : (n : ℕ) (ys : List ℕ) → take n ys ≡ take (length (take n ys)) ys
    front zero ys = refl
    front (suc n) [] = refl
    front (suc n) (y ∷ ys) = ap (λ (l : List ℕ). y ∷ l) (front n ys)

module _ (start : NodeValue) (records : List Item) (r : Item) where
  -- the whole line was written
  pub line_written : (old new : Option (List ℕ)) → IsSome old → IsSome new → HoldsText start records false old → Appends old new (event_line r.event)
      → HoldsText start (records ++ r ∷ []) false new
  line_written None new some _ holds appends = absurd cc
  line_written (Some xs) None _ some holds appends = absurd cc
  line_written (Some xs) (Some ys) _ _ holds appends =
      let is : ys ≡ life_text start (records ++ r ∷ []) = appends ∙ ap (λ (t : List ℕ). t ++ event_line r.event) (holds.0 refl) ∙ sym (text_more start records r) in (
        (λ _. is),
        (
          is ∙ sym (take-length (life_text start (records ++ r ∷ []))) ∙ ap (λ (n : ℕ). take n (life_text start (records ++ r ∷ []))) (ap length (sym is)),
          shorter ys appends,
        ),
      )
    where
      shorter : (ys : List ℕ) → ys ≡ xs ++ event_line r.event → length (life_text start (but_last (records ++ r ∷ []))) ≤ length ys
      shorter ys appends =
          let front : length (life_text start (but_last (records ++ r ∷ []))) ≡ length xs =
          ap (λ (l : List Item). length (life_text start l)) (but_last_is records r) ∙ ap length (sym (holds.0 refl)) in
          omega (arith, front, ap length appends, length-append xs (event_line r.event))

  -- a part of it was written, or all of it was not flushed
  pub line_torn : (old new : Option (List ℕ)) → IsSome old → IsSome new → HoldsText start records false old → (n : ℕ) × Appends old new (take n (event_line r.event))
      → HoldsText start (records ++ r ∷ []) true new
  line_torn None new some _ holds appends = absurd cc
  line_torn (Some xs) None _ some holds appends = absurd cc
  line_torn (Some xs) (Some ys) _ _ holds (n, appends) =
      let text = life_text start records in
      let is : ys ≡ text ++ take n (event_line r.event) = appends ∙ ap (λ (t : List ℕ). t ++ take n (event_line r.event)) (holds.0 refl) in
      let front : ys ≡ take (length ys) (life_text start (records ++ r ∷ [])) =
      is ∙ same_front n text (event_line r.event) ∙ ap (take (length (text ++ take n (event_line r.event)))) (sym (text_more start records r))
      ∙ ap (λ (k : ℕ). take k (life_text start (records ++ r ∷ []))) (ap length (sym is)) in
      let first : length (life_text start (but_last (records ++ r ∷ []))) ≡ length text = ap (λ (l : List Item). length (life_text start l)) (but_last_is records r) in (
        (λ not. absurd cc),
        (front, omega (arith, first, ap length is, length-append text (take n (event_line r.event)))),
      )

-- the first line was written
pub begun : (start : NodeValue) (old new : Option (List ℕ)) → IsSome old → IsSome new → IfSome old (λ bytes. bytes ≡ []) → Appends old new (life_text start []) → HoldsText start [] false new
begun start None new some _ none appends = absurd cc
begun start (Some xs) None _ some none appends = absurd cc
begun start (Some xs) (Some ys) _ _ none appends =
    let is : ys ≡ life_text start [] = appends ∙ ap (λ (t : List ℕ). t ++ life_text start []) none in (
      (λ _. is),
      (is ∙ sym (take-length (life_text start [])) ∙ ap (λ (n : ℕ). take n (life_text start [])) (ap length (sym is)), omega (arith, ap length is)),
    )

-- ---- records by their event and reply

module _ (start : NodeValue) (records more : List Item) (e : Event) (answer : Reply) (one : IsOneMore e answer records more) (torn : Bool) (whole : torn ≡ false)
    (line : List ℕ) (is : line ≡ event_line e) (old new : Option (List ℕ)) (told : IsSome old) (tells : IsSome new) (holds : HoldsText start records torn old) where
  abbrev its_line : line ≡ event_line one.item.event
  its_line = is ∙ ap event_line (sym one.event)

  abbrev held : HoldsText start records false old
  held = subst (λ (b : Bool). HoldsText start records b old) whole holds

  pub line_kept : Appends old new line → HoldsText start more torn new
  line_kept appends =
      subst (λ (b : Bool). HoldsText start more b new) (sym whole)
      (subst (λ (l : List Item). HoldsText start l false new) (sym one.are)
      (line_written start records one.item old new told tells held (subst (λ (l : List ℕ). Appends old new l) its_line appends)))

  pub line_lost : (n : ℕ) × Appends old new (take n line) → HoldsText start more true new
  line_lost front =
      subst (λ (l : List Item). HoldsText start l true new) (sym one.are)
      (line_torn start records one.item old new told tells held (front.0, subst (λ (l : List ℕ). Appends old new (take front.0 l)) its_line front.1))
