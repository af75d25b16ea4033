-- Lines that are done and written, and then some more.
use Rattle.std.proofs.Common.{◌≡◌, ℕ, ◌+◌, ◌⊎◌, inl, inr, List, [], ◌++◌, length, take, Option, refl, sym, ap, ◌∙◌, subst, append-nil}
use Rattle.std.specs.Io.KnownBytes.{Appends}
use Rattle.std.proofs.KnownBytes.{Appends-nil, Appends-trans}
use Rattle.cg_types.specs.declared.fault.Fault.{Fault}
use Rattle.cg_types.specs.declared.fault.Fault.TheVariants.{OutOfMemory}
use Rattle.cg_links.specs.declared.counted.Counted.{Counted}
use Rattle.cg_links.specs.Counts.{one_more}
use Rattle.cg_links.specs.Counted.{KeepsCounts, CountsFailed, CountsIdle}
use Rattle.cg_links.proofs.Counts.{KeepsCounts-trans}
use Rattle.cg_sim.specs.declared.play.Play.{Play}
use Rattle.cg_sim.specs.Script.{after_lines, lines_text}
use Rattle.cg_sim.specs.Told.{AreTold, IsUntold, RunsOut, BreaksOff}
use Rattle.cg_sim.proofs.TextLemmas.{after_lines-append, lines_text-append, text_front-more, take_front}

-- a failure after calls that all went well
pub caused_later : {L : Type 0} (a b c : Counted L) → KeepsCounts a b → CountsFailed b c ⊎ CountsIdle b c → CountsFailed a c ⊎ CountsIdle a c
caused_later a b c kept (inl f) = inl (record { failed = f.failed ∙ ap one_more kept.failed; idle = f.idle ∙ kept.idle })
caused_later a b c kept (inr i) = inr (record { failed = i.failed ∙ kept.failed; idle = i.idle ∙ cc })

pub told_none : {L : Type 0} (p : Play) (a : Option (List ℕ)) (w : Counted L) → AreTold p p [] a a w w
told_none p a w = record { play = refl; text = Appends-nil a; kept = record { failed = refl; idle = refl } }

pub told_on : {L : Type 0} (p q r : Play) (xs ys : List (List ℕ)) (a b c : Option (List ℕ)) (u v w : Counted L)
    → AreTold p q xs a b u v → AreTold q r ys b c v w → AreTold p r (xs ++ ys) a c u w
told_on p q r xs ys a b c u v w one two = record {
  play = two.play ∙ ap (λ (s : Play). after_lines s ys) one.play ∙ sym (after_lines-append p xs ys);
  text = subst (λ (t : List ℕ). Appends a c t) (ap (λ (s : Play). lines_text p xs ++ lines_text s ys) one.play ∙ sym (lines_text-append p xs ys)) (Appends-trans a b c _ _ one.text two.text);
  kept = KeepsCounts-trans u v w one.kept two.kept;
}

pub breaks_off_on : {L : Type 0} (p q : Play) (xs ys : List (List ℕ)) (a b c : Option (List ℕ)) (u v w : Counted L) (f : Fault)
    → AreTold p q xs a b u v → BreaksOff q ys b c v w f → BreaksOff p (xs ++ ys) a c u w f
breaks_off_on p q xs ys a b c u v w f one two = record {
  fault = two.fault;
  count = length (lines_text p xs) + two.count;
  text = subst (λ (t : List ℕ). Appends a c t)
      (ap (λ (s : Play). lines_text p xs ++ take two.count (lines_text s ys)) one.play ∙ sym (text_front-more p xs ys two.count))
      (Appends-trans a b c _ _ one.text two.text);
  caused = caused_later u v w one.kept two.caused;
}

-- nothing is written if there is no memory for a line
pub nothing_told : {L : Type 0} (a : Option (List ℕ)) (u : Counted L) (f : Fault) → f ≡ OutOfMemory → IsUntold a a u u f
nothing_told a u f short = record { fault = short; text = Appends-nil a; kept = record { failed = refl; idle = refl } }

-- the first of some lines are done and written, and then nothing
pub runs_out_behind : {L : Type 0} (p q : Play) (front lines : List (List ℕ)) (n : ℕ) (a b c : Option (List ℕ)) (u v w : Counted L) (f : Fault)
    → AreTold p q front a b u v → IsUntold b c v w f → front ≡ take n lines → RunsOut p lines a c u w f
runs_out_behind p q front lines n a b c u v w f told none is = record {
  fault = none.fault;
  count = n;
  text = subst (λ (t : List ℕ). Appends a c t) (append-nil (lines_text p front) ∙ ap (lines_text p) is)
      (Appends-trans a b c (lines_text p front) [] told.text none.text);
  kept = KeepsCounts-trans u v w told.kept none.kept;
}

-- with further lines
pub breaks_off_wider : {L : Type 0} (p : Play) (xs ys : List (List ℕ)) (a b : Option (List ℕ)) (u v : Counted L) (f : Fault)
    → BreaksOff p xs a b u v f → BreaksOff p (xs ++ ys) a b u v f
breaks_off_wider p xs ys a b u v f h =
    let front = take_front h.count (lines_text p xs) (lines_text (after_lines p xs) ys) in
    record { fault = h.fault; count = front.0; text = subst (λ (t : List ℕ). Appends a b t) (front.1 ∙ ap (take front.0) (sym (lines_text-append p xs ys))) h.text; caused = h.caused }
