-- Each step of the channel keeps its rule.
use Rattle.std.proofs.Common.{◌≡◌, ◌≢◌, ℕ, zero, suc, ◌⊎◌, ◌||◌, true, false, List, [], ◌∷◌, ◌++◌, length, set, refl, sym, ap, ◌∙◌, subst, inl, inr, ⊎_elim, append_assoc}
use Rattle.std.proofs.lemmas.List.{append-nil}
use mathlib.Core.Option.{some, some-injective, some-ne-none}
use lib.ListN.{get_elem?}
use Rattle.atomic_table.proofs.Lists.{at_set}
use Rattle.crossbeam_channel.specs.Fifo.{Pushes, Pops, Forks, Merges, Learns}
use Rattle.cg_workers.specs.declared.round.Round.{Round}
use Rattle.cg_workers.specs.declared.rule.NextRound.{NextRound}
use Rattle.cg_workers.specs.declared.rule.Hand.{Hand}
use Rattle.cg_workers.specs.Rounds.{round_of, rounds_of, is_done, hand, HandFits, InOrder}

rounds-append : (xs ys : List NextRound) → rounds_of (xs ++ ys) ≡ rounds_of xs ++ rounds_of ys
rounds-append [] ys = refl
rounds-append (x ∷ xs) ys = ap (λ ns. round_of x ++ ns) (rounds-append xs ys) ∙ sym (append_assoc (round_of x) (rounds_of xs) (rounds_of ys))

-- the last element of a list is at its length
at_end : {A : Type 0} (l : List A) (a b : A) (j : ℕ) → get_elem? (l ++ a ∷ []) j ≡ some b → (get_elem? l j ≡ some b) ⊎ ((j ≡ length l) × (a ≡ b))
at_end [] a b zero e = inr (refl, some-injective a b e)
at_end [] a b (suc j) e = absurd (some-ne-none b (sym e))
at_end (x ∷ xs) a b zero e = inl e
at_end (x ∷ xs) a b (suc j) e = ⊎_elim inl (λ (t : (j ≡ length xs) × (a ≡ b)). inr (ap suc t.0, t.1)) (at_end xs a b j e)

off : false ≡ true → ⊥
off e = absurd cc

-- the first pass may put and take
pub starts : InOrder [] (hand true true [] [] false ∷ [])
starts = (zero, zero, [], [], refl, only)
  where
    only : (pass : ℕ) (v : Hand) → get_elem? (hand true true [] [] false ∷ []) pass ≡ some v → HandFits zero zero [] [] pass v
    only zero v e = let s = some-injective _ v e in ((λ p. (refl, ap (λ (h : Hand). h.put) (sym s))), (λ p. (refl, ap (λ (h : Hand). h.taken) (sym s))))
    only (suc j) v e = absurd (some-ne-none v (sym e))

pub puts : (n pass : ℕ) (v : Hand) (x : NextRound) → v.puts ≡ true → v.takes ≡ false → Pushes InOrder n pass v x (λ w. w ≡ hand v.puts v.takes (v.put ++ round_of x) v.taken (is_done x || v.said))
puts n pass v x may not_takes items views room h at =
    let putter = h.0 in let taker = h.1 in let put = h.2 in let taken = h.3 in
    let w = hand v.puts v.takes (v.put ++ round_of x) v.taken (is_done x || v.said) in
    let mine = (h.5 pass v at).0 may in
    let whole : put ++ round_of x ≡ taken ++ rounds_of (items ++ x ∷ []) =
    ap (λ (ns : List Round). ns ++ round_of x) h.4 ∙ append_assoc taken (rounds_of items) (round_of x)
    ∙ ap (λ (ns : List Round). taken ++ ns) (sym (rounds-append items (x ∷ []) ∙ ap (λ (ns : List Round). rounds_of items ++ ns) (append-nil (round_of x)))) in (
      w,
      (
        putter,
        taker,
        put ++ round_of x,
        taken,
        whole,
        (λ j u e. ⊎_elim
            (λ (t : (j ≡ pass) × (w ≡ u)). subst (λ (z : Hand). HandFits putter taker (put ++ round_of x) taken j z) t.1
            ((λ p. (t.0 ∙ mine.0, ap (λ (ns : List Round). ns ++ round_of x) mine.1)), (λ p. absurd (off (sym not_takes ∙ p)))))
            (λ (t : (j ≢ pass) × (get_elem? views j ≡ some u)). let f = h.5 j u t.1 in
            ((λ p. absurd (t.0 ((f.0 p).0 ∙ sym mine.0))), f.1))
            (at_set views pass j w u e)),
      ),
      refl,
    )

pub takes : (pass : ℕ) (v : Hand) → v.takes ≡ true → v.puts ≡ false → Pops InOrder pass v (λ x w. w ≡ hand v.puts v.takes v.put (v.taken ++ round_of x) v.said)
takes pass v may not_puts x items views h at =
    let putter = h.0 in let taker = h.1 in let put = h.2 in let taken = h.3 in
    let w = hand v.puts v.takes v.put (v.taken ++ round_of x) v.said in
    let mine = (h.5 pass v at).1 may in (
      w,
      (
        putter,
        taker,
        put,
        taken ++ round_of x,
        h.4 ∙ sym (append_assoc taken (round_of x) (rounds_of items)),
        (λ j u e. ⊎_elim
            (λ (t : (j ≡ pass) × (w ≡ u)). subst (λ (z : Hand). HandFits putter taker put (taken ++ round_of x) j z) t.1
            ((λ p. absurd (off (sym not_puts ∙ p))), (λ p. (t.0 ∙ mine.0, ap (λ (ns : List Round). ns ++ round_of x) mine.1))))
            (λ (t : (j ≢ pass) × (get_elem? views j ≡ some u)). let f = h.5 j u t.1 in
            (f.0, (λ p. absurd (t.0 ((f.1 p).0 ∙ sym mine.0)))))
            (at_set views pass j w u e)),
      ),
      refl,
    )

pub cuts : (pass : ℕ) (v : Hand) → v.puts ≡ true → v.takes ≡ true → Forks InOrder pass v (hand true false v.put [] v.said) (hand false true [] v.taken false)
cuts pass v may can items views h at =
    let putter = h.0 in let put = h.2 in let taken = h.3 in
    let left = hand true false v.put [] v.said in let right = hand false true [] v.taken false in
    let f = h.5 pass v at in let mine = f.0 may in let his = f.1 can in
    let new = length (set views pass left) in (
      pass,
      new,
      put,
      taken,
      h.4,
      (λ j u e. ⊎_elim
          (λ (there : get_elem? (set views pass left) j ≡ some u). ⊎_elim
          (λ (t : (j ≡ pass) × (left ≡ u)). subst (λ (z : Hand). HandFits pass new put taken j z) t.1 ((λ p. (t.0, mine.1)), (λ p. absurd (off p))))
          (λ (t : (j ≢ pass) × (get_elem? views j ≡ some u)). let g = h.5 j u t.1 in
          ((λ p. absurd (t.0 ((g.0 p).0 ∙ sym mine.0))), (λ p. absurd (t.0 ((g.1 p).0 ∙ sym his.0)))))
          (at_set views pass j left u there))
          (λ (t : (j ≡ new) × (right ≡ u)). subst (λ (z : Hand). HandFits pass new put taken j z) t.1 ((λ p. absurd (off p)), (λ p. (t.0, his.1))))
          (at_end (set views pass left) right u j e)),
    )

pub joins : (pass : ℕ) (v : Hand) (other : ℕ) (w : Hand) → v.puts ≡ true → w.takes ≡ true → Merges InOrder pass v other w (hand true true v.put w.taken v.said) (hand false false [] [] false)
joins pass v other w may can items views h at apart there =
    let putter = h.0 in let put = h.2 in let taken = h.3 in
    let both = hand true true v.put w.taken v.said in let spent = hand false false [] [] false in
    let mine = (h.5 pass v at).0 may in
    let old : get_elem? views other ≡ some w = ⊎_elim (λ (t : (other ≡ pass) × (both ≡ w)). absurd (apart t.0)) (λ (t : (other ≢ pass) × (get_elem? views other ≡ some w)). t.1) (at_set views pass other both w there) in
    let his = (h.5 other w old).1 can in (
      pass,
      pass,
      put,
      taken,
      h.4,
      (λ j u e. ⊎_elim
          (λ (t : (j ≡ other) × (spent ≡ u)). subst (λ (z : Hand). HandFits pass pass put taken j z) t.1 ((λ p. absurd (off p)), (λ p. absurd (off p))))
          (λ (t : (j ≢ other) × (get_elem? (set views pass both) j ≡ some u)). ⊎_elim
          (λ (s : (j ≡ pass) × (both ≡ u)). subst (λ (z : Hand). HandFits pass pass put taken j z) s.1 ((λ p. (s.0, mine.1)), (λ p. (s.0, his.1))))
          (λ (s : (j ≢ pass) × (get_elem? views j ≡ some u)). let g = h.5 j u s.1 in
          ((λ p. absurd (s.0 ((g.0 p).0 ∙ sym mine.0))), (λ p. absurd (t.0 ((g.1 p).0 ∙ sym his.0)))))
          (at_set views pass j both u t.1))
          (at_set (set views pass both) other j spent u e)),
    )

pub totals : (pass : ℕ) (v : Hand) → v.puts ≡ true → v.takes ≡ true → Learns InOrder pass v (λ items. v.put ≡ v.taken ++ rounds_of items)
totals pass v may can items views h at =
    let f = h.5 pass v at in
    (f.0 may).1 ∙ h.4 ∙ ap (λ (ns : List Round). ns ++ rounds_of items) (sym (f.1 can).1)
