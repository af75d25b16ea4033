-- Lines that are taken, and then some more.
use Rattle.std.proofs.Common.{◌≡◌, ℕ, false, length, ◌⊎◌, inl, inr, List, [], ◌∷◌, ◌++◌, Some, None, refl, sym, ap, ◌∙◌, subst, append_assoc, append-nil}
use Rattle.std.specs.Prelude.{◌==◌}
use Rattle.cg_types.specs.declared.fault.Fault.{Fault}
use Rattle.cg_types.specs.declared.fault.Fault.TheVariants.{OutOfMemory}
use Rattle.cg_types.specs.Words.{cut_at}
use Rattle.cg_links.specs.Lines.{ended_lines, unended_line, last_line}
use Rattle.cg_links.specs.declared.lines.Next.{Next}
use Rattle.cg_links.specs.declared.lines.Next.TheVariants.{More, Stop}
use Rattle.cg_links.specs.Taken.{Takes, Refuses, Lacks, Goes, EndsAmong}
use Rattle.cg_links.proofs.LineLemmas.{ended_some, open_some, ended_none, open_none}

-- a last line that is not empty
pub last_some : (line : List ℕ) → (length line == 0) ≡ false → last_line line ≡ line ∷ []
last_some [] e = absurd cc
last_some (b ∷ bs) e = refl

module _ {S : Type 0} (takes : S → List ℕ → S → Type 0) (refuses : S → List ℕ → S → Fault → Type 0) where
  pub takes_on : (p q r : S) (xs ys : List (List ℕ)) → Takes takes refuses p xs q → Takes takes refuses q ys r → Takes takes refuses p (xs ++ ys) r
  takes_on p q r [] ys one two = subst (λ (s : S). Takes takes refuses s ys r) (sym one) two
  takes_on p q r (x ∷ xs) ys one two = (one.0, one.1, takes_on one.0 q r xs ys one.2 two)

  pub refuses_on : (p q r : S) (xs ys : List (List ℕ)) (f : Fault) → Takes takes refuses p xs q → Refuses takes refuses q ys r f → Refuses takes refuses p (xs ++ ys) r f
  refuses_on p q r xs ys f one two = record {
    front = xs ++ two.front;
    line = two.line;
    rest = two.rest;
    are = ap (λ (l : List (List ℕ)). xs ++ l) two.are ∙ sym (append_assoc xs two.front (two.line ∷ two.rest));
    middle = two.middle;
    taken = takes_on p q two.middle xs two.front one two.taken;
    refused = two.refused;
  }

  pub lacks_on : (p q r : S) (xs ys : List (List ℕ)) (f : Fault) → Takes takes refuses p xs q → Lacks takes refuses q ys r f → Lacks takes refuses p (xs ++ ys) r f
  lacks_on p q r xs ys f one two = record {
    fault = two.fault;
    front = xs ++ two.front;
    rest = two.rest;
    are = ap (λ (l : List (List ℕ)). xs ++ l) two.are ∙ sym (append_assoc xs two.front two.rest);
    taken = takes_on p q r xs two.front one two.taken;
  }

  pub refuses_first : (p r : S) (line : List ℕ) (rest : List (List ℕ)) (f : Fault) → refuses p line r f → Refuses takes refuses p (line ∷ rest) r f
  refuses_first p r line rest f h = record { front = []; line = line; rest = rest; are = refl; middle = p; taken = refl; refused = h }

  pub lacks_now : (p : S) (lines : List (List ℕ)) (f : Fault) → f ≡ OutOfMemory → Lacks takes refuses p lines p f
  lacks_now p lines f short = record { fault = short; front = []; rest = lines; are = refl; taken = refl }

  -- ---- the lines of a chunk

  -- some lines of the chunk are taken, and the others are in the rest
  pub record Taking (p q : S) (first front piece rest : List ℕ) : Type 0 where
    pub lines : List (List ℕ)
    pub ended : ended_lines first piece ≡ lines ++ ended_lines front rest
    pub unended : unended_line first piece ≡ unended_line front rest
    pub taken : Takes takes refuses p lines q

  pub taking_none : (p : S) (front piece : List ℕ) → Taking p p front front piece piece
  taking_none p front piece = record { lines = []; ended = refl; unended = refl; taken = refl }

  pub taking_more : (p q r : S) (first front piece rest : List ℕ) (parts : List ℕ × List ℕ)
      → Taking p q first front piece rest → cut_at 10 rest ≡ Some parts → takes q (front ++ parts.0) r
      → Taking p r first [] piece parts.1
  taking_more p q r first front piece rest parts t cut taken = record {
    lines = t.lines ++ (front ++ parts.0) ∷ [];
    ended = t.ended ∙ ap (λ (ls : List (List ℕ)). t.lines ++ ls) (ended_some front rest parts cut)
        ∙ sym (append_assoc t.lines ((front ++ parts.0) ∷ []) (ended_lines [] parts.1));
    unended = t.unended ∙ open_some front rest parts cut;
    taken = takes_on p q r t.lines ((front ++ parts.0) ∷ []) t.taken (r, taken, refl);
  }

  pub taking_all : (p q : S) (first front piece rest : List ℕ)
      → Taking p q first front piece rest → cut_at 10 rest ≡ None → Takes takes refuses p (ended_lines first piece) q
  taking_all p q first front piece rest t cut =
      let all : t.lines ≡ ended_lines first piece =
      sym (t.ended ∙ ap (λ (ls : List (List ℕ)). t.lines ++ ls) (ended_none front rest cut) ∙ append-nil t.lines) in
      subst (λ (ls : List (List ℕ)). Takes takes refuses p ls q) all t.taken

  -- no memory for the next line
  pub taking_short : (p q : S) (first front piece rest : List ℕ) (f : Fault)
      → Taking p q first front piece rest → f ≡ OutOfMemory → Lacks takes refuses p (ended_lines first piece) q f
  taking_short p q first front piece rest f t short =
      subst (λ (ls : List (List ℕ)). Lacks takes refuses p ls q f) (sym t.ended)
      (lacks_on p q q t.lines (ended_lines front rest) f t.taken (lacks_now q (ended_lines front rest) f short))

  -- the next line is refused, or finds no memory
  pub taking_stops : (p q r : S) (first front piece rest : List ℕ) (parts : List ℕ × List ℕ) (f : Fault)
      → Taking p q first front piece rest → cut_at 10 rest ≡ Some parts
      → refuses q (front ++ parts.0) r f ⊎ ((f ≡ OutOfMemory) × (r ≡ q))
      → Refuses takes refuses p (ended_lines first piece) r f ⊎ Lacks takes refuses p (ended_lines first piece) r f
  taking_stops p q r first front piece rest parts f t cut (inl refused) =
      let all : t.lines ++ ((front ++ parts.0) ∷ ended_lines [] parts.1) ≡ ended_lines first piece =
      sym (t.ended ∙ ap (λ (ls : List (List ℕ)). t.lines ++ ls) (ended_some front rest parts cut)) in
      inl (subst (λ (ls : List (List ℕ)). Refuses takes refuses p ls r f) all
      (refuses_on p q r t.lines ((front ++ parts.0) ∷ ended_lines [] parts.1) f t.taken
      (refuses_first q r (front ++ parts.0) (ended_lines [] parts.1) f refused)))
  taking_stops p q r first front piece rest parts f t cut (inr short) =
      inr (subst (λ (s : S). Lacks takes refuses p (ended_lines first piece) s f) (sym short.1)
      (taking_short p q first front piece rest f t short.0))

  -- the rest is kept
  pub taking_kept : (p q : S) (first front next piece rest : List ℕ)
      → Taking p q first front piece rest → cut_at 10 rest ≡ None → next ≡ front ++ rest → next ≡ unended_line first piece
  taking_kept p q first front next piece rest t cut is = is ∙ sym (t.unended ∙ open_none front rest cut)

module _ {S : Type 0} (takes ends : S → List ℕ → S → Type 0) (refuses : S → List ℕ → S → Fault → Type 0) where
  -- ---- a line that ends the reading

  pub ends_on : (p q r : S) (xs ys : List (List ℕ)) → Takes takes refuses p xs q → EndsAmong takes ends refuses q ys r → EndsAmong takes ends refuses p (xs ++ ys) r
  ends_on p q r xs ys one two = record {
    front = xs ++ two.front;
    line = two.line;
    rest = two.rest;
    are = ap (λ (l : List (List ℕ)). xs ++ l) two.are ∙ sym (append_assoc xs two.front (two.line ∷ two.rest));
    middle = two.middle;
    taken = takes_on takes refuses p q two.middle xs two.front one two.taken;
    ended = two.ended;
  }

  ends_first : (p r : S) (line : List ℕ) (rest : List (List ℕ)) → ends p line r → EndsAmong takes ends refuses p (line ∷ rest) r
  ends_first p r line rest h = record { front = []; line = line; rest = rest; are = refl; middle = p; taken = refl; ended = h }

  -- a line that is the only one
  pub goes_last : (next : Next) (p r : S) (line : List ℕ) → Goes takes ends next p line r
      → Takes takes refuses p (line ∷ []) r ⊎ EndsAmong takes ends refuses p (line ∷ []) r
  goes_last More p r line h = inl (r, h, refl)
  goes_last Stop p r line h = inr (ends_first p r line [] h)

  -- the next line of a chunk
  pub taking_ends : (p q r : S) (first front piece rest : List ℕ) (parts : List ℕ × List ℕ)
      → Taking takes refuses p q first front piece rest → cut_at 10 rest ≡ Some parts → ends q (front ++ parts.0) r
      → EndsAmong takes ends refuses p (ended_lines first piece) r
  taking_ends p q r first front piece rest parts t cut h =
      let all : t.lines ++ ((front ++ parts.0) ∷ ended_lines [] parts.1) ≡ ended_lines first piece =
      sym (t.ended ∙ ap (λ (ls : List (List ℕ)). t.lines ++ ls) (ended_some front rest parts cut)) in
      subst (λ (ls : List (List ℕ)). EndsAmong takes ends refuses p ls r) all
      (ends_on p q r t.lines ((front ++ parts.0) ∷ ended_lines [] parts.1) t.taken
      (ends_first q r (front ++ parts.0) (ended_lines [] parts.1) h))
