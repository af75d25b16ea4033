-- Claims that are moved: those among them, and their order.
use Rattle.std.proofs.Common.{◌≡◌, ◌⊎◌, inl, inr, ℕ, zero, suc, ◌+◌, ◌<◌, Bool, true, false, cond, ◌==◌, List, [], ◌∷◌, ◌++◌, length, get_or, map, Option, Some, None, Result, Ok, Err, IfOk, refl, sym, ap, subst, ◌∙◌, arith}
use Rattle.std.specs.Prelude.{not, filter, ◌&&◌, ◌||◌, is_some, Contains}
use Rattle.std.specs.List.{flat_map}
use Rattle.std.specs.List.Sorted.{IsPermutation, IsSorted}
use Rattle.std.specs.Ordering.{nat_cmp, is_lt, eq_by_cmp}
use Rattle.std.specs.Cmp.{nat_cmp_total, eq_by_cmp_equiv}
use Rattle.std.specs.FinMap.{get, insert, entries, entries_sorted, get-entries, get-insert}
use Rattle.std.specs.FinMap.Entries.{find}
use Rattle.std.proofs.lemmas.List.{append-nil}
use Rattle.std.proofs.lemmas.List.Sorted.{Contains-permutation, IsPermutation-sym}
use Rattle.std.proofs.lemmas.Bool.Decides.{nat_tests}
use Rattle.cg_types.specs.Rising.{is_among, is_past, rise_past, Rises}
use Rattle.cg_types.proofs.RisingLemmas.{both, first_of, second_of, find_past, rise_sorted, same_tied}
use Rattle.cg_types.specs.Rows.{keys_of}
use Rattle.cg_entry.specs.Values.{EntryValue}
use Rattle.cg_table.specs.Values.{Entries}
use Rattle.cg_tokens.specs.declared.claims.Claim.{Claim}
use Rattle.cg_tokens.specs.Claims.{claim, claims, claims_of, rank, goes_before, without, before, behind, merge, keeps_claims}
use Rattle.cg_tokens.specs.Values.{RingValue}
use Rattle.cg_tokens.specs.Moving.{claims_by, AreTheSame, listed, IsRingOf, IsRingWith, AreMoved}
use Rattle.cg_tokens.specs.RingLaws.{ClaimsAlike}
use Rattle.cg_tokens.proofs.ClaimLemmas.{before-rank, heads_winners}
use Rattle.cg_tokens.proofs.OwnerLemmas.{among_found, row_found}
use Rattle.cg_tokens.proofs.RingLaws.{claims_stay, alike, ring_stays, kept_claims_are_alike}

-- ---- being among claims

abbrev pub In : Claim → List Claim → Type 0
In c [] = ⊥
In c (d ∷ ds) = (d ≡ c) ⊎ In c ds

among_at : (c : Claim) (k : ℕ) (cs : List Claim) → k < length cs → get_or cs k c ≡ c → In c cs
among_at c k [] less is = absurd (omega arith)
among_at c zero (d ∷ ds) less is = inl is
among_at c (suc k) (d ∷ ds) less is = inr (among_at c k ds (omega arith) is)

pub among : (c : Claim) (cs : List Claim) → Contains cs c → In c cs
among c cs held = among_at c held.0 cs held.1 held.2

pub contained : (c : Claim) (cs : List Claim) → In c cs → Contains cs c
contained c [] nowhere = absurd nowhere
contained c (d ∷ ds) (inl here) = (0, omega arith, here)
contained c (d ∷ ds) (inr there) = let at = contained c ds there in let less = at.1 in (suc at.0, omega arith, at.2)

in_left : (c : Claim) (xs ys : List Claim) → In c xs → In c (xs ++ ys)
in_left c [] ys nowhere = absurd nowhere
in_left c (x ∷ xs) ys (inl here) = inl here
in_left c (x ∷ xs) ys (inr there) = inr (in_left c xs ys there)

in_right : (c : Claim) (xs ys : List Claim) → In c ys → In c (xs ++ ys)
in_right c [] ys is = is
in_right c (x ∷ xs) ys is = inr (in_right c xs ys is)

in_either : (c : Claim) (xs ys : List Claim) → In c (xs ++ ys) → In c xs ⊎ In c ys
in_either c [] ys is = inr is
in_either c (x ∷ xs) ys (inl here) = inl (inl here)
in_either c (x ∷ xs) ys (inr there) = by (in_either c xs ys there)
  where
    by : In c xs ⊎ In c ys → In c (x ∷ xs) ⊎ In c ys
    by (inl a) = inl (inr a)
    by (inr b) = inr b

module _ (p : Claim → Bool) where
  kept : (c : Claim) (cs : List Claim) → p c ≡ true → In c cs → In c (filter p cs)
  kept c [] holds nowhere = absurd nowhere
  kept c (d ∷ ds) holds is = by (p d) refl is (kept c ds holds)
    where
      by : (b : Bool) → p d ≡ b → (d ≡ c) ⊎ In c ds → (In c ds → In c (filter p ds)) → In c (cond b (d ∷ filter p ds) (filter p ds))
      by true e (inl here) more = inl here
      by true e (inr there) more = inr (more there)
      by false e (inl here) more = let no : true ≡ false = sym holds ∙ ap p (sym here) ∙ e in absurd cc
      by false e (inr there) more = more there

  was_in : (c : Claim) (cs : List Claim) → In c (filter p cs) → In c cs × (p c ≡ true)
  was_in c [] nowhere = absurd nowhere
  was_in c (d ∷ ds) is = by (p d) refl is (was_in c ds)
    where
      by : (b : Bool) → p d ≡ b → In c (cond b (d ∷ filter p ds) (filter p ds)) → (In c (filter p ds) → In c ds × (p c ≡ true)) → In c (d ∷ ds) × (p c ≡ true)
      by true e (inl here) more = (inl here, ap p (sym here) ∙ e)
      by true e (inr there) more = let g = more there in (inr g.0, g.1)
      by false e there more = let g = more there in (inr g.0, g.1)

-- ---- two lists as one

parted : (c : Claim) (ds : List Claim) → before c ds ++ behind c ds ≡ ds
parted c [] = refl
parted c (d ∷ ds) = by (goes_before d c) (parted c ds)
  where
    by : (b : Bool) → before c ds ++ behind c ds ≡ ds → cond b (d ∷ before c ds) [] ++ cond b (behind c ds) (d ∷ ds) ≡ d ∷ ds
    by true h = ap (λ l. d ∷ l) h
    by false h = refl

merged_of : (c : Claim) (cs ds : List Claim) → In c (merge cs ds) → In c cs ⊎ In c ds
merged_of c [] ds is = inr is
merged_of c (d ∷ cs) ds is = by (in_either c (before d ds) (d ∷ merge cs (behind d ds)) is) (merged_of c cs (behind d ds))
  where
    rest : In c cs ⊎ In c (behind d ds) → In c (d ∷ cs) ⊎ In c ds
    rest (inl a) = inl (inr a)
    rest (inr b) = inr (subst (In c) (parted d ds) (in_right c (before d ds) (behind d ds) b))

    by : In c (before d ds) ⊎ ((d ≡ c) ⊎ In c (merge cs (behind d ds))) → (In c (merge cs (behind d ds)) → In c cs ⊎ In c (behind d ds)) → In c (d ∷ cs) ⊎ In c ds
    by (inl a) go = inr (subst (In c) (parted d ds) (in_left c (before d ds) (behind d ds) a))
    by (inr (inl here)) go = inl (inl here)
    by (inr (inr there)) go = rest (go there)

in_first : (c : Claim) (cs ds : List Claim) → In c cs → In c (merge cs ds)
in_first c [] ds nowhere = absurd nowhere
in_first c (d ∷ cs) ds (inl here) = in_right c (before d ds) (d ∷ merge cs (behind d ds)) (inl here)
in_first c (d ∷ cs) ds (inr there) = in_right c (before d ds) (d ∷ merge cs (behind d ds)) (inr (in_first c cs (behind d ds) there))

in_second : (c : Claim) (cs ds : List Claim) → In c ds → In c (merge cs ds)
in_second c [] ds is = is
in_second c (d ∷ cs) ds is = by (in_either c (before d ds) (behind d ds) (subst (In c) (sym (parted d ds)) is)) (in_second c cs (behind d ds))
  where
    by : In c (before d ds) ⊎ In c (behind d ds) → (In c (behind d ds) → In c (merge cs (behind d ds))) → In c (before d ds ++ d ∷ merge cs (behind d ds))
    by (inl a) go = in_left c (before d ds) (d ∷ merge cs (behind d ds)) a
    by (inr b) go = in_right c (before d ds) (d ∷ merge cs (behind d ds)) (inr (go b))

-- ---- they stay sorted

-- a test that a claim may come after the last one, if there is one
abbrev comes : Option Claim → Claim → Bool
comes None c = true
comes (Some l) c = not (goes_before c l)

abbrev pub ranked_past : Option Claim → List Claim → Bool
ranked_past last [] = true
ranked_past last (c ∷ cs) = comes last c && ranked_past (Some c) cs

not_false : (b : Bool) → b ≡ false → not b ≡ true
not_false true e = absurd cc
not_false false e = refl

not_true : (b : Bool) → not b ≡ true → b ≡ false
not_true true e = absurd cc
not_true false e = refl

sorted_tail : (c : Claim) (cs : List Claim) → IsSorted rank (c ∷ cs) → IsSorted rank cs
sorted_tail c cs up = λ k d lo hi.
    let next : suc k + 1 ≡ suc (k + 1) = omega arith in
    subst (λ (n : ℕ). is_lt (rank (get_or (c ∷ cs) n d) (get_or cs k d)) ≡ false) next (up (suc k) d (omega arith) (omega arith))

ranked_behind : (c : Claim) (cs : List Claim) → IsSorted rank (c ∷ cs) → ranked_past (Some c) cs ≡ true
ranked_behind c [] up = refl
ranked_behind c (d ∷ cs) up =
    both (not (goes_before d c)) (ranked_past (Some d) cs) (not_false (goes_before d c) (sym (before-rank d c) ∙ up 0 d (omega arith) (omega arith))) (ranked_behind d cs (sorted_tail c (d ∷ cs) up))

-- sorted claims are ranked
pub ranked_of : (cs : List Claim) → IsSorted rank cs → ranked_past None cs ≡ true
ranked_of [] up = refl
ranked_of (c ∷ cs) up = ranked_behind c cs up

ranked_at : (last : Option Claim) (cs : List Claim) → ranked_past last cs ≡ true → (k : ℕ) (d : Claim) → k + 1 < length cs → is_lt (rank (get_or cs (k + 1) d) (get_or cs k d)) ≡ false
ranked_at last [] up k d hi = absurd (omega arith)
ranked_at last (c ∷ []) up k d hi = absurd (omega arith)
ranked_at last (c ∷ e ∷ cs) up zero d hi =
    before-rank e c ∙ not_true (goes_before e c) (first_of (not (goes_before e c)) (ranked_past (Some e) cs) (second_of (comes last c) (ranked_past (Some c) (e ∷ cs)) up))
ranked_at last (c ∷ e ∷ cs) up (suc k) d hi =
    let next : suc (k + 1) ≡ suc k + 1 = omega arith in
    subst (λ (n : ℕ). is_lt (rank (get_or (c ∷ e ∷ cs) n d) (get_or (e ∷ cs) k d)) ≡ false) next (ranked_at (Some c) (e ∷ cs) (second_of (comes last c) (ranked_past (Some c) (e ∷ cs)) up) k d (omega arith))

-- ranked claims are sorted
pub sorted_of : (cs : List Claim) → ranked_past None cs ≡ true → IsSorted rank cs
sorted_of cs up = λ k d lo hi. ranked_at None cs up k d hi

asymmetric : (c d : Claim) → goes_before c d ≡ true → not (goes_before d c) ≡ true
asymmetric c d less = grind (arith, nat_tests)

transitive : (l c d : Claim) → not (goes_before c l) ≡ true → not (goes_before d c) ≡ true → not (goes_before d l) ≡ true
transitive l c d a b = grind (arith, nat_tests)

later : (last : Option Claim) (c d : Claim) → comes last c ≡ true → not (goes_before d c) ≡ true → comes last d ≡ true
later None c d a b = refl
later (Some l) c d a b = transitive l c d a b

ranked_earlier : (last : Option Claim) (c : Claim) (cs : List Claim) → comes last c ≡ true → ranked_past (Some c) cs ≡ true → ranked_past last cs ≡ true
ranked_earlier last c [] a up = refl
ranked_earlier last c (d ∷ ds) a up =
    both (comes last d) (ranked_past (Some d) ds) (later last c d a (first_of (not (goes_before d c)) (ranked_past (Some d) ds) up)) (second_of (not (goes_before d c)) (ranked_past (Some d) ds) up)

filter_ranked : (p : Claim → Bool) (last : Option Claim) (cs : List Claim) → ranked_past last cs ≡ true → ranked_past last (filter p cs) ≡ true
filter_ranked p last [] up = refl
filter_ranked p last (c ∷ cs) up = by (p c) (filter_ranked p (Some c) cs (second_of (comes last c) (ranked_past (Some c) cs) up))
  where
    by : (b : Bool) → ranked_past (Some c) (filter p cs) ≡ true → ranked_past last (cond b (c ∷ filter p cs) (filter p cs)) ≡ true
    by true rest = both (comes last c) (ranked_past (Some c) (filter p cs)) (first_of (comes last c) (ranked_past (Some c) cs) up) rest
    by false rest = ranked_earlier last c (filter p cs) (first_of (comes last c) (ranked_past (Some c) cs) up) rest

front_ranked : (last : Option Claim) (c : Claim) (ds rest : List Claim) → ranked_past last ds ≡ true → comes last c ≡ true → ranked_past (Some c) rest ≡ true → ranked_past last (before c ds ++ c ∷ rest) ≡ true
front_ranked last c [] rest up ok more = both (comes last c) (ranked_past (Some c) rest) ok more
front_ranked last c (d ∷ ds) rest up ok more = by (goes_before d c) refl (front_ranked (Some d) c ds rest (second_of (comes last d) (ranked_past (Some d) ds) up))
  where
    by : (b : Bool) → goes_before d c ≡ b → (comes (Some d) c ≡ true → ranked_past (Some c) rest ≡ true → ranked_past (Some d) (before c ds ++ c ∷ rest) ≡ true)
        → ranked_past last (cond b (d ∷ before c ds) [] ++ c ∷ rest) ≡ true
    by true e go = both (comes last d) (ranked_past (Some d) (before c ds ++ c ∷ rest)) (first_of (comes last d) (ranked_past (Some d) ds) up) (go (asymmetric d c e) more)
    by false e go = both (comes last c) (ranked_past (Some c) rest) ok more

behind_ranked : (last : Option Claim) (c : Claim) (ds : List Claim) → ranked_past last ds ≡ true → ranked_past (Some c) (behind c ds) ≡ true
behind_ranked last c [] up = refl
behind_ranked last c (d ∷ ds) up = by (goes_before d c) refl (behind_ranked (Some d) c ds (second_of (comes last d) (ranked_past (Some d) ds) up))
  where
    by : (b : Bool) → goes_before d c ≡ b → ranked_past (Some c) (behind c ds) ≡ true → ranked_past (Some c) (cond b (behind c ds) (d ∷ ds)) ≡ true
    by true e rest = rest
    by false e rest = both (not (goes_before d c)) (ranked_past (Some d) ds) (not_false (goes_before d c) e) (second_of (comes last d) (ranked_past (Some d) ds) up)

merge_ranked : (last : Option Claim) (cs ds : List Claim) → ranked_past last cs ≡ true → ranked_past last ds ≡ true → ranked_past last (merge cs ds) ≡ true
merge_ranked last [] ds a b = b
merge_ranked last (c ∷ cs) ds a b =
    front_ranked last c ds (merge cs (behind c ds)) b (first_of (comes last c) (ranked_past (Some c) cs) a)
    (merge_ranked (Some c) cs (behind c ds) (second_of (comes last c) (ranked_past (Some c) cs) a) (behind_ranked last c ds b))

-- claims that are moved stay sorted
pub moved_sorted : (owners : List ℕ) (cs ds : List Claim) → IsSorted rank cs → IsSorted rank ds → IsSorted rank (merge (without owners cs) ds)
moved_sorted owners cs ds a b =
    sorted_of (merge (without owners cs) ds) (merge_ranked None (without owners cs) ds (filter_ranked (λ (c : Claim). not (is_among owners c.endpoint)) None cs (ranked_of cs a)) (ranked_of ds b))

-- ---- the claims of a table

named : (o : ℕ × EntryValue) (c : Claim) (ts : List ℕ) → In c (map (claim o) ts) → c.endpoint ≡ o.0
named o c [] nowhere = absurd nowhere
named o c (t ∷ ts) (inl here) = ap (λ (x : Claim). x.endpoint) (sym here)
named o c (t ∷ ts) (inr there) = named o c ts there

of_owner : (o : ℕ × EntryValue) (c : Claim) → In c (claims_of o) → c.endpoint ≡ o.0
of_owner o c is = named o c _ is

module _ (c : Claim) where
  held_in : (last : Option ℕ) (es : List (ℕ × EntryValue)) → rise_past last (keys_of es) ≡ true → In c (flat_map claims_of es) → In c (claims_by c.endpoint (find nat_cmp c.endpoint es))
  held_in last [] rise is = is
  held_in last (e ∷ es) rise is = by (eq_by_cmp nat_cmp c.endpoint e.0) refl (in_either c (claims_of e) (flat_map claims_of es) is) (held_in (Some e.0) es rest)
    where
      rest : rise_past (Some e.0) (keys_of es) ≡ true
      rest = second_of (is_past last e.0) (rise_past (Some e.0) (keys_of es)) rise

      by : (b : Bool) → eq_by_cmp nat_cmp c.endpoint e.0 ≡ b → In c (claims_of e) ⊎ In c (flat_map claims_of es)
          → (In c (flat_map claims_of es) → In c (claims_by c.endpoint (find nat_cmp c.endpoint es))) → In c (claims_by c.endpoint (cond b (Some e.1) (find nat_cmp c.endpoint es)))
      by true tie (inl here) more = subst (λ (n : ℕ). In c (claims_of (n, e.1))) (sym (same_tied c.endpoint e.0 tie)) here
      by true tie (inr there) more = absurd (subst (λ (o : Option EntryValue). In c (claims_by c.endpoint o)) (find_past c.endpoint e.0 es tie rest) (more there))
      by false other (inl here) more =
          let same : eq_by_cmp nat_cmp c.endpoint e.0 ≡ true = ap (eq_by_cmp nat_cmp c.endpoint) (sym (of_owner e c here)) ∙ (eq_by_cmp_equiv nat_cmp_total).refl c.endpoint in
          absurd cc
      by false other (inr there) more = more there

  in_held : (es : List (ℕ × EntryValue)) → In c (claims_by c.endpoint (find nat_cmp c.endpoint es)) → In c (flat_map claims_of es)
  in_held [] is = is
  in_held (e ∷ es) is = by (eq_by_cmp nat_cmp c.endpoint e.0) refl is (in_held es)
    where
      by : (b : Bool) → eq_by_cmp nat_cmp c.endpoint e.0 ≡ b → In c (claims_by c.endpoint (cond b (Some e.1) (find nat_cmp c.endpoint es)))
          → (In c (claims_by c.endpoint (find nat_cmp c.endpoint es)) → In c (flat_map claims_of es)) → In c (claims_of e ++ flat_map claims_of es)
      by true tie here more = in_left c (claims_of e) (flat_map claims_of es) (subst (λ (n : ℕ). In c (claims_of (n, e.1))) (same_tied c.endpoint e.0 tie) here)
      by false other there more = in_right c (claims_of e) (flat_map claims_of es) (more there)

  -- a claim of a table is one of what is held of its endpoint
  claimed : (m : Entries) → In c (claims m) → In c (claims_by c.endpoint (get m c.endpoint))
  claimed m is =
      subst (λ (o : Option EntryValue). In c (claims_by c.endpoint o)) (sym (get-entries m c.endpoint)) (held_in None (entries m) (rise_sorted (entries m) (entries_sorted m)) is)

  in_claims : (m : Entries) → In c (claims_by c.endpoint (get m c.endpoint)) → In c (claims m)
  in_claims m is = in_held (entries m) (subst (λ (o : Option EntryValue). In c (claims_by c.endpoint o)) (get-entries m c.endpoint) is)

-- ---- the claims of some owners are moved

module _ (rows : List (ℕ × EntryValue)) (rise : Rises (keys_of rows)) (m n : Entries) (moved : AreMoved rows m n) (all fresh : List Claim) (same : AreTheSame (claims m) all) (theirs : IsPermutation (flat_map claims_of rows) fresh) (c : Claim) where
  abbrev after : List Claim
  after = merge (without (keys_of rows) all) fresh

  -- an owner's new row, if it has one
  new_row : (o : Option EntryValue) → find nat_cmp c.endpoint rows ≡ o → is_some o ≡ true → get n c.endpoint ≡ o
  new_row None here some = absurd cc
  new_row (Some e) here some = moved.moved (c.endpoint, e) (row_found c.endpoint e rows here)

  no_row : (o : Option EntryValue) → find nat_cmp c.endpoint rows ≡ o → is_some o ≡ false → is_among (keys_of rows) c.endpoint ≡ false
  no_row o here none = among_found c.endpoint rows ∙ ap is_some here ∙ none

  there_by : (b : Bool) (o : Option EntryValue) → find nat_cmp c.endpoint rows ≡ o → is_some o ≡ b → In c (claims_by c.endpoint (get n c.endpoint)) → In c after
  there_by true o found some is =
      let its : In c (claims_by c.endpoint (find nat_cmp c.endpoint rows)) = subst (λ (o : Option EntryValue). In c (claims_by c.endpoint o)) (new_row o found some ∙ sym found) is in
      let new : In c (flat_map claims_of rows) = in_held c rows its in
      in_second c (without (keys_of rows) all) fresh (among c fresh (Contains-permutation (flat_map claims_of rows) fresh c theirs (contained c (flat_map claims_of rows) new)))
  there_by false o found none is =
      let other = no_row o found none in
      let old : In c (claims m) = in_claims c m (subst (In c) (moved.others c.endpoint other) is) in
      in_first c (without (keys_of rows) all) fresh (kept (λ (d : Claim). not (is_among (keys_of rows) d.endpoint)) c all (not_false (is_among (keys_of rows) c.endpoint) other) (among c all ((same c).0 (contained c (claims m) old))))

  there : In c (claims n) → In c after
  there is = there_by (is_some (find nat_cmp c.endpoint rows)) (find nat_cmp c.endpoint rows) refl refl (claimed c n is)

  new_by : (o : Option EntryValue) → find nat_cmp c.endpoint rows ≡ o → In c (claims_by c.endpoint o) → In c (claims n)
  new_by None found nowhere = absurd nowhere
  new_by (Some e) found is = in_claims c n (subst (λ (o : Option EntryValue). In c (claims_by c.endpoint o)) (sym (new_row (Some e) found refl)) is)

  back_by : In c (without (keys_of rows) all) ⊎ In c fresh → In c (claims n)
  back_by (inl a) =
      let w = was_in (λ (d : Claim). not (is_among (keys_of rows) d.endpoint)) c all a in
      let other = not_true (is_among (keys_of rows) c.endpoint) w.1 in
      let old = claimed c m (among c (claims m) ((same c).1 (contained c all w.0))) in
      in_claims c n (subst (In c) (sym (moved.others c.endpoint other)) old)
  back_by (inr b) =
      let new = among c (flat_map claims_of rows) (Contains-permutation fresh (flat_map claims_of rows) c (IsPermutation-sym (flat_map claims_of rows) fresh theirs) (contained c fresh b)) in
      new_by (find nat_cmp c.endpoint rows) refl (held_in c None rows rise new)

  back : In c after → In c (claims n)
  back is = back_by (merged_of c (without (keys_of rows) all) fresh is)

pub moved_the_same : (rows : List (ℕ × EntryValue)) → Rises (keys_of rows) → (m n : Entries) → AreMoved rows m n → (all fresh : List Claim) → AreTheSame (claims m) all → IsPermutation (flat_map claims_of rows) fresh
    → AreTheSame (claims n) (merge (without (keys_of rows) all) fresh)
moved_the_same rows rise m n moved all fresh same theirs c = (
  λ is. contained c (merge (without (keys_of rows) all) fresh) (there rows rise m n moved all fresh same theirs c (among c (claims n) is)),
  λ is. contained c (claims n) (back rows rise m n moved all fresh same theirs c (among c (merge (without (keys_of rows) all) fresh) is)),
)

-- ---- one owner has another entry

untied : (x y : ℕ) → (x == y || false) ≡ false → eq_by_cmp nat_cmp y x ≡ false
untied x y e = grind (arith, nat_tests)

module _ (m : Entries) (owner : ℕ) (v : EntryValue) where
  only_row : (row : ℕ × EntryValue) → Contains ((owner, v) ∷ []) row → get (insert m owner v) row.0 ≡ Some row.1
  only_row row (zero, less, is) =
      subst (λ (r : ℕ × EntryValue). get (insert m owner v) r.0 ≡ Some r.1) is (get-insert nat_cmp_total m owner v owner ∙ rw ((eq_by_cmp_equiv nat_cmp_total).refl owner) refl)
  only_row row (suc k, less, is) = absurd (omega arith)

  others_by : (q : ℕ) → (owner == q || false) ≡ false → claims_by q (get (insert m owner v) q) ≡ claims_by q (get m q)
  others_by q other = ap (claims_by q) (get-insert nat_cmp_total m owner v q ∙ rw (untied owner q other) refl)

  one_moved : AreMoved ((owner, v) ∷ []) m (insert m owner v)
  one_moved = record { moved = only_row; others = others_by }

-- ---- the ring of the same claims

pub ring_made : {E : Type 0} (m : Entries) (sorted : List Claim) → IsSorted rank sorted → AreTheSame (claims m) sorted → (r : Result RingValue E)
    → IfOk r (λ x. x ≡ listed sorted) → IfOk r (IsRingOf m)
ring_made m sorted up same (Ok x) is = subst (IsRingOf m) (sym is) (record { claimed = same; won = heads_winners (claims m) sorted same up })
ring_made m sorted up same (Err x) is = is

-- a ring that is shared, as no claim is moved
module _ (self : RingValue) (sorted : IsSorted rank self.claims) (won : self ≡ listed self.claims) where
  none_moved : (m n : Entries) → IsRingOf m self → AreMoved [] m n → IsRingOf n self
  none_moved m n of moved =
      let same : AreTheSame (claims n) self.claims = λ c. (
        λ is. (of.claimed c).0 (contained c (claims m) (in_claims c m (subst (In c) (moved.others c.endpoint refl) (claimed c n (among c (claims n) is))))),
        λ is. contained c (claims n) (in_claims c n (subst (In c) (sym (moved.others c.endpoint refl)) (claimed c m (among c (claims m) ((of.claimed c).1 is))))),
      ) in
      record { claimed = same; won = ap (λ (r : RingValue). r.positions) won ∙ heads_winners (claims n) self.claims same sorted }

  pub ring_shared : {E : Type 0} (rows : List (ℕ × EntryValue)) → rows ≡ [] → (r : Result RingValue E) → IfOk r (λ x. x ≡ self)
      → IfOk r (λ x. (m n : Entries) → IsRingOf m self → AreMoved rows m n → IsRingOf n x)
  ring_shared rows none (Ok x) is = λ m n of moved. subst (IsRingOf n) (sym is) (none_moved m n of (subst (λ (rs : List (ℕ × EntryValue)). AreMoved rs m n) none moved))
  ring_shared rows none (Err x) is = is

-- a ring of the claims that are moved
module _ (self : RingValue) (all fresh : List Claim) (here : self.claims ≡ all) (up : IsSorted rank all) (rises : IsSorted rank fresh) where
  abbrev pub IsMade : List ℕ → RingValue → Type 0
  IsMade owners x = x ≡ listed (merge (without owners all) fresh)

  made_of : (rows : List (ℕ × EntryValue)) → Rises (keys_of rows) → IsPermutation (flat_map claims_of rows) fresh → (x : RingValue) → IsMade (keys_of rows) x → (m n : Entries) → IsRingOf m self → AreMoved rows m n → IsRingOf n x
  made_of rows rise theirs x is m n of moved =
      let same = moved_the_same rows rise m n moved all fresh (subst (AreTheSame (claims m)) here of.claimed) theirs in
      subst (IsRingOf n) (sym is)
      (record { claimed = same; won = heads_winners (claims n) (merge (without (keys_of rows) all) fresh) same (moved_sorted (keys_of rows) all fresh up rises) })

  pub ring_moved_each : {E : Type 0} (rows : List (ℕ × EntryValue)) → Rises (keys_of rows) → IsPermutation (flat_map claims_of rows) fresh → (r : Result RingValue E) → IfOk r (IsMade (keys_of rows))
      → IfOk r (λ x. (m n : Entries) → IsRingOf m self → AreMoved rows m n → IsRingOf n x)
  ring_moved_each rows rise theirs (Ok x) is = λ m n of moved. made_of rows rise theirs x is m n of moved
  ring_moved_each rows rise theirs (Err x) is = is

  pub ring_moved : {E : Type 0} (owner : ℕ) (held : Option EntryValue) (v : EntryValue) → IsPermutation (claims_of (owner, v)) fresh → (r : Result RingValue E) → IfOk r (IsMade (owner ∷ []))
      → IfOk r (λ x. (m : Entries) → IsRingWith m owner held self → IsRingOf (insert m owner v) x)
  ring_moved owner held v theirs (Ok x) is = λ m before.
      made_of ((owner, v) ∷ []) refl (subst (λ (cs : List Claim). IsPermutation cs fresh) (sym (append-nil (claims_of (owner, v)))) theirs) x is m (insert m owner v) before.of_all (one_moved m owner v)
  ring_moved owner held v theirs (Err x) is = is

module _ (owner : ℕ) (held : Option EntryValue) (v : EntryValue) (self : RingValue) where
  stays_at : keeps_claims held v ≡ true → (m : Entries) → IsRingWith m owner held self → IsRingOf (insert m owner v) self
  stays_at keeps m is =
      let kept : ClaimsAlike (get m owner) v = subst (λ (h : Option EntryValue). ClaimsAlike h v) (sym is.held_is) (kept_claims_are_alike held v keeps) in
      record {
        claimed = subst (λ (cs : List Claim). AreTheSame cs self.claims) (sym (claims_stay owner v m (alike owner v (get m owner) kept))) is.of_all.claimed;
        won = is.of_all.won ∙ sym (ring_stays m owner v kept);
      }

  -- a ring that is shared, as the claims stay
  pub ring_kept : {E : Type 0} → keeps_claims held v ≡ true → (r : Result RingValue E) → IfOk r (λ x. x ≡ self)
      → IfOk r (λ x. (m : Entries) → IsRingWith m owner held self → IsRingOf (insert m owner v) x)
  ring_kept keeps (Ok x) is = λ m before. subst (IsRingOf (insert m owner v)) (sym is) (stays_at keeps m before)
  ring_kept keeps (Err x) is = is
