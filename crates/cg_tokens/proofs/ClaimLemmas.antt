-- Sorted claims: the first of each token wins it.
use Rattle.std.proofs.Common.{◌≡◌, ℕ, suc, ◌<◌, ◌≤◌, Bool, true, false, cond, ◌==◌, List, [], ◌∷◌, length, get_or, map, Option, Some, None, refl, sym, ap, ◌∙◌, arith, nat_lt, eq-eqb}
use Rattle.std.specs.Prelude.{not, filter, ◌&&◌, ◌||◌, All, Contains}
use Rattle.std.specs.List.Sorted.{IsPermutation, IsSorted}
use Rattle.std.specs.Ordering.{nat_cmp, is_lt, is_eq, eq_by_cmp, ordering_then}
use Rattle.std.specs.declared.cmp.Ordering.{Ordering}
use Rattle.std.specs.declared.cmp.Ordering.TheVariants.{Less, Equal, Greater}
use Rattle.std.specs.Cmp.{IsTotalOrder, nat_cmp_total}
use Rattle.std.specs.FinMap.{from_sorted, from_entries, same_map, nat_cmp-IsAntisymmetric, get-from_entries}
use Rattle.std.specs.FinMap.Entries.{find}
use Rattle.std.proofs.lemmas.Option.{same_Some}
use Rattle.std.proofs.lemmas.Cmp.{then_total, on_total, back_total}
use Rattle.std.proofs.lemmas.List.Sorted.{sorted_far, ranks_by, Contains-permutation, IsPermutation-sym}
use Rattle.std.proofs.lemmas.List.Elements.{All-nil, All-cons, All-head, All-tail, All-contains, Contains-get_or}
use Rattle.std.proofs.lemmas.List.Sums.{AllPass-from_list_all, list_all-from_AllPass}
use Rattle.std.proofs.lemmas.Bool.{eqb-true, eqb-false, false≢true, lt-ltb, ltb-false}
use Rattle.std.proofs.lemmas.Bool.Decides.{nat_tests}
use Rattle.cg_types.specs.Rising.{Rises, rise_past, is_past}
use Rattle.cg_types.proofs.RisingLemmas.{both, get_rising, same_tied}
use Rattle.cg_types.specs.Rows.{keys_of}
use Rattle.cg_tokens.specs.declared.claims.Claim.{Claim}
use Rattle.cg_tokens.specs.Claims.{beats, wins, position, rank, goes_before, is_last, first_claims}
use Rattle.cg_tokens.specs.Moving.{AreTheSame}

-- ---- ranks

lesser : (x y : ℕ) → is_lt (nat_cmp x y) ≡ nat_lt x y
lesser x y = grind (arith, nat_tests)

tied : (x y : ℕ) → is_eq (nat_cmp x y) ≡ (x == y)
tied x y = grind (arith, nat_tests)

lt_in_turn : (a b c : Ordering) → is_lt (ordering_then (ordering_then a b) c) ≡ (is_lt a || (is_eq a && (is_lt b || (is_eq b && is_lt c))))
lt_in_turn Less b c = refl
lt_in_turn Equal Less c = refl
lt_in_turn Equal Equal c = refl
lt_in_turn Equal Greater c = refl
lt_in_turn Greater b c = refl

-- one claim comes before another by its token, or for one token by beating it
pub before-rank : (c d : Claim) → is_lt (rank c d) ≡ goes_before c d
before-rank c d =
    lt_in_turn (nat_cmp c.token d.token) (nat_cmp d.generation c.generation) (nat_cmp c.endpoint d.endpoint)
    ∙ rw (lesser c.token d.token, tied c.token d.token, lesser d.generation c.generation, tied d.generation c.generation, lesser c.endpoint d.endpoint) refl

rank_total : IsTotalOrder rank
rank_total = then_total (then_total (on_total (λ c. c.token) nat_cmp_total) (on_total (λ c. c.generation) (back_total nat_cmp_total))) (on_total (λ c. c.endpoint) nat_cmp_total)

-- d may come after c
record Follows (c d : Claim) : Type 0 where
  not_less : c.token ≤ d.token
  no_better : d.token ≡ c.token → beats d c ≡ false

follows_by : (a b t : Bool) (c d : Claim) → nat_lt d.token c.token ≡ a → (d.token == c.token) ≡ t → beats d c ≡ b → (a || (t && b)) ≡ false → Follows c d
follows_by true b t c d less same better e = absurd cc
follows_by false true true c d less same better e = absurd cc
follows_by false false true c d less same better e = record { not_less = ltb-false d.token c.token less; no_better = λ _. better }
follows_by false b false c d less same better e = record { not_less = ltb-false d.token c.token less; no_better = λ is. absurd (eqb-false d.token c.token same is) }

-- each claim may come after those before it
abbrev InOrder : List Claim → Type 0
InOrder cs = (i j : ℕ) (d : Claim) → i ≤ j → j < length cs → Follows (get_or cs i d) (get_or cs j d)

in_order : (cs : List Claim) → IsSorted rank cs → InOrder cs
in_order cs up i j d le lt =
    let c = get_or cs i d in
    let e = get_or cs j d in
    follows_by (nat_lt e.token c.token) (beats e c) (e.token == c.token) c e refl refl refl (sym (before-rank e c) ∙ sorted_far (λ x y. is_lt (rank x y)) (ranks_by rank_total (λ x. x)) cs up i j d le lt)

in_order-tail : (c : Claim) (cs : List Claim) → InOrder (c ∷ cs) → InOrder cs
in_order-tail c cs h i j d le lt = h (suc i) (suc j) d (omega arith) (omega arith)

in_order-head : (c : Claim) (cs : List Claim) → InOrder (c ∷ cs) → All (Follows c) (c ∷ cs)
in_order-head c cs h k d lt = h 0 k d (omega arith) lt

-- ---- the tokens of the heads

abbrev IsAtLeast : Option ℕ → Claim → Type 0
IsAtLeast None c = Unit {0}
IsAtLeast (Some l) c = l ≤ c.token

past_by : (last : Option ℕ) (c : Claim) → IsAtLeast last c → is_last last c.token ≡ false → is_past last c.token ≡ true
past_by None c le other = refl
past_by (Some l) c le other = let ne = eqb-false l c.token other in lt-ltb l c.token (omega arith)

tokens_after : (c : Claim) (cs : List Claim) → InOrder (c ∷ cs) → All (IsAtLeast (Some c.token)) cs
tokens_after c cs h k d lt = (in_order-head c cs h (suc k) d (omega arith)).not_less

heads_rise_by : (b : Bool) (last : Option ℕ) (c : Claim) (same next : List (ℕ × ℕ)) → is_last last c.token ≡ b → IsAtLeast last c → rise_past last (keys_of same) ≡ true → rise_past (Some c.token) (keys_of next) ≡ true
    → rise_past last (keys_of (cond b same (position c ∷ next))) ≡ true
heads_rise_by true last c same next e le h g = h
heads_rise_by false last c same next e le h g = both (is_past last c.token) (rise_past (Some c.token) (keys_of next)) (past_by last c le e) g

heads_rise : (last : Option ℕ) (cs : List Claim) → InOrder cs → All (IsAtLeast last) cs → rise_past last (keys_of (first_claims last cs)) ≡ true
heads_rise last [] h le = refl
heads_rise last (c ∷ cs) h le =
    let rest = in_order-tail c cs h in
    heads_rise_by (is_last last c.token) last c (first_claims last cs) (first_claims (Some c.token) cs) refl (All-head (IsAtLeast last) c cs le)
    (heads_rise last cs rest (All-tail (IsAtLeast last) c cs le)) (heads_rise (Some c.token) cs rest (tokens_after c cs h))

-- ---- the endpoint that the heads have at a token

abbrev found : ℕ → List (ℕ × ℕ) → Option ℕ
found t ps = find nat_cmp t ps

at_last : (last : Option ℕ) (t u : ℕ) → is_last last u ≡ true → is_last last t ≡ false → eq_by_cmp nat_cmp t u ≡ false
at_last None t u here other = absurd cc
at_last (Some l) t u here other = let same = eqb-true l u here in let ne = eqb-false l t other in grind (arith, nat_tests)

untied : (t u : ℕ) → eq_by_cmp nat_cmp t u ≡ false → (u == t) ≡ false
untied t u e = grind (arith, nat_tests)

other_found : (b : Bool) (t : ℕ) (c : Claim) (next rest : List (ℕ × ℕ)) → eq_by_cmp nat_cmp t c.token ≡ b → (is_last (Some c.token) t ≡ false → found t next ≡ found t rest) → found t (position c ∷ next) ≡ found t (position c ∷ rest)
other_found true t c next rest e g = rw e refl
other_found false t c next rest e g = rw e (g (untied t c.token e))

found_by : (b : Bool) (last : Option ℕ) (t : ℕ) (c : Claim) (same next rest : List (ℕ × ℕ)) → is_last last c.token ≡ b → is_last last t ≡ false → found t same ≡ found t rest
    → (is_last (Some c.token) t ≡ false → found t next ≡ found t rest) → found t (cond b same (position c ∷ next)) ≡ found t (position c ∷ rest)
found_by true last t c same next rest e other h g = rw (at_last last t c.token e other) h
found_by false last t c same next rest e other h g = other_found (eq_by_cmp nat_cmp t c.token) t c next rest refl g

found-heads : (last : Option ℕ) (t : ℕ) (cs : List Claim) → is_last last t ≡ false → found t (first_claims last cs) ≡ found t (map position cs)
found-heads last t [] other = refl
found-heads last t (c ∷ cs) other =
    found_by (is_last last c.token) last t c (first_claims last cs) (first_claims (Some c.token) cs) (map position cs) refl other (found-heads last t cs other) (found-heads (Some c.token) t cs)

-- ---- the claims that win

none_some : (x : ℕ) → Some x ≡ None → ⊥
none_some x e = cc

abbrev IsUnbeaten : List Claim → Claim → Type 0
IsUnbeaten cs c = All (λ d. d.token ≡ c.token → beats d c ≡ false) cs

-- a claim that gives a token its endpoint
record Gives (cs : List Claim) (t e : ℕ) (P : Claim → Type 0) : Type 0 where
  claim : Claim
  held : Contains cs claim
  of_token : claim.token ≡ t
  endpoint : claim.endpoint ≡ e
  so : P claim

gives_later : {P Q : Claim → Type 0} (t e : ℕ) (c : Claim) (cs : List Claim) → (g : Gives cs t e P) → Q g.claim → Gives (c ∷ cs) t e Q
gives_later t e c cs g so = let lt = g.held.1 in record {
  claim = g.claim;
  held = (suc g.held.0, omega arith, g.held.2);
  of_token = g.of_token;
  endpoint = g.endpoint;
  so = so;
}

first_by : (b : Bool) (t e : ℕ) (c : Claim) (cs : List Claim) → InOrder (c ∷ cs) → eq_by_cmp nat_cmp t c.token ≡ b → cond b (Some c.endpoint) (found t (map position cs)) ≡ Some e
    → (found t (map position cs) ≡ Some e → Gives cs t e (IsUnbeaten cs)) → Gives (c ∷ cs) t e (IsUnbeaten (c ∷ cs))
first_by true t e c cs h tie is rest = record {
  claim = c;
  held = (0, omega arith, refl);
  of_token = sym (same_tied t c.token tie);
  endpoint = same_Some c.endpoint e is;
  so = λ k d lt. (in_order-head c cs h k d lt).no_better;
}
first_by false t e c cs h tie is rest =
    let g = rest is in
    let other : c.token ≡ g.claim.token → ⊥ = λ same. eqb-false c.token t (untied t c.token tie) (same ∙ g.of_token) in
    gives_later t e c cs g (All-cons (λ d. d.token ≡ g.claim.token → beats d g.claim ≡ false) c cs (λ same. absurd (other same)) g.so)

-- the claim found first is not beaten
first_unbeaten : (t e : ℕ) (cs : List Claim) → InOrder cs → found t (map position cs) ≡ Some e → Gives cs t e (IsUnbeaten cs)
first_unbeaten t e [] h is = absurd cc
first_unbeaten t e (c ∷ cs) h is = first_by (eq_by_cmp nat_cmp t c.token) t e c cs h refl is (first_unbeaten t e cs (in_order-tail c cs h))

module _ (p : Claim → Bool) (t : ℕ) where
  kept_by : (a b : Bool) (e : ℕ) (c : Claim) (cs : List Claim) → p c ≡ a → eq_by_cmp nat_cmp t c.token ≡ b → found t (map position (cond a (c ∷ filter p cs) (filter p cs))) ≡ Some e
      → (found t (map position (filter p cs)) ≡ Some e → Gives cs t e (λ d. p d ≡ true)) → Gives (c ∷ cs) t e (λ d. p d ≡ true)
  kept_by true true e c cs passed tie is rest = record {
    claim = c;
    held = (0, omega arith, refl);
    of_token = sym (same_tied t c.token tie);
    endpoint = same_Some c.endpoint e (rw tie at is);
    so = passed;
  }
  kept_by true false e c cs passed tie is rest = let g = rest (rw tie at is) in gives_later t e c cs g g.so
  kept_by false b e c cs passed tie is rest = let g = rest is in gives_later t e c cs g g.so

  -- a claim found in a filter passed it
  kept_found : (e : ℕ) (cs : List Claim) → found t (map position (filter p cs)) ≡ Some e → Gives cs t e (λ d. p d ≡ true)
  kept_found e [] is = absurd cc
  kept_found e (c ∷ cs) is = kept_by (p c) (eq_by_cmp nat_cmp t c.token) e c cs refl refl is (kept_found e cs)

  none_by : (a b : Bool) (c : Claim) (cs : List Claim) → p c ≡ a → eq_by_cmp nat_cmp t c.token ≡ b → found t (map position (cond a (c ∷ filter p cs) (filter p cs))) ≡ None
      → (found t (map position (filter p cs)) ≡ None → All (λ d. p d ≡ true → d.token ≡ t → ⊥) cs) → All (λ d. p d ≡ true → d.token ≡ t → ⊥) (c ∷ cs)
  none_by true true c cs passed tie is rest = absurd (none_some c.endpoint (rw tie at is))
  none_by true false c cs passed tie is rest = All-cons (λ d. p d ≡ true → d.token ≡ t → ⊥) c cs (λ _ same. eqb-false c.token t (untied t c.token tie) same) (rest (rw tie at is))
  none_by false b c cs failed tie is rest = All-cons (λ d. p d ≡ true → d.token ≡ t → ⊥) c cs (λ passed. absurd cc) (rest is)

  -- a claim not found in a filter did not pass it
  none_found : (cs : List Claim) → found t (map position (filter p cs)) ≡ None → All (λ d. p d ≡ true → d.token ≡ t → ⊥) cs
  none_found [] is = All-nil (λ d. p d ≡ true → d.token ≡ t → ⊥)
  none_found (c ∷ cs) is = none_by (p c) (eq_by_cmp nat_cmp t c.token) c cs refl refl is (none_found cs)

absent_by : (b : Bool) (t : ℕ) (c : Claim) (cs : List Claim) → eq_by_cmp nat_cmp t c.token ≡ b → cond b (Some c.endpoint) (found t (map position cs)) ≡ None
    → (found t (map position cs) ≡ None → All (λ d. d.token ≡ t → ⊥) cs) → All (λ d. d.token ≡ t → ⊥) (c ∷ cs)
absent_by true t c cs tie is rest = absurd (none_some c.endpoint is)
absent_by false t c cs tie is rest = All-cons (λ d. d.token ≡ t → ⊥) c cs (eqb-false c.token t (untied t c.token tie)) (rest is)

-- a token that is not found is not claimed
absent : (t : ℕ) (cs : List Claim) → found t (map position cs) ≡ None → All (λ d. d.token ≡ t → ⊥) cs
absent t [] is = All-nil (λ d. d.token ≡ t → ⊥)
absent t (c ∷ cs) is = absent_by (eq_by_cmp nat_cmp t c.token) t c cs refl is (absent t cs)

-- ---- winners

unbeaten_passes : (c d : Claim) (t b : Bool) → (d.token == c.token) ≡ t → beats d c ≡ b → (d.token ≡ c.token → beats d c ≡ false) → not (t && b) ≡ true
unbeaten_passes c d true true same better h = let no = h (eqb-true d.token c.token same) in absurd cc
unbeaten_passes c d true false same better h = refl
unbeaten_passes c d false b same better h = refl

wins_unbeaten : (cs : List Claim) (c : Claim) → IsUnbeaten cs c → wins cs c ≡ true
wins_unbeaten cs c h = list_all-from_AllPass (λ d. not (d.token == c.token && beats d c)) cs (λ k d lt. let e = get_or cs k d in unbeaten_passes c e (e.token == c.token) (beats e c) refl refl (h k d lt))

passes_unbeaten : (c d : Claim) (b : Bool) → beats d c ≡ b → not (d.token == c.token && b) ≡ true → d.token ≡ c.token → beats d c ≡ false
passes_unbeaten c d true better h same = let tie = eq-eqb d.token c.token same in absurd (false≢true (rw tie at h))
passes_unbeaten c d false better h same = better

unbeaten_wins : (cs : List Claim) (c : Claim) → wins cs c ≡ true → IsUnbeaten cs c
unbeaten_wins cs c h k d lt = let e = get_or cs k d in passes_unbeaten c e (beats e c) refl (AllPass-from_list_all (λ x. not (x.token == c.token && beats x c)) cs h k d lt)

-- of two claims of which neither beats the other, both give one endpoint
one_endpoint : (c d : Claim) → beats c d ≡ false → beats d c ≡ false → c.endpoint ≡ d.endpoint
one_endpoint c d a b = grind (arith, nat_tests)

-- a fact of all claims is one of each of those among them
all_among : (P : Claim → Type 0) (xs ys : List Claim) → ((c : Claim) → Contains xs c → Contains ys c) → All P ys → All P xs
all_among P xs ys there all k d lt = All-contains P ys (get_or xs k d) all (there (get_or xs k d) (Contains-get_or xs k d lt))

module _ (cs sorted : List Claim) (same : AreTheSame cs sorted) (h : InOrder sorted) (t : ℕ) where
  agree : (a b : Option ℕ) → found t (map position sorted) ≡ a → found t (map position (filter (wins cs) cs)) ≡ b → a ≡ b
  agree None None x y = refl
  agree (Some e) None x y =
      let g = first_unbeaten t e sorted h x in
      let won = wins_unbeaten cs g.claim (all_among (λ d. d.token ≡ g.claim.token → beats d g.claim ≡ false) cs sorted (λ c. (same c).0) g.so) in
      let here = (same g.claim).1 g.held in
      absurd (All-contains (λ d. wins cs d ≡ true → d.token ≡ t → ⊥) cs g.claim (none_found (wins cs) t cs y) here won g.of_token)
  agree None (Some f) x y =
      let g = kept_found (wins cs) t f cs y in
      absurd (All-contains (λ d. d.token ≡ t → ⊥) sorted g.claim (absent t sorted x) ((same g.claim).0 g.held) g.of_token)
  agree (Some e) (Some f) x y =
      let g = first_unbeaten t e sorted h x in
      let k = kept_found (wins cs) t f cs y in
      let there = (same k.claim).0 k.held in
      let here = (same g.claim).1 g.held in
      let under = All-contains (λ d. d.token ≡ g.claim.token → beats d g.claim ≡ false) sorted k.claim g.so there (k.of_token ∙ sym g.of_token) in
      let over = All-contains (λ d. d.token ≡ k.claim.token → beats d k.claim ≡ false) cs g.claim (unbeaten_wins cs k.claim k.so) here (g.of_token ∙ sym k.of_token) in
      ap Some (sym g.endpoint ∙ one_endpoint g.claim k.claim over under ∙ k.endpoint)

pub heads_valid : (sorted : List Claim) → IsSorted rank sorted → Rises (keys_of (first_claims None sorted))
heads_valid sorted up = heads_rise None sorted (in_order sorted up) (λ k d lt. tt)

-- a list in another order has the same claims
pub permuted : (cs sorted : List Claim) → IsPermutation cs sorted → AreTheSame cs sorted
permuted cs sorted moved c = (Contains-permutation cs sorted c moved, Contains-permutation sorted cs c (IsPermutation-sym cs sorted moved))

-- the heads of the same claims, sorted, are the winners
pub heads_winners : (cs sorted : List Claim) → AreTheSame cs sorted → IsSorted rank sorted
    → from_sorted {R = nat_cmp} (first_claims None sorted) ≡ from_entries {R = nat_cmp} (map position (filter (wins cs) cs))
heads_winners cs sorted same up = same_map nat_cmp_total nat_cmp-IsAntisymmetric _ _ (λ t.
    get_rising (first_claims None sorted) t (heads_valid sorted up) ∙ found-heads None t sorted refl
    ∙ agree cs sorted same (in_order sorted up) t (found t (map position sorted)) (found t (map position (filter (wins cs) cs))) refl refl
    ∙ sym (get-from_entries nat_cmp_total (map position (filter (wins cs) cs)) t))
