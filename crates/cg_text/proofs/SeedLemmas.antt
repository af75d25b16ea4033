-- Endpoints, word by word.
use Rattle.std.proofs.Common.{◌≡◌, ℕ, ◌+◌, ◌-◌, ◌<◌, ◌≤◌, suc, zero, true, false, cond, List, [], ◌∷◌, ◌++◌, length, Option, Some, None, option_map, refl, sym, ap, ◌∙◌, append_assoc, arith}
use Rattle.cg_types.specs.Words.{cut_at}
use Rattle.cg_types.specs.OptionSteps.{◌>>=◌}
use Rattle.cg_types.specs.EndpointText.{endpoint_in}
use Rattle.cg_core.specs.declared.limits.TheConstants.{SEED_LIMIT}
use Rattle.cg_text.specs.Words.{endpoints_by, endpoints_in}

-- all endpoints: those already read, then the others
abbrev pub behind : List ℕ → Option (List ℕ) → Option (List ℕ)
behind read others = option_map (λ es. read ++ es) others

-- the endpoints that may still come after `count` of them
abbrev pub left : ℕ → ℕ → List ℕ → Option (List ℕ)
left at count rest = endpoints_in at (SEED_LIMIT - count) rest

one_less : (at n : ℕ) (text : List ℕ) → endpoints_in at (suc n) text ≡ endpoints_by (endpoints_in at n) text (cut_at at text)
unfolding endpoints_in
one_less at n text = refl

left-step : (at count : ℕ) (rest : List ℕ) → count < SEED_LIMIT → left at count rest ≡ endpoints_by (left at (count + 1)) rest (cut_at at rest)
left-step at count rest less =
    let fewer : SEED_LIMIT - count ≡ suc (SEED_LIMIT - (count + 1)) = omega arith in
    ap (λ (n : ℕ). endpoints_in at n rest) fewer ∙ one_less at (SEED_LIMIT - (count + 1)) rest

pub begins : (at : ℕ) (text : List ℕ) → endpoints_in at SEED_LIMIT text ≡ behind [] (left at 0 text)
begins at text = nothing_before (endpoints_in at SEED_LIMIT text)
  where
    nothing_before : (o : Option (List ℕ)) → o ≡ behind [] o
    nothing_before None = refl
    nothing_before (Some es) = refl

-- the rest is one word
pub last_word : (at count : ℕ) (all : Option (List ℕ)) (read rest : List ℕ) → count < SEED_LIMIT → all ≡ behind read (left at count rest) → cut_at at rest ≡ None
    → all ≡ behind read (endpoint_in rest >>= (λ e. Some (e ∷ [])))
last_word at count all read rest less e cut =
    e ∙ ap (behind read) (left-step at count rest less ∙ ap (endpoints_by (left at (count + 1)) rest) cut)

pub last_bad : (at count : ℕ) (all : Option (List ℕ)) (read rest : List ℕ) → count < SEED_LIMIT → all ≡ behind read (left at count rest) → cut_at at rest ≡ None
    → endpoint_in rest ≡ None → None ≡ all
last_bad at count all read rest less e cut bad = sym (last_word at count all read rest less e cut ∙ ap (λ (o : Option ℕ). behind read (o >>= (λ e. Some (e ∷ [])))) bad)

pub last_good : (at count : ℕ) (all : Option (List ℕ)) (read rest : List ℕ) (endpoint : ℕ) → count < SEED_LIMIT → all ≡ behind read (left at count rest) → cut_at at rest ≡ None
    → endpoint_in rest ≡ Some endpoint → Some (read ++ endpoint ∷ []) ≡ all
last_good at count all read rest endpoint less e cut good = sym (last_word at count all read rest less e cut ∙ ap (λ (o : Option ℕ). behind read (o >>= (λ e. Some (e ∷ [])))) good)

-- a word and a rest
next_word : (at count : ℕ) (all : Option (List ℕ)) (read rest : List ℕ) (parts : List ℕ × List ℕ) → count < SEED_LIMIT → all ≡ behind read (left at count rest) → cut_at at rest ≡ Some parts
    → all ≡ behind read (endpoint_in parts.0 >>= (λ e. left at (count + 1) parts.1 >>= (λ es. Some (e ∷ es))))
next_word at count all read rest parts less e cut =
    e ∙ ap (behind read) (left-step at count rest less ∙ ap (endpoints_by (left at (count + 1)) rest) cut)

pub next_bad : (at count : ℕ) (all : Option (List ℕ)) (read rest : List ℕ) (parts : List ℕ × List ℕ) → count < SEED_LIMIT → all ≡ behind read (left at count rest) → cut_at at rest ≡ Some parts
    → endpoint_in parts.0 ≡ None → None ≡ all
next_bad at count all read rest parts less e cut bad =
    sym (next_word at count all read rest parts less e cut ∙ ap (λ (o : Option ℕ). behind read (o >>= (λ e. left at (count + 1) parts.1 >>= (λ es. Some (e ∷ es))))) bad)

moved : (read : List ℕ) (endpoint : ℕ) (others : Option (List ℕ)) → behind read (others >>= (λ es. Some (endpoint ∷ es))) ≡ behind (read ++ endpoint ∷ []) others
moved read endpoint None = refl
moved read endpoint (Some es) = ap Some (sym (append_assoc read (endpoint ∷ []) es))

pub next_good : (at count : ℕ) (all : Option (List ℕ)) (read rest : List ℕ) (parts : List ℕ × List ℕ) (endpoint : ℕ) → count < SEED_LIMIT → all ≡ behind read (left at count rest)
    → cut_at at rest ≡ Some parts → endpoint_in parts.0 ≡ Some endpoint → all ≡ behind (read ++ endpoint ∷ []) (left at (count + 1) parts.1)
next_good at count all read rest parts endpoint less e cut good =
    next_word at count all read rest parts less e cut
    ∙ ap (λ (o : Option ℕ). behind read (o >>= (λ e. left at (count + 1) parts.1 >>= (λ es. Some (e ∷ es))))) good
    ∙ moved read endpoint (left at (count + 1) parts.1)

pub too_many : (at count : ℕ) (all : Option (List ℕ)) (read rest : List ℕ) → SEED_LIMIT ≤ count → all ≡ behind read (left at count rest) → None ≡ all
unfolding endpoints_in
too_many at count all read rest over e =
    let none : SEED_LIMIT - count ≡ 0 = omega arith in
    sym (e ∙ ap (λ (n : ℕ). behind read (endpoints_in at n rest)) none)

-- ---- the list has at most `SEED_LIMIT` endpoints

few_behind : (n : ℕ) (text : List ℕ) (parts : Option (List ℕ × List ℕ)) (others : List ℕ → Option (List ℕ)) (es : List ℕ)
    → ((rest fs : List ℕ) → others rest ≡ Some fs → length fs ≤ n) → endpoints_by others text parts ≡ Some es → length es ≤ n + 1
few_behind n text None others es few h = one (endpoint_in text) h
  where
    one : (o : Option ℕ) → (o >>= (λ e. Some (e ∷ []))) ≡ Some es → length es ≤ n + 1
    one None h = absurd cc
    one (Some e) h = let same : e ∷ [] ≡ es = cc in let lengths = ap length same in omega (arith, lengths)
few_behind n text (Some parts) others es few h = more (endpoint_in parts.0) (others parts.1) refl h
  where
    more : (o : Option ℕ) (q : Option (List ℕ)) → others parts.1 ≡ q → (o >>= (λ e. q >>= (λ fs. Some (e ∷ fs)))) ≡ Some es → length es ≤ n + 1
    more None q is h = absurd cc
    more (Some e) None is h = absurd cc
    more (Some e) (Some fs) is h = let same : e ∷ fs ≡ es = cc in let lengths = ap length same in let less = few parts.1 fs is in omega (arith, lengths, less)

pub few : (at n : ℕ) (text es : List ℕ) → endpoints_in at n text ≡ Some es → length es ≤ n
unfolding endpoints_in
few at zero text es h = absurd cc
few at (suc n) text es h = let less = few_behind n text (cut_at at text) (endpoints_in at n) es (few at n) h in omega (arith, less)
