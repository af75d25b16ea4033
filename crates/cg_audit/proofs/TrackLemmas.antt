-- Turns over a function from endpoints are turns over a list of tracks.
use Rattle.std.proofs.Common.{◌≡◌, ◌⊎◌, ℕ, zero, suc, ◌+◌, Bool, true, false, cond, List, [], ◌∷◌, ◌++◌, length, map, Option, Some, None, refl, sym, ap, ◌∙◌, subst, eqb-true, eq-eqb, inl, inr, arith, slice_get}
use Rattle.std.specs.Prelude.{◌==◌, ◌||◌, ◌&&◌, not}
use Rattle.std.specs.List.{AllByRecursion, Contains}
use Rattle.std.specs.Cmp.{both_ways}
use Rattle.std.proofs.Math.ListN.{set}
use Rattle.cg_types.specs.Rising.{is_among}
use Rattle.cg_messages.specs.declared.message.Message.{Message}
use Rattle.cg_audit.specs.Index.{HaveTheSame}
use Rattle.cg_audit.specs.Items.{RunItem}
use Rattle.cg_audit.specs.OneRun.{messages_of}
use Rattle.cg_audit.specs.Turns as turns
use Rattle.cg_audit.proofs.ItemLemmas.{among_is_in, in_is_among}
use Rattle.cg_audit.specs.Track.{Track}
use Rattle.cg_audit.specs.Tracks.{advanced, are_distinct, endpoints_in, left_in, goes, ready_item, next_item, heads_left}

-- ---- items that can go

-- the result depends only on the set of the messages
among_same : (xs ys : List Message) → HaveTheSame xs ys → (m : Message) → turns.is_among xs m ≡ turns.is_among ys m
among_same xs ys same m =
    both_ways (turns.is_among xs m) (turns.is_among ys m)
    (λ e. in_is_among ys m ((same m).0 (among_is_in xs m e)))
    (λ e. in_is_among xs m ((same m).1 (among_is_in ys m e)))

goes_same : (sent : List Message) (gone : List RunItem) → HaveTheSame sent (messages_of gone) → (m : Option Message) → turns.can_go gone m ≡ goes sent m
goes_same sent gone same None = refl
goes_same sent gone same (Some m) = sym (among_same sent (messages_of gone) same m)

ready_same : (sent : List Message) (gone : List RunItem) → HaveTheSame sent (messages_of gone) → (is : List RunItem) → turns.ready gone is ≡ ready_item sent is
ready_same sent gone same [] = refl
ready_same sent gone same (i ∷ is) = ap (λ b. cond b (Some i) None) (goes_same sent gone same i.handled)

-- ---- items left

-- the tracks have the items left of their endpoints
abbrev pub Agrees : (ℕ → List RunItem) → List Track → Type 0
Agrees left ts = AllByRecursion (λ (t : Track). left t.endpoint ≡ t.left) ts

pub next_agrees : (left : ℕ → List RunItem) (ts : List Track) → Agrees left ts → (sent : List Message) (gone : List RunItem) → HaveTheSame sent (messages_of gone) → turns.next (endpoints_in ts) left gone ≡ next_item sent ts
next_agrees left [] agrees sent gone same = refl
next_agrees left (t ∷ ts) agrees sent gone same =
    ap (λ is. turns.lesser (turns.ready gone is) (turns.next (endpoints_in ts) left gone)) agrees.0
    ∙ ap (λ o. turns.lesser o (turns.next (endpoints_in ts) left gone)) (ready_same sent gone same t.left)
    ∙ ap (turns.lesser (ready_item sent t.left)) (next_agrees left ts agrees.1 sent gone same)

pub heads_agree : (left : ℕ → List RunItem) (ts : List Track) → Agrees left ts → turns.heads (endpoints_in ts) left ≡ heads_left ts
heads_agree left [] agrees = refl
heads_agree left (t ∷ ts) agrees =
    ap (λ is. turns.first is ++ turns.heads (endpoints_in ts) left) agrees.0 ∙ ap (λ is. turns.first t.left ++ is) (heads_agree left ts agrees.1)

-- the number of items left
abbrev pub count_in : List Track → ℕ
count_in [] = 0
count_in (t ∷ ts) = length t.left + count_in ts

pub count_agrees : (left : ℕ → List RunItem) (ts : List Track) → Agrees left ts → turns.count_left (endpoints_in ts) left ≡ count_in ts
count_agrees left [] agrees = refl
count_agrees left (t ∷ ts) agrees =
    ap (λ is. length is + turns.count_left (endpoints_in ts) left) agrees.0 ∙ ap (λ n. length t.left + n) (count_agrees left ts agrees.1)

-- if two functions differ at one endpoint alone, tracks of others agree with both
agrees_elsewhere : (f g : ℕ → List RunItem) (e : ℕ) → ((y : ℕ) → (y == e) ≡ false → g y ≡ f y) → (ts : List Track) → is_among (endpoints_in ts) e ≡ false → Agrees f ts → Agrees g ts
agrees_elsewhere f g e same [] other agrees = tt
agrees_elsewhere f g e same (t ∷ ts) other agrees =
    let parts = neither (t.endpoint == e) (is_among (endpoints_in ts) e) other in
    (same t.endpoint parts.0 ∙ agrees.0, agrees_elsewhere f g e same ts parts.1 agrees.1)
  where
    neither : (a b : Bool) → (a || b) ≡ false → (a ≡ false) × (b ≡ false)
    neither true b e = absurd cc
    neither false b e = (refl, e)

distinct_parts : (a b : Bool) → (not a && b) ≡ true → (a ≡ false) × (b ≡ true)
distinct_parts true b e = absurd cc
distinct_parts false b e = (refl, e)

-- all items left are in the tracks
pub agrees_at_start : (ts : List Track) → are_distinct (endpoints_in ts) ≡ true → Agrees (left_in ts) ts
agrees_at_start [] distinct = tt
agrees_at_start (t ∷ ts) distinct =
    let parts = distinct_parts (is_among (endpoints_in ts) t.endpoint) (are_distinct (endpoints_in ts)) distinct in (
      ap (λ b. cond b t.left (left_in ts t.endpoint)) (eq-eqb t.endpoint t.endpoint refl),
      agrees_elsewhere (left_in ts) (left_in (t ∷ ts)) t.endpoint
          (λ y other. ap (λ b. cond b t.left (left_in ts y)) (turned t.endpoint y other))
          ts parts.0 (agrees_at_start ts parts.1),
    )
  where
    turned : (x y : ℕ) → (y == x) ≡ false → (x == y) ≡ false
    turned x y apart = by (x == y) refl
      where
        by : (b : Bool) → (x == y) ≡ b → b ≡ false
        by true is = let back : (y == x) ≡ true = eq-eqb y x (sym (eqb-true x y is)) in absurd cc
        by false same = refl

-- ---- one item goes

pub endpoints_stay : (ts : List Track) (place : ℕ) (t : Track) → slice_get ts place ≡ Some t → endpoints_in (set ts place (advanced t)) ≡ endpoints_in ts
endpoints_stay [] place t at = absurd cc
endpoints_stay (x ∷ ts) zero t at = let same : x ≡ t = cc in ap (λ (y : Track). y.endpoint ∷ endpoints_in ts) (sym same)
endpoints_stay (x ∷ ts) (suc place) t at = ap (λ es. x.endpoint ∷ es) (endpoints_stay ts place t at)

is_there : (ts : List Track) (place : ℕ) (t : Track) → slice_get ts place ≡ Some t → is_among (endpoints_in ts) t.endpoint ≡ true
is_there [] place t at = absurd cc
is_there (x ∷ ts) zero t at = let same : x ≡ t = cc in ap (λ b. b || is_among (endpoints_in ts) t.endpoint) (eq-eqb x.endpoint t.endpoint (ap (λ (y : Track). y.endpoint) same))
is_there (x ∷ ts) (suc place) t at = by (x.endpoint == t.endpoint) (is_there ts place t at)
  where
    by : (b : Bool) → is_among (endpoints_in ts) t.endpoint ≡ true → (b || is_among (endpoints_in ts) t.endpoint) ≡ true
    by true e = refl
    by false e = e

pub agrees_after : (left : ℕ → List RunItem) (ts : List Track) → are_distinct (endpoints_in ts) ≡ true → Agrees left ts → (place : ℕ) (t : Track) → slice_get ts place ≡ Some t → Agrees (turns.without_next left t.endpoint) (set ts place (advanced t))
agrees_after left [] distinct agrees place t at = absurd cc
agrees_after left (x ∷ ts) distinct agrees zero t at =
    let same : x ≡ t = cc in
    let parts = distinct_parts (is_among (endpoints_in ts) x.endpoint) (are_distinct (endpoints_in ts)) distinct in
    let other : is_among (endpoints_in ts) t.endpoint ≡ false = ap (λ (y : Track). is_among (endpoints_in ts) y.endpoint) (sym same) ∙ parts.0 in
    let here : left t.endpoint ≡ t.left = subst (λ (y : Track). left y.endpoint ≡ y.left) same agrees.0 in (
      ap (λ b. cond b (turns.rest (left t.endpoint)) (left t.endpoint)) (eq-eqb t.endpoint t.endpoint refl) ∙ ap turns.rest here,
      agrees_elsewhere left (turns.without_next left t.endpoint) t.endpoint (λ y apart. ap (λ b. cond b (turns.rest (left y)) (left y)) apart) ts other agrees.1,
    )
agrees_after left (x ∷ ts) distinct agrees (suc place) t at =
    let parts = distinct_parts (is_among (endpoints_in ts) x.endpoint) (are_distinct (endpoints_in ts)) distinct in
    (by (x.endpoint == t.endpoint) refl parts.0, agrees_after left ts parts.1 agrees.1 place t at)
  where
    by : (b : Bool) → (x.endpoint == t.endpoint) ≡ b → is_among (endpoints_in ts) x.endpoint ≡ false → cond b (turns.rest (left x.endpoint)) (left x.endpoint) ≡ x.left
    by true is apart =
        let there : is_among (endpoints_in ts) x.endpoint ≡ true = ap (is_among (endpoints_in ts)) (eqb-true x.endpoint t.endpoint is) ∙ is_there ts place t at in
        absurd cc
    by false other apart = agrees.0

pub count_after : (ts : List Track) (place : ℕ) (t : Track) (i : RunItem) → slice_get ts place ≡ Some t → turns.first t.left ≡ i ∷ [] → suc (count_in (set ts place (advanced t))) ≡ count_in ts
count_after [] place t i at first = absurd cc
count_after (x ∷ ts) zero t i at first =
    let same : x ≡ t = cc in
    let long : length x.left ≡ length t.left = ap (λ (y : Track). length y.left) same in
    let less = one_less t.left first in
    omega (arith, long, less)
  where
    one_less : (is : List RunItem) → turns.first is ≡ i ∷ [] → suc (length (turns.rest is)) ≡ length is
    one_less [] e = absurd cc
    one_less (j ∷ js) e = omega arith
count_after (x ∷ ts) (suc place) t i at first = let there = count_after ts place t i at first in omega (arith, there)

abbrev pub IsNamed : Track → Type 0
IsNamed t = AllByRecursion (λ (i : RunItem). i.endpoint ≡ t.endpoint) t.left

pub named_first : (ts : List Track) → AllByRecursion IsNamed ts → (place : ℕ) (t : Track) (i : RunItem) → slice_get ts place ≡ Some t → turns.first t.left ≡ i ∷ [] → i.endpoint ≡ t.endpoint
named_first [] named place t i at first = absurd cc
named_first (x ∷ ts) named zero t i at first = let same : x ≡ t = cc in one t.left (subst IsNamed same named.0) first
  where
    one : (is : List RunItem) → AllByRecursion (λ (j : RunItem). j.endpoint ≡ t.endpoint) is → turns.first is ≡ i ∷ [] → i.endpoint ≡ t.endpoint
    one [] all e = absurd cc
    one (j ∷ js) all e = let same_item : j ≡ i = cc in subst (λ (k : RunItem). k.endpoint ≡ t.endpoint) same_item all.0
named_first (x ∷ ts) named (suc place) t i at first = named_first ts named.1 place t i at first

-- a test that decides if a message is among these
pub among_decides : (r : Bool) (xs : List Message) (m : Message) → (r ≡ true → Contains xs m) × (Contains xs m → r ≡ true) → r ≡ turns.is_among xs m
among_decides r xs m tells = both_ways r (turns.is_among xs m) (λ e. in_is_among xs m (tells.0 e)) (λ e. tells.1 (among_is_in xs m e))
