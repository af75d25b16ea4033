-- Seeds that are put in order rise, and are those that were there and those that were put.
use Rattle.std.proofs.Common.{◌≡◌, ℕ, ◌<◌, ◌≤◌, ◌+◌, length, drop, get_or, Bool, true, false, List, [], ◌∷◌, ◌++◌, append_assoc, append-nil, Option, Some, None, refl, sym, ap, ◌∙◌, nat_lt, ◌==◌}
use Rattle.std.specs.Prelude.{◌&&◌, ◌||◌}
use Rattle.std.specs.Cmp.{ranked}
use Rattle.std.specs.Ordering.{nat_cmp, match_ordering}
use Rattle.std.specs.declared.cmp.Ordering.{Ordering}
use Rattle.std.specs.declared.cmp.Ordering.TheVariants.{Less, Equal, Greater}
use Rattle.std.proofs.lemmas.Bool.{lt-ltb}
use Rattle.std.proofs.lemmas.List.{drop_all}
use Rattle.std.specs.BTreeSet.{insert_key}
use Rattle.toml.specs.Data.{Data, Items, no_items, item}
use Rattle.toml.specs.View.{view, items_view}
use Rattle.toml.specs.declared.value.Value.{Value}
use Rattle.toml.proofs.Views.{items_view-drop}
use Rattle.cg_types.specs.OptionSteps.{◌>>=◌}
use Rattle.cg_types.specs.Rising.{is_past, rise_past, is_among, Rises}
use Rattle.cg_types.proofs.RisingLemmas.{both, first_of, second_of}
use Rattle.cg_settings_file.specs.Values.{endpoint_in_value}
use Rattle.cg_settings_file.specs.Seeds.{endpoints_in, put_in_order, distinct}
use Rattle.cg_settings_file.specs.Laws.{AreDistinct}

or_false : (b : Bool) → (b || false) ≡ b
or_false true = refl
or_false false = refl

or_swap : (a b : Bool) → (a || b) ≡ (b || a)
or_swap true true = refl
or_swap true false = refl
or_swap false true = refl
or_swap false false = refl

or_assoc : (a b c : Bool) → ((a || b) || c) ≡ (a || (b || c))
or_assoc true b c = refl
or_assoc false b c = refl

or_again : (a b : Bool) → (a || b) ≡ ((a || b) || a)
or_again true b = refl
or_again false true = refl
or_again false false = refl

-- the endpoints read so far, before the rest if there is one
abbrev pub with_front : List ℕ → Option (List ℕ) → Option (List ℕ)
with_front front None = None
with_front front (Some rest) = Some (front ++ rest)

add_next : (front : List ℕ) (endpoint : ℕ) (rest : Option (List ℕ)) → with_front (front ++ endpoint ∷ []) rest ≡ with_front front (rest >>= (λ endpoints. Some (endpoint ∷ endpoints)))
add_next front endpoint None = refl
add_next front endpoint (Some rest) = rw append_assoc

-- one more item is read
next_read : (front : List ℕ) (value : Data) (endpoint : ℕ) (items : Items) → Some endpoint ≡ endpoint_in_value value
    → with_front (front ++ endpoint ∷ []) (endpoints_in items) ≡ with_front front (endpoints_in (item value items))
unfolding endpoints_in
next_read front value endpoint items is = rw (← is) (add_next front endpoint (endpoints_in items))

-- an item that is no endpoint's text
none_read : (front : List ℕ) (value : Data) (items : Items) → None ≡ endpoint_in_value value → None ≡ with_front front (endpoints_in (item value items))
unfolding endpoints_in
none_read front value items is = rw (← is) refl

-- the items from a place on, of which the first is a value
at_value : (vs : List Value) (i : ℕ) (v : Value) → i < length vs → v ≡ get_or vs i v → items_view (drop i vs) ≡ item (view v) (items_view (drop (i + 1) vs))
at_value vs i v lt here = items_view-drop vs i v lt ∙ ap (λ x. item (view x) (items_view (drop (i + 1) vs))) (sym here)

pub read_next : (front : List ℕ) (vs : List Value) (i : ℕ) (v : Value) (endpoint : ℕ) → i < length vs → v ≡ get_or vs i v → Some endpoint ≡ endpoint_in_value (view v)
    → with_front (front ++ endpoint ∷ []) (endpoints_in (items_view (drop (i + 1) vs))) ≡ with_front front (endpoints_in (items_view (drop i vs)))
read_next front vs i v endpoint lt here is =
    next_read front (view v) endpoint (items_view (drop (i + 1) vs)) is ∙ ap (λ d. with_front front (endpoints_in d)) (sym (at_value vs i v lt here))

pub read_none : (front : List ℕ) (vs : List Value) (i : ℕ) (v : Value) → i < length vs → v ≡ get_or vs i v → None ≡ endpoint_in_value (view v)
    → None ≡ with_front front (endpoints_in (items_view (drop i vs)))
read_none front vs i v lt here is =
    none_read front (view v) (items_view (drop (i + 1) vs)) is ∙ ap (λ d. with_front front (endpoints_in d)) (sym (at_value vs i v lt here))

all_read : (front : List ℕ) → with_front front (endpoints_in no_items) ≡ Some front
unfolding endpoints_in
all_read front = rw append-nil refl

pub read_all : (front : List ℕ) (vs : List Value) (i : ℕ) → length vs ≤ i → Some front ≡ with_front front (endpoints_in (items_view (drop i vs)))
read_all front vs i ge = sym (rw (drop_all i vs ge) (all_read front))

pub read_from_none : (found : Option (List ℕ)) → with_front [] found ≡ found
read_from_none None = refl
read_from_none (Some found) = refl

-- ---- order

one_of : (r : Ordering) (a b c : List ℕ) (P : List ℕ → Type 0) → (r ≡ Less → P a) → (r ≡ Equal → P b) → (r ≡ Greater → P c) → P (match_ordering r a b c)
one_of Less a b c P f g h = f refl
one_of Equal a b c P f g h = g refl
one_of Greater a b c P f g h = h refl

-- a list that rises past something still does with one more that is past it
put_rises : (last : Option ℕ) (seeds : List ℕ) (endpoint : ℕ) → rise_past last seeds ≡ true → is_past last endpoint ≡ true → rise_past last (insert_key nat_cmp seeds endpoint) ≡ true
put_rises last [] endpoint rise past = both (is_past last endpoint) true past refl
put_rises last (seed ∷ seeds) endpoint rise past =
    let here = first_of (is_past last seed) (rise_past (Some seed) seeds) rise in
    let rest = second_of (is_past last seed) (rise_past (Some seed) seeds) rise in
    one_of (nat_cmp endpoint seed) (endpoint ∷ seed ∷ seeds) (seed ∷ seeds) (seed ∷ insert_key nat_cmp seeds endpoint) (λ s. rise_past last s ≡ true)
    (λ less. both (is_past last endpoint) (nat_lt endpoint seed && rise_past (Some seed) seeds) past (both (nat_lt endpoint seed) (rise_past (Some seed) seeds) (lt-ltb endpoint seed (ranked endpoint seed Less (sym less))) rest))
    (λ equal. rise)
    (λ greater. both (is_past last seed) (rise_past (Some seed) (insert_key nat_cmp seeds endpoint)) here (put_rises (Some seed) seeds endpoint rest (lt-ltb seed endpoint (ranked endpoint seed Greater (sym greater)))))

-- among a list and one more
put_has : (seeds : List ℕ) (endpoint x : ℕ) → is_among (insert_key nat_cmp seeds endpoint) x ≡ (is_among seeds x || (endpoint == x))
put_has [] endpoint x = or_false (endpoint == x)
put_has (seed ∷ seeds) endpoint x =
    one_of (nat_cmp endpoint seed) (endpoint ∷ seed ∷ seeds) (seed ∷ seeds) (seed ∷ insert_key nat_cmp seeds endpoint) (λ s. is_among s x ≡ (is_among (seed ∷ seeds) x || (endpoint == x)))
    (λ less. or_swap (endpoint == x) (is_among (seed ∷ seeds) x))
    (λ equal. rw (ranked endpoint seed Equal (sym equal)) (or_again (seed == x) (is_among seeds x)))
    (λ greater. rw (put_has seeds endpoint x) (sym (or_assoc (seed == x) (is_among seeds x) (endpoint == x))))

all_rise : (seeds listed : List ℕ) → Rises seeds → Rises (put_in_order seeds listed)
all_rise seeds [] rise = rise
all_rise seeds (endpoint ∷ listed) rise = all_rise (insert_key nat_cmp seeds endpoint) listed (put_rises None seeds endpoint rise refl)

all_among : (seeds listed : List ℕ) (x : ℕ) → is_among (put_in_order seeds listed) x ≡ (is_among seeds x || is_among listed x)
all_among seeds [] x = sym (or_false (is_among seeds x))
all_among seeds (endpoint ∷ listed) x =
    all_among (insert_key nat_cmp seeds endpoint) listed x
    ∙ ap (λ b. b || is_among listed x) (put_has seeds endpoint x)
    ∙ or_assoc (is_among seeds x) (endpoint == x) (is_among listed x)

pub distinct_seeds : (listed : List ℕ) → AreDistinct listed (distinct listed)
unfolding distinct
distinct_seeds listed = record { rise = all_rise [] listed refl; same = all_among [] listed }
