-- The owners of a world are those that started, each once, and no table holds others.
use Rattle.std.proofs.Common.{◌≡◌, ℕ, ◌≤◌, List, [], ◌∷◌, length, refl, sym, ◌∙◌, ap, arith, Bool, true, false, Option, Some, None}
use Rattle.std.specs.Prelude.{◌==◌, ◌||◌, cond, is_some, nat_eq, nat_lt}
use Rattle.std.specs.List.{list_any, IsDistinct, AllByRecursion}
use Rattle.std.specs.Ordering.{nat_cmp, eq_by_cmp}
use Rattle.std.specs.Cmp.{nat_eq_equiv}
use Rattle.std.specs.FinMap as table
use Rattle.std.proofs.lemmas.Map.Entries.{length-keys_of}
use Rattle.std.proofs.lemmas.Map.Made.{length-le_from_is_member}
use Rattle.std.proofs.lemmas.Bool.Decides.{nat_tests}
use Rattle.cg_types.specs.Rising.{rise_past}
use Rattle.cg_types.proofs.RisingLemmas.{keys_of, first_of, second_of, rise_earlier, rise_sorted}
use Rattle.cg_entry.specs.Values.{EntryValue}
use Rattle.cg_entry.specs.Entry.{starting_entry}
use Rattle.cg_entry.specs.Place.{Span}
use Rattle.cg_entry.proofs.PlaceLemmas.{at_place_within}
use Rattle.cg_table.specs.Values.{Entries}
use Rattle.cg_table.specs.Spelling.{SpellsPlaces}
use Rattle.cg_places.specs.PlaceMessages.{PlaceMessage}
use Rattle.cg_places.specs.PlaceWorld.{PlaceWorld, PlaceAction, grown, nobody, runs, with_start, with_entry, with_message, with_spans, last_entry, after_action, after_actions, world_after}
use Rattle.cg_places.proofs.KeptLemmas.{IsKept, IsAfterOwn, own_part, action_kept}
use Rattle.cg_places.proofs.PutLemmas.{put_at-each, test_same, test_other, same_number, length_push}

-- ---- keys that rise

apart_from : (k : ℕ) (ks : List ℕ) → rise_past (Some k) ks ≡ true → AllByRecursion (λ y. nat_eq k y ≡ false) ks
apart_from k [] h = tt
apart_from k (x ∷ xs) h =
    let less : nat_lt k x ≡ true = first_of (nat_lt k x) (rise_past (Some x) xs) h in
    let rest : rise_past (Some x) xs ≡ true = second_of (nat_lt k x) (rise_past (Some x) xs) h in
    let apart : nat_eq k x ≡ false = grind (arith, nat_tests, less) in
    (apart, apart_from k xs (rise_earlier (Some k) x xs less rest))

rising_distinct : (last : Option ℕ) (ks : List ℕ) → rise_past last ks ≡ true → IsDistinct nat_eq ks
unfolding IsDistinct
rising_distinct last [] h = tt
rising_distinct None (x ∷ xs) h = (apart_from x xs h, rising_distinct (Some x) xs h)
rising_distinct (Some last) (x ∷ xs) h =
    let rest : rise_past (Some x) xs ≡ true = second_of (nat_lt last x) (rise_past (Some x) xs) h in
    (apart_from x xs rest, rising_distinct (Some x) xs rest)

pub same_test : (q k : ℕ) → eq_by_cmp nat_cmp q k ≡ nat_eq q k
same_test q k = grind (arith, nat_tests)

-- a map holds a key exactly if the key is among its keys
pub keys_known : (m : Entries) (q : ℕ) → is_some (table.get m q) ≡ list_any (nat_eq q) (keys_of (table.entries m))
keys_known m q = table.contains_key-keys m q ∙ (λ i. list_any (λ k. same_test q k i) (keys_of (table.entries m)))

-- a map whose keys are all in a list has no more entries than that
pub few_keys : (m : Entries) (ks : List ℕ) → ((q : ℕ) → is_some (table.get m q) ≡ true → list_any (nat_eq q) ks ≡ true) → table.len m ≤ length ks
few_keys m ks inside =
    let few : length (keys_of (table.entries m)) ≤ length ks =
    length-le_from_is_member nat_eq_equiv (keys_of (table.entries m)) ks (rising_distinct None (keys_of (table.entries m)) (rise_sorted (table.entries m) (table.entries_sorted m)))
    (λ q e. inside q (keys_known m q ∙ e)) in
    omega (arith, few, table.len-entries m, length-keys_of (table.entries m))

-- ---- the owners of a world

-- they are those that run, each once
pub record KnowsOwners (w : PlaceWorld) : Type 0 where
  pub known : (owner : ℕ) → list_any (nat_eq owner) w.owners ≡ runs w owner
  pub once : IsDistinct nat_eq w.owners

neither : (a b : Bool) → (a || b) ≡ false → (a ≡ false) × (b ≡ false)
neither true b h = absurd cc
neither false b h = (refl, h)

none_among : (k : ℕ) (ks : List ℕ) → list_any (nat_eq k) ks ≡ false → AllByRecursion (λ y. nat_eq k y ≡ false) ks
none_among k [] h = tt
none_among k (x ∷ xs) h = ((neither (nat_eq k x) (list_any (nat_eq k) xs) h).0, none_among k xs (neither (nat_eq k x) (list_any (nat_eq k) xs) h).1)

once_more : (k : ℕ) (ks : List ℕ) → list_any (nat_eq k) ks ≡ false → IsDistinct nat_eq ks → IsDistinct nat_eq (k ∷ ks)
unfolding IsDistinct
once_more k ks new once = (none_among k ks new, once)

pub grown_runs : (w : PlaceWorld) (node : ℕ) (entry : EntryValue) (n : ℕ) → nat_lt 0 (length (grown w.histories node entry n)) ≡ cond (n == node) true (runs w n)
grown_runs w node entry = put_at-each (λ n h. nat_lt 0 (length h) ≡ cond (n == node) true (runs w n)) w.histories node _
    (let size = length_push (w.histories node) entry in let t = test_same node in rw t (grind (arith, nat_tests, size)))
    (λ n apart. rw (test_other n node apart) refl)

-- a node that runs goes on running
pub runs_on : (w : PlaceWorld) (node n : ℕ) → runs w node ≡ true → cond (n == node) true (runs w n) ≡ runs w n
runs_on w node n running = go (n == node) refl
  where
    go : (b : Bool) → (n == node) ≡ b → cond b true (runs w n) ≡ runs w n
    go true e = sym running ∙ ap (runs w) (sym (same_number n node e))
    go false e = refl

pub nobody_knows : KnowsOwners nobody
unfolding nobody IsDistinct
nobody_knows = record { known = λ owner. refl; once = tt }

message_knows : (w : PlaceWorld) (message : PlaceMessage) → KnowsOwners w → KnowsOwners (with_message w message)
unfolding with_message
message_knows w message k = record { known = k.known; once = k.once }

spans_know : (w : PlaceWorld) (node : ℕ) (spans : ℕ → Option Span) → KnowsOwners w → KnowsOwners (with_spans w node spans)
unfolding with_spans
spans_know w node spans k = record { known = k.known; once = k.once }

entry_knows : (w : PlaceWorld) (node : ℕ) (entry : EntryValue) → runs w node ≡ true → KnowsOwners w → KnowsOwners (with_entry w node entry)
unfolding with_entry
entry_knows w node entry running k = record {
  known = λ owner. k.known owner ∙ sym (runs_on w node owner running) ∙ sym (grown_runs w node entry owner);
  once = k.once;
}

start_knows : (w : PlaceWorld) (node generation : ℕ) → KnowsOwners w → KnowsOwners (with_start w node generation)
unfolding with_start
start_knows w node generation k = record {
  known = λ owner. known (runs w node) refl owner ∙ sym (grown_runs w node (starting_entry generation) owner);
  once = once (runs w node) refl;
}
  where
    added : (owner : ℕ) → (nat_eq owner node || runs w owner) ≡ cond (owner == node) true (runs w owner)
    added owner = elim (owner == node) as (λ b. (b || runs w owner) ≡ cond b true (runs w owner)) [ true ↦ refl | false ↦ refl ]

    known : (b : Bool) → runs w node ≡ b → (owner : ℕ) → list_any (nat_eq owner) (cond b w.owners (node ∷ w.owners)) ≡ cond (owner == node) true (runs w owner)
    known true e owner = k.known owner ∙ sym (runs_on w node owner e)
    known false e owner = ap (λ b. nat_eq owner node || b) (k.known owner) ∙ added owner

    once : (b : Bool) → runs w node ≡ b → IsDistinct nat_eq (cond b w.owners (node ∷ w.owners))
    once true e = k.once
    once false e = once_more node w.owners (k.known node ∙ e) k.once

pub last_entry_runs : (w : PlaceWorld) (node : ℕ) (x : EntryValue) → last_entry (w.histories node) ≡ Some x → runs w node ≡ true
last_entry_runs w node x e = let l = (at_place_within (w.histories node) (length (w.histories node)) x e).0 in grind (arith, nat_tests, l)

owners_kept : IsKept KnowsOwners
owners_kept = record { message = message_knows; spans = spans_know }

pub action_knows : (w : PlaceWorld) (action : PlaceAction) → KnowsOwners w → KnowsOwners (after_action w action)
action_knows w action k = action_kept KnowsOwners owners_kept w action k (own_part KnowsOwners w own action)
  where
    own : IsAfterOwn KnowsOwners w
    own = record {
      start = λ node generation may. start_knows w node generation k;
      entry = λ node x y e. entry_knows w node y (last_entry_runs w node x e) k;
    }

pub actions_from_knows : (w : PlaceWorld) (actions : List PlaceAction) → KnowsOwners w → KnowsOwners (after_actions w actions)
actions_from_knows w [] k = k
actions_from_knows w (action ∷ actions) k = actions_from_knows (after_action w action) actions (action_knows w action k)

pub actions_knows : (actions : List PlaceAction) → KnowsOwners (world_after actions)
actions_knows actions = actions_from_knows nobody actions nobody_knows

-- the owners in a table that spells places
pub held_runs : (w : PlaceWorld) (entries : Entries) (places : ℕ → ℕ) → SpellsPlaces w.histories entries places → (q : ℕ) → is_some (table.get entries q) ≡ true → runs w q ≡ true
held_runs w entries places s q some = go (table.get entries q) refl some
  where
    go : (o : Option EntryValue) → table.get entries q ≡ o → is_some o ≡ true → runs w q ≡ true
    go None e some = cc
    go (Some x) e some = let l = at_place_within (w.histories q) (places q) x (sym (s.at q) ∙ e) in grind (arith, nat_tests, l)

-- a table that spells places of a world is small
pub spelled_small : (w : PlaceWorld) (entries : Entries) (places : ℕ → ℕ) → KnowsOwners w → SpellsPlaces w.histories entries places → table.len entries ≤ length w.owners
spelled_small w entries places k s = few_keys entries w.owners (λ q some. k.known q ∙ held_runs w entries places s q some)
