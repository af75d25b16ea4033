-- A table with newcomers holds no more than owners have started.
use Rattle.std.proofs.Common.{◌≡◌, ℕ, ◌+◌, ◌≤◌, List, [], ◌∷◌, length, refl, sym, ◌∙◌, ap, arith, Bool, true, false, Option, Some, None, nat_lt}
use Rattle.std.specs.Prelude.{◌==◌, ◌&&◌, ◌||◌, not, cond, is_some, nat_eq, find, map, count_by}
use Rattle.std.specs.List.{list_any}
use Rattle.std.specs.Option.{option_map, option_and_then}
use Rattle.std.specs.Cmp.{nat_cmp_total}
use Rattle.std.specs.FinMap as table
use Rattle.std.specs.FinMap.{get-insert, len-insert}
use Rattle.std.proofs.lemmas.Bool.Decides.{nat_tests}
use Rattle.cg_types.specs.Rising.{is_past, rise_past, Rises}
use Rattle.cg_types.proofs.RisingLemmas.{first_of, second_of, rise_earlier, rise_sorted}
use Rattle.cg_entry.specs.Values.{EntryValue}
use Rattle.cg_entry.specs.Entry.{starting_entry}
use Rattle.cg_entry.specs.Place.{Span, IsSpan}
use Rattle.cg_entry.specs.Spelling.{delta_of}
use Rattle.cg_table.specs.Values.{TableValue, Entries}
use Rattle.cg_table.specs.Merge.{owners_together}
use Rattle.cg_table.specs.Spelling.{SpellsPlaces}
use Rattle.cg_table.proofs.RoomLemmas.{count_by-cons}
use Rattle.cg_messages.specs.declared.owner_delta.OwnerDelta.{OwnerDelta}
use Rattle.cg_messages.specs.Members.{endpoints_of_deltas, about}
use Rattle.cg_places.specs.PlaceMessages.{AreSpans}
use Rattle.cg_places.specs.MessageSpelling.{SpellsSpans}
use Rattle.cg_exchange.specs.Taking.{held_after}
use Rattle.cg_places.specs.PlaceWorld.{PlaceWorld, runs}
use Rattle.cg_places.proofs.OwnerLemmas.{KnowsOwners, few_keys, keys_known, same_test, held_runs}

abbrev pub AllKnown : List ℕ → List ℕ → Type 0
AllKnown owners ks = (q : ℕ) → list_any (nat_eq q) ks ≡ true → list_any (nat_eq q) owners ≡ true

abbrev pub AllHeld : List ℕ → Entries → Type 0
AllHeld owners m = (q : ℕ) → is_some (table.get m q) ≡ true → list_any (nat_eq q) owners ≡ true

known_rest : (owners : List ℕ) (k : ℕ) (ks : List ℕ) → AllKnown owners (k ∷ ks) → AllKnown owners ks
known_rest owners k ks known q some = known q (go (nat_eq q k))
  where
    go : (b : Bool) → (b || list_any (nat_eq q) ks) ≡ true
    go true = refl
    go false = some

known_first : (owners : List ℕ) (k : ℕ) (ks : List ℕ) → AllKnown owners (k ∷ ks) → list_any (nat_eq k) owners ≡ true
known_first owners k ks known = let same : nat_eq k k ≡ true = grind (arith, nat_tests) in known k (ap (λ b. b || list_any (nat_eq k) ks) same)

-- an owner put to a table
get_with : (m : Entries) (k : ℕ) (e : EntryValue) (q : ℕ) → table.get (table.insert m k e) q ≡ cond (nat_eq q k) (Some e) (table.get m q)
get_with m k e q = get-insert nat_cmp_total m k e q ∙ ap (λ b. cond b (Some e) (table.get m q)) (same_test q k)

held_with : (owners : List ℕ) (m : Entries) (k : ℕ) (e : EntryValue) → list_any (nat_eq k) owners ≡ true → AllHeld owners m → AllHeld owners (table.insert m k e)
held_with owners m k e here held q some = go (nat_eq q k) refl (sym (ap is_some (get_with m k e q)) ∙ some)
  where
    go : (b : Bool) → nat_eq q k ≡ b → is_some (cond b (Some e) (table.get m q)) ≡ true → list_any (nat_eq q) owners ≡ true
    go true t s = let same : q ≡ k = grind (arith, nat_tests, t) in ap (λ n. list_any (nat_eq n) owners) same ∙ here
    go false t s = held q s

-- it makes no difference to those past it
held_past : (m : Entries) (k : ℕ) (e : EntryValue) (q : ℕ) → nat_lt k q ≡ true → table.contains_key (table.insert m k e) q ≡ table.contains_key m q
held_past m k e q less = let apart : nat_eq q k ≡ false = grind (arith, nat_tests, less) in ap is_some (get_with m k e q) ∙ ap (λ b. is_some (cond b (Some e) (table.get m q))) apart

new_by : (counts held : Bool) → (counts && not held) ≡ true → held ≡ false
new_by true false e = refl
new_by true true e = absurd cc
new_by false held e = absurd cc

-- members about owners, of which some count
module _ {X : Type 0} (key : X → ℕ) (counts : X → Bool) where
  -- the number of those that count and are about an owner that a table does not hold
  abbrev newcomers : Entries → List X → ℕ
  newcomers m xs = count_by (λ x. counts x && not (table.contains_key m (key x))) xs

  newcomers-cons : (m : Entries) (x : X) (xs : List X) → newcomers m (x ∷ xs) ≡ cond (counts x && not (table.contains_key m (key x))) 1 0 + newcomers m xs
  newcomers-cons m x xs = count_by-cons (λ x. counts x && not (table.contains_key m (key x))) x xs

  newcomers_past : (m : Entries) (k : ℕ) (e : EntryValue) (xs : List X) → rise_past (Some k) (map key xs) ≡ true → newcomers (table.insert m k e) xs ≡ newcomers m xs
  newcomers_past m k e [] h = refl
  newcomers_past m k e (x ∷ xs) h =
      let less : nat_lt k (key x) ≡ true = first_of (nat_lt k (key x)) (rise_past (Some (key x)) (map key xs)) h in
      let rest : rise_past (Some (key x)) (map key xs) ≡ true = second_of (nat_lt k (key x)) (rise_past (Some (key x)) (map key xs)) h in
      newcomers-cons (table.insert m k e) x xs ∙ ap (λ b. cond (counts x && not b) 1 0 + newcomers (table.insert m k e) xs) (held_past m k e (key x) less)
      ∙ ap (λ n. cond (counts x && not (table.contains_key m (key x))) 1 0 + n) (newcomers_past m k e xs (rise_earlier (Some k) (key x) (map key xs) less rest)) ∙ sym (newcomers-cons m x xs)

  -- the entries of a table and its newcomers are all of the owners
  pub newcomers_fit : (owners : List ℕ) (m : Entries) (last : Option ℕ) (xs : List X) → AllHeld owners m → AllKnown owners (map key xs) → rise_past last (map key xs) ≡ true → table.len m + newcomers m xs ≤ length owners
  newcomers_fit owners m last [] held known h = omega (arith, few_keys m owners held)
  newcomers_fit owners m last (x ∷ xs) held known h = go (counts x && not (table.contains_key m (key x))) refl
      (newcomers_fit owners m (Some (key x)) xs held (known_rest owners (key x) (map key xs) known) rest)
      (newcomers_fit owners (table.insert m (key x) (starting_entry 0)) (Some (key x)) xs (held_with owners m (key x) (starting_entry 0) (known_first owners (key x) (map key xs) known) held) (known_rest owners (key x) (map key xs) known) rest)
    where
      rest : rise_past (Some (key x)) (map key xs) ≡ true
      rest = second_of (is_past last (key x)) (rise_past (Some (key x)) (map key xs)) h

      one_more : (counts x && not (table.contains_key m (key x))) ≡ true → table.len (table.insert m (key x) (starting_entry 0)) ≡ table.len m + 1
      one_more new = len-insert nat_cmp_total m (key x) (starting_entry 0) ∙ ap (λ b. cond b (table.len m) (table.len m + 1)) (new_by (counts x) (table.contains_key m (key x)) new)

      go : (b : Bool) → (counts x && not (table.contains_key m (key x))) ≡ b → table.len m + newcomers m xs ≤ length owners
          → table.len (table.insert m (key x) (starting_entry 0)) + newcomers (table.insert m (key x) (starting_entry 0)) xs ≤ length owners → table.len m + newcomers m (x ∷ xs) ≤ length owners
      go true e less more = omega (arith, newcomers-cons m x xs, ap (λ (b : Bool). cond {A = ℕ} b 1 0) e, one_more e, newcomers_past m (key x) (starting_entry 0) xs rest, more)
      go false e less more = omega (arith, newcomers-cons m x xs, ap (λ (b : Bool). cond {A = ℕ} b 1 0) e, less)

  -- a member is found by its owner
  found_by : (q : ℕ) (xs : List X) → list_any (nat_eq q) (map key xs) ≡ is_some (find (λ x. key x == q) xs)
  found_by q [] = refl
  found_by q (x ∷ xs) = ap (λ b. b || list_any (nat_eq q) (map key xs)) same ∙ ap (λ b. (key x == q) || b) (found_by q xs) ∙ go (key x == q)
    where
      same : nat_eq q (key x) ≡ (key x == q)
      same = grind (arith, nat_tests)

      go : (b : Bool) → (b || is_some (find (λ x. key x == q) xs)) ≡ is_some (cond b (Some x) (find (λ x. key x == q) xs))
      go true = refl
      go false = refl

-- ---- in a world

-- a delta that spells a span is about an owner that runs
span_runs : (w : PlaceWorld) (q : ℕ) (o : Option Span) → ((span : Span) → o ≡ Some span → IsSpan (w.histories q) span) → is_some (option_map (about q) (option_and_then (delta_of (w.histories q)) o)) ≡ true → runs w q ≡ true
span_runs w q None are some = absurd cc
span_runs w q (Some span) are some = let s = are span refl in let less = s.rises in let within = s.stands in grind (arith, nat_tests, less, within)

module _ (w : PlaceWorld) (k : KnowsOwners w) where
  all_held : (entries : Entries) (places : ℕ → ℕ) → SpellsPlaces w.histories entries places → AllHeld w.owners entries
  all_held entries places s q some = k.known q ∙ held_runs w entries places s q some

  pub room_for_deltas : (t : TableValue) (deltas : List OwnerDelta) (places : ℕ → ℕ) (spans : ℕ → Option Span) → SpellsPlaces w.histories t.entries places → Rises (endpoints_of_deltas deltas)
      → SpellsSpans w.histories deltas spans → AreSpans w.histories spans → held_after t deltas ≤ length w.owners
  room_for_deltas t deltas places spans s rise spelled are =
      newcomers_fit (λ (d : OwnerDelta). d.endpoint) (λ (d : OwnerDelta). d.delta.above == 0) w.owners t.entries None deltas (all_held t.entries places s)
      (λ q some. k.known q ∙ span_runs w q (spans q) (are q) (sym (ap is_some (spelled.at q)) ∙ sym (found_by (λ (d : OwnerDelta). d.endpoint) (λ d. true) q deltas) ∙ some)) rise

  pub room_for_merge : (one other : Entries) (mine theirs : ℕ → ℕ) → SpellsPlaces w.histories one mine → SpellsPlaces w.histories other theirs → owners_together one other ≤ length w.owners
  room_for_merge one other mine theirs a b =
      newcomers_fit (λ (e : ℕ × EntryValue). e.0) (λ e. true) w.owners one None (table.entries other) (all_held one mine a)
      (λ q some. all_held other theirs b q (keys_known other q ∙ some)) (rise_sorted (table.entries other) (table.entries_sorted other))
