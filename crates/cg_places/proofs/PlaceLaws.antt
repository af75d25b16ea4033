-- The laws of places.
use Rattle.std.proofs.Common.{◌≡◌, ℕ, zero, suc, ◌<◌, ◌≤◌, ◌⊎◌, inl, inr, List, [], ◌∷◌, length, get_or, refl, sym, ◌∙◌, subst, arith, max}
use Rattle.std.specs.List.{Contains}
use Rattle.std.specs.Cmp.{nat_eq_equiv}
use Rattle.std.proofs.lemmas.Map.Views.{Contains-from_any, list_any-from_Contains}
use Rattle.cg_places.specs.PlaceWorld.{PlaceWorld, world_after}
use Rattle.cg_places.specs.Join.{furthest, sources, SamePlaces}
use Rattle.cg_places.specs.Laws.{IsWorld, ActionsMakeWorlds, PlacesAreJoins, EqualSourcesEqualPlaces, HistoriesContinue, JoinsAreLeast, ExchangesReachTheJoin, UndisturbedExchangesEqual, PlaceExchangesAreLists, ExchangesAreDone, DoneActionsKeepLimits}
use Rattle.cg_places.proofs.PutLemmas.{same_number}
use Rattle.cg_places.proofs.WorldLemmas.{IsSound, actions_sound, places_join}
use Rattle.cg_places.proofs.OnwardLemmas.{actions_from_keeps}
use Rattle.cg_places.proofs.OwnerLemmas.{KnowsOwners, actions_knows}
use Rattle.cg_places.proofs.ExchangeLemmas.{exchange_reaches}
use Rattle.cg_places.proofs.UndisturbedLemmas.{undisturbed_ends}
use Rattle.cg_places.proofs.ListLemmas.{after_actions_both, listed, done_neither, exchange_done}
use Rattle.cg_places.proofs.LimitLemmas.{actions_limited}
use Rattle.cg_places.proofs.GrowthLemmas.{AllContinue}

pub world_is : (w : PlaceWorld) → IsSound w → KnowsOwners w → IsWorld w
world_is w s k = record {
  histories = s.histories;
  places = s.stands;
  own = s.own;
  messages = s.messages;
  owners = λ owner. (λ c. sym (k.known owner) ∙ list_any-from_Contains nat_eq_equiv owner w.owners c, λ e. Contains-from_any same_number owner w.owners (k.known owner ∙ e));
  once = k.once;
}

pub actions_make_worlds : ActionsMakeWorlds
actions_make_worlds actions = world_is (world_after actions) (actions_sound actions) (actions_knows actions)

pub places_are_joins : PlacesAreJoins
places_are_joins actions node owner = places_join (world_after actions) (actions_sound actions) node owner

-- ---- the furthest of some places

pub furthest_bounds : (xs : List ℕ) (k x : ℕ) → k < length xs → get_or xs k x ≡ x → x ≤ furthest xs
furthest_bounds [] k x lt e = absurd (omega (arith, lt))
furthest_bounds (y ∷ xs) zero x lt e = omega (arith, e)
furthest_bounds (y ∷ xs) (suc k) x lt e = omega (arith, furthest_bounds xs k x (omega (arith, lt)) e)

pub furthest_stands : (xs : List ℕ) → (furthest xs ≡ 0) ⊎ Contains xs (furthest xs)
furthest_stands [] = inl refl
furthest_stands (x ∷ xs) = go (furthest_stands xs) (grind arith)
  where
    go : (furthest xs ≡ 0) ⊎ Contains xs (furthest xs) → (furthest xs ≤ x) ⊎ (x < furthest xs) → (max x (furthest xs) ≡ 0) ⊎ Contains (x ∷ xs) (max x (furthest xs))
    go f (inl le) = let e : max x (furthest xs) ≡ x = omega arith in inr (0, omega arith, sym e)
    go (inl z) (inr lt) = absurd (omega (arith, z, lt))
    go (inr c) (inr lt) = let e : max x (furthest xs) ≡ furthest xs = omega arith in inr (suc c.0, omega (arith, c.1), subst (λ m. get_or xs c.0 m ≡ m) (sym e) c.2)

furthest_within : (xs ys : List ℕ) → ((x : ℕ) → Contains xs x → Contains ys x) → furthest xs ≤ furthest ys
furthest_within xs ys inside = go (furthest_stands xs)
  where
    go : (furthest xs ≡ 0) ⊎ Contains xs (furthest xs) → furthest xs ≤ furthest ys
    go (inl z) = omega (arith, z)
    go (inr c) = let d = inside (furthest xs) c in furthest_bounds ys d.0 (furthest xs) d.1 d.2

same_furthest : (xs ys : List ℕ) → SamePlaces xs ys → furthest xs ≡ furthest ys
same_furthest xs ys same = omega (arith, furthest_within xs ys (λ x. (same x).0), furthest_within ys xs (λ x. (same x).1))

pub equal_sources_equal_places : EqualSourcesEqualPlaces
equal_sources_equal_places actions a b owner same =
    places_are_joins actions a owner ∙ same_furthest (sources (world_after actions) a owner) (sources (world_after actions) b owner) same ∙ sym (places_are_joins actions b owner)

pub histories_continue : HistoriesContinue
histories_continue actions more owner = subst (λ w. AllContinue (world_after actions).histories w.histories) (sym (after_actions_both _ actions more)) (actions_from_keeps (world_after actions) more).histories owner

-- ---- joins and exchanges

pub joins_are_least : JoinsAreLeast
joins_are_least a b c = record {
  first = λ owner. omega arith;
  second = λ owner. omega arith;
  third = λ owner. omega arith;
  least = λ places x y z owner. omega (arith, x owner, y owner, z owner);
  grouping = λ owner. omega arith;
  order = λ owner. omega arith;
  itself = λ owner. omega arith;
}

pub exchanges_reach_the_join : ExchangesReachTheJoin
exchanges_reach_the_join actions x both neither = exchange_reaches (world_after actions) x (actions_sound actions) both neither

pub undisturbed_exchanges_equal : UndisturbedExchangesEqual
undisturbed_exchanges_equal actions opener answerer both = undisturbed_ends (world_after actions) opener answerer (actions_sound actions) both

pub exchanges_are_lists : PlaceExchangesAreLists
exchanges_are_lists actions x = listed actions x

pub exchanges_are_done : ExchangesAreDone
exchanges_are_done actions x both neither = record {
  neither = done_neither (world_after actions) x neither;
  done = exchange_done (world_after actions) x (actions_sound actions) both neither;
}

pub done_actions_keep_limits : DoneActionsKeepLimits
done_actions_keep_limits actions done = actions_limited actions done
