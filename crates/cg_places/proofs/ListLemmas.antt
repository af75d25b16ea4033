-- An exchange as the list of its actions, and the actions of it that are done.
use Rattle.std.proofs.Common.{◌≡◌, ℕ, List, [], ◌∷◌, ◌++◌, refl, sym, ◌∙◌, ap, Option, Some, None}
use Rattle.cg_types.specs.declared.fault.Fault.{Fault}
use Rattle.cg_places.specs.PlaceWorld.{PlaceWorld, PlaceAction, nobody, after_action, after_actions}
use Rattle.cg_places.specs.Exchange.{ExchangeOf, WorldKind, PlaceExchange, by_places, after_opening, at_syn, after_syn, after_ack, after_exchange, following, actions_of, NoStartsOf, NoStartsOfEither}
use Rattle.cg_places.specs.Laws.{BothRun, PlaceExchangesAreLists}
use Rattle.cg_places.specs.Refusals.{refusal, unless_refused, done_from, done_before_syn, done_before_ack, done_exchange, AreDone}
use Rattle.cg_places.proofs.Stages.{syn_delivery, at_ack, ack_delivery, at_ack2, ack2_delivery}
use Rattle.cg_places.proofs.WorldLemmas.{IsSound}
use Rattle.cg_places.proofs.ExchangeLemmas.{opening_is_due, syn_is_due, ack_is_due, ack2_is_due}

-- ---- in worlds of any kind

-- Actions of a list are done one after the other.
pub record AreInOrder {World Action Time : Type 0} (k : WorldKind World Action Time) : Type 0 where
  pub none : (w : World) → k.after_all w [] ≡ w
  pub next : (w : World) (x : Action) (xs : List Action) → k.after_all w (x ∷ xs) ≡ k.after_all (k.after w x) xs

module _ {World Action Time : Type 0} (k : WorldKind World Action Time) (s : AreInOrder k) where
  pub after_both : (w : World) (xs ys : List Action) → k.after_all w (xs ++ ys) ≡ k.after_all (k.after_all w xs) ys
  after_both w [] ys = ap (λ (v : World). k.after_all v ys) (sym (s.none w))
  after_both w (x ∷ xs) ys = s.next w x (xs ++ ys) ∙ after_both (k.after w x) xs ys ∙ ap (λ (v : World). k.after_all v ys) (sym (s.next w x xs))

  module _ (w : World) (x : ExchangeOf Action Time) where
    -- the actions that are left to do from each message on
    abbrev last : List Action
    last = ack2_delivery k w x ∷ []

    abbrev from_ack : List Action
    from_ack = ack_delivery k w x ∷ (x.before_ack2 ++ last)

    abbrev from_syn : List Action
    from_syn = syn_delivery k w x ∷ (x.before_ack ++ from_ack)

    pub followed_from : k.after_all (after_opening k w x) (following k w x) ≡ after_exchange k w x
    followed_from =
        after_both (after_opening k w x) x.before_syn from_syn ∙ s.next (at_syn k w x) (syn_delivery k w x) (x.before_ack ++ from_ack)
        ∙ after_both (after_syn k w x) x.before_ack from_ack ∙ s.next (at_ack k w x) (ack_delivery k w x) (x.before_ack2 ++ last)
        ∙ after_both (after_ack k w x) x.before_ack2 last ∙ s.next (at_ack2 k w x) (ack2_delivery k w x) [] ∙ s.none (after_exchange k w x)

  -- an exchange is the list of its actions, whatever was done before
  pub listed_from : (first : World) (actions : List Action) (x : ExchangeOf Action Time) → k.after_all first (actions ++ actions_of k (k.after_all first actions) x) ≡ after_exchange k (k.after_all first actions) x
  listed_from first actions x =
      let w : World = k.after_all first actions in
      after_both first actions (actions_of k w x) ∙ s.next w (k.opening x.opener) (following k w x) ∙ followed_from w x

-- ---- by places

places_in_order : AreInOrder by_places
places_in_order = record { none = λ w. refl; next = λ w x xs. refl }

pub after_actions_both : (w : PlaceWorld) (xs ys : List PlaceAction) → after_actions w (xs ++ ys) ≡ after_actions (after_actions w xs) ys
after_actions_both w xs ys = after_both by_places places_in_order w xs ys

pub listed : PlaceExchangesAreLists
listed actions x = listed_from by_places places_in_order nobody actions x

done_never : (n : ℕ) (w : PlaceWorld) (actions : List PlaceAction) → NoStartsOf n actions → NoStartsOf n (done_from w actions)
done_never n w [] never = tt
done_never n w (action ∷ actions) never = go (refusal w action) (done_never n (after_action w action) actions never.1) (done_never n w actions never.1)
  where
    go : (o : Option Fault) → NoStartsOf n (done_from (after_action w action) actions) → NoStartsOf n (done_from w actions) → NoStartsOf n (unless_refused o action (done_from (after_action w action) actions) (done_from w actions))
    go None a b = (never.0, a)
    go (Some fault) a b = b

pub done_neither : (w : PlaceWorld) (x : PlaceExchange) → NoStartsOfEither x → NoStartsOfEither (done_exchange w x)
done_neither w x s =
    let y : PlaceExchange = done_before_syn w x in
    let z : PlaceExchange = done_before_ack w y in
    record {
      opener = (done_never x.opener (after_opening by_places w x) x.before_syn s.opener.0, done_never x.opener (after_syn by_places w y) x.before_ack s.opener.1, done_never x.opener (after_ack by_places w z) x.before_ack2 s.opener.2);
      answerer = (done_never x.answerer (after_opening by_places w x) x.before_syn s.answerer.0, done_never x.answerer (after_syn by_places w y) x.before_ack s.answerer.1, done_never x.answerer (after_ack by_places w z) x.before_ack2 s.answerer.2);
    }

-- ---- done actions are not refused

pub all_done : (w : PlaceWorld) (actions : List PlaceAction) → AreDone w (done_from w actions)
all_done w [] = tt
all_done w (action ∷ actions) = go (refusal w action) refl (all_done (after_action w action) actions) (all_done w actions)
  where
    go : (o : Option Fault) → refusal w action ≡ o → AreDone (after_action w action) (done_from (after_action w action) actions) → AreDone w (done_from w actions)
        → AreDone w (unless_refused o action (done_from (after_action w action) actions) (done_from w actions))
    go None e a b = (e, a)
    go (Some fault) e a b = b

done_both : (w : PlaceWorld) (xs ys : List PlaceAction) → AreDone w xs → AreDone (after_actions w xs) ys → AreDone w (xs ++ ys)
done_both w [] ys a b = b
done_both w (x ∷ xs) ys a b = (a.0, done_both (after_action w x) xs ys a.1 b)

pub exchange_done : (w : PlaceWorld) (x : PlaceExchange) → IsSound w → BothRun w x → NoStartsOfEither x → AreDone w (actions_of by_places w (done_exchange w x))
exchange_done w x s runs_both neither =
    let y : PlaceExchange = done_exchange w x in
    let never : NoStartsOfEither y = done_neither w x neither in
    let both : BothRun w y = record { opener = runs_both.opener; answerer = runs_both.answerer } in (
      opening_is_due w y s both never,
      done_both (after_opening by_places w y) y.before_syn (from_syn by_places places_in_order w y) (all_done (after_opening by_places w y) x.before_syn) (
        syn_is_due w y s both never,
        done_both (after_syn by_places w y) y.before_ack (from_ack by_places places_in_order w y) (all_done (after_syn by_places w y) x.before_ack) (
          ack_is_due w y s both never,
          done_both (after_ack by_places w y) y.before_ack2 (last by_places places_in_order w y) (all_done (after_ack by_places w y) x.before_ack2) (ack2_is_due w y s both never, tt),
        ),
      ),
    )
