-- The state of the turns, after some items have gone.
use Rattle.std.proofs.Common.{◌≡◌, ◌⊎◌, ℕ, true, zero, suc, ◌+◌, ◌≤◌, List, [], ◌∷◌, ◌++◌, length, map, Option, Some, None, refl, sym, ap, ◌∙◌, subst, inl, inr, arith, slice_get}
use Rattle.std.specs.List.{Contains}
use Rattle.std.proofs.Math.ListN.{set}
use Rattle.std.proofs.lemmas.List.{map-append}
use Rattle.std.proofs.lemmas.List.Elements.{Contains-append_left, Contains-append_right, Contains-append_cases}
use Rattle.cg_messages.specs.declared.message.Message.{Message}
use Rattle.cg_audit.specs.Index.{HaveTheSame}
use Rattle.cg_audit.specs.Items.{RunItem}
use Rattle.cg_audit.specs.OneRun.{messages_of}
use Rattle.cg_audit.specs.Turns as turns
use Rattle.cg_audit.proofs.ItemLemmas.{messages_both}
use Rattle.cg_audit.specs.declared.item.LifeItem.{LifeItem}
use Rattle.cg_audit.specs.Audit.{life_item}
use Rattle.cg_audit.specs.Track.{Track}
use Rattle.cg_audit.specs.Tracks.{advanced, are_distinct, endpoints_in, left_in, found_of, next_item, heads_left}
use Rattle.cg_audit.proofs.TrackLemmas.{Agrees, next_agrees, heads_agree, count_in, count_agrees, agrees_at_start, endpoints_stay, agrees_after, count_after}

-- From the start, some items have gone, in this order, sent these messages, and left these tracks. Turns find from here
-- the same as from the start.
pub record IsAtTurn (start ts : List Track) (sent : List Message) (order : List LifeItem) : Type 0 where
  pub fuel : ℕ
  pub left : ℕ → List RunItem
  pub gone : List RunItem
  pub found : found_of start ≡ turns.turns fuel (endpoints_in ts) left gone
  pub enough : count_in ts ≤ fuel
  pub agrees : Agrees left ts
  pub distinct : are_distinct (endpoints_in ts) ≡ true
  pub sent_these : HaveTheSame sent (messages_of gone)
  pub ordered : order ≡ map life_item gone

pub at_start : (ts : List Track) → are_distinct (endpoints_in ts) ≡ true → IsAtTurn ts ts [] []
at_start ts distinct =
    let agrees = agrees_at_start ts distinct in
    record {
      fuel = turns.count_left (endpoints_in ts) (left_in ts);
      left = left_in ts;
      gone = [];
      found = refl;
      enough = let same = count_agrees (left_in ts) ts agrees in omega (arith, same);
      agrees = agrees;
      distinct = distinct;
      sent_these = λ m. (λ c. c, λ c. c);
      ordered = refl;
    }

-- the same messages with more of them on both sides
same_more : (xs ys zs ws : List Message) → HaveTheSame zs (xs ++ ws) → HaveTheSame xs ys → HaveTheSame zs (ys ++ ws)
same_more xs ys zs ws one two m = (λ c. to (Contains-append_cases xs ws m ((one m).0 c)), λ c. (one m).1 (back (Contains-append_cases ys ws m c)))
  where
    to : Contains xs m ⊎ Contains ws m → Contains (ys ++ ws) m
    to (inl c) = Contains-append_left ys ws m ((two m).0 c)
    to (inr c) = Contains-append_right ys ws m c

    back : Contains ys m ⊎ Contains ws m → Contains (xs ++ ws) m
    back (inl c) = Contains-append_left xs ws m ((two m).1 c)
    back (inr c) = Contains-append_right xs ws m c

module _ (start ts : List Track) (sent : List Message) (order : List LifeItem) (at : IsAtTurn start ts sent order) where
  next_here : turns.next (endpoints_in ts) at.left at.gone ≡ next_item sent ts
  next_here = next_agrees at.left ts at.agrees sent at.gone at.sent_these

  -- an item goes
  pub after_turn : (i : RunItem) (place : ℕ) (t : Track) (sent_then : List Message) → next_item sent ts ≡ Some i → slice_get ts place ≡ Some t → turns.first t.left ≡ i ∷ [] → i.endpoint ≡ t.endpoint
      → HaveTheSame sent_then (sent ++ messages_of (i ∷ [])) → IsAtTurn start (set ts place (advanced t)) sent_then (order ++ life_item i ∷ [])
  after_turn i place t sent_then next is_at first of sends = by at.fuel at.found at.enough
    where
      by : (fuel : ℕ) → found_of start ≡ turns.turns fuel (endpoints_in ts) at.left at.gone → count_in ts ≤ fuel → IsAtTurn start (set ts place (advanced t)) sent_then (order ++ life_item i ∷ [])
      by zero found enough = let less = count_after ts place t i is_at first in absurd (omega (arith, less, enough))
      by (suc fuel) found enough =
          let less = count_after ts place t i is_at first in
          let named : i.endpoint ≡ t.endpoint = of in
          let stay = endpoints_stay ts place t is_at in
          record {
            fuel = fuel;
            left = turns.without_next at.left t.endpoint;
            gone = at.gone ++ i ∷ [];
            found = found
                ∙ ap (λ o. turns.after_turn o (turns.found (turns.heads (endpoints_in ts) at.left) at.gone) (λ (j : RunItem). turns.turns fuel (endpoints_in ts) (turns.without_next at.left j.endpoint) (at.gone ++ j ∷ []))) (next_here ∙ next)
                ∙ ap (λ e. turns.turns fuel (endpoints_in ts) (turns.without_next at.left e) (at.gone ++ i ∷ [])) named
                ∙ ap (λ es. turns.turns fuel es (turns.without_next at.left t.endpoint) (at.gone ++ i ∷ [])) (sym stay);
            enough = omega (arith, less, enough);
            agrees = agrees_after at.left ts at.distinct at.agrees place t is_at;
            distinct = ap are_distinct stay ∙ at.distinct;
            sent_these = subst (HaveTheSame sent_then) (sym (messages_both at.gone (i ∷ []))) (same_more sent (messages_of at.gone) sent_then (messages_of (i ∷ [])) sends at.sent_these);
            ordered = ap (λ l. l ++ life_item i ∷ []) at.ordered ∙ sym (map-append life_item at.gone (i ∷ []));
          }

  -- no item can go
  pub at_end : next_item sent ts ≡ None → found_of start ≡ turns.found (heads_left ts) at.gone
  at_end next = by at.fuel at.found ∙ ap (λ hs. turns.found hs at.gone) (heads_agree at.left ts at.agrees)
    where
      by : (fuel : ℕ) → found_of start ≡ turns.turns fuel (endpoints_in ts) at.left at.gone → found_of start ≡ turns.found (turns.heads (endpoints_in ts) at.left) at.gone
      by zero found = found
      by (suc fuel) found = found ∙ ap (λ o. turns.after_turn o (turns.found (turns.heads (endpoints_in ts) at.left) at.gone) (λ (j : RunItem). turns.turns fuel (endpoints_in ts) (turns.without_next at.left j.endpoint) (at.gone ++ j ∷ []))) (next_here ∙ next)

-- if no head is left, all items have gone; else they are stuck
pub no_heads : (hs gone : List RunItem) → map life_item hs ≡ [] → turns.found hs gone ≡ turns.Order gone
no_heads [] gone e = refl
no_heads (h ∷ hs) gone e = absurd cc

pub some_heads : (hs gone : List RunItem) → (map life_item hs ≡ [] → ⊥) → turns.found hs gone ≡ turns.Stuck hs
some_heads [] gone e = absurd (e refl)
some_heads (h ∷ hs) gone e = refl
