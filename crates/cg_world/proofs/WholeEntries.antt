-- Each entry of a history was its owner's own.
use Rattle.std.proofs.Common.{◌≡◌, ◌⊎◌, inl, inr, ℕ, zero, suc, List, [], ◌∷◌, ◌++◌, refl, sym, ◌∙◌, ap, subst, Option, Some, Result, Ok, Err}
use Rattle.cg_types.specs.declared.fault.Fault.{Fault}
use Rattle.cg_entry.specs.Values.{EntryValue}
use Rattle.cg_entry.specs.Entry.{starting_entry}
use Rattle.cg_entry.specs.History.{at_place}
use Rattle.cg_places.specs.PlaceMessages.{PlaceMessage}
use Rattle.cg_core.specs.SettingsValues.{SettingsValue}
use Rattle.cg_places.specs.PlaceWorld.{PlaceWorld, PlaceAction, nobody, grown, with_start, with_entry, with_message, with_spans, last_entry, after_action, after_actions}
use Rattle.cg_places.specs.Refusals.{refusal, unless_refused}
use Rattle.cg_world.specs.World.{Action, WorldValue, new_world, acting, or_unchanged, act, run_from, plain_action, place_world}
use Rattle.cg_entry.specs.Place.{Span}
use Rattle.cg_world.specs.Terms.{own_at, WasOwn}
use Rattle.cg_world.specs.WorldLaws.{EntriesAreWhole}
use Rattle.cg_places.proofs.KeptLemmas.{IsKept, IsAfterOwn, own_part, action_kept}
use Rattle.cg_places.proofs.PutLemmas.{put_at-each, at_place_push}
use Rattle.cg_places.proofs.ExchangeLemmas.{sent_last}
use Rattle.cg_world.proofs.ActionLemmas.{AgreesBy, action_agrees, own_last}
use Rattle.cg_world.proofs.WorldLaws.{Joined, done_by_places, done_joined, joined, spelled}

-- ---- the entries that an action adds to histories

-- an entry was there before, or is the last one
abbrev pub OldOrLast : PlaceWorld → PlaceWorld → Type 0
OldOrLast w v = (owner place : ℕ) (entry : EntryValue) → at_place (v.histories owner) place ≡ Some entry → (at_place (w.histories owner) place ≡ Some entry) ⊎ (last_entry (v.histories owner) ≡ Some entry)

same_old : (w : PlaceWorld) → OldOrLast w w
same_old w owner place entry e = inl e

pushed_old : (h : List EntryValue) (y : EntryValue) (place : ℕ) (entry : EntryValue) → at_place (h ++ y ∷ []) place ≡ Some entry → (at_place h place ≡ Some entry) ⊎ (last_entry (h ++ y ∷ []) ≡ Some entry)
pushed_old h y place entry e = elim (at_place_push h y place entry e) [ inl old ↦ inl old | inr new ↦ inr (sent_last h y ∙ ap Some (sym new)) ]

grown_old : (histories : ℕ → List EntryValue) (node : ℕ) (y : EntryValue) (owner place : ℕ) (entry : EntryValue) → at_place (grown histories node y owner) place ≡ Some entry
    → (at_place (histories owner) place ≡ Some entry) ⊎ (last_entry (grown histories node y owner) ≡ Some entry)
grown_old histories node y = put_at-each (λ owner h. (place : ℕ) (entry : EntryValue) → at_place h place ≡ Some entry → (at_place (histories owner) place ≡ Some entry) ⊎ (last_entry h ≡ Some entry)) histories node _
    (λ place entry e. pushed_old (histories node) y place entry e) (λ owner apart place entry e. inl e)

start_old : (w : PlaceWorld) (node generation : ℕ) → OldOrLast w (with_start w node generation)
unfolding with_start
start_old w node generation = grown_old w.histories node (starting_entry generation)

entry_old : (w : PlaceWorld) (node : ℕ) (y : EntryValue) → OldOrLast w (with_entry w node y)
unfolding with_entry
entry_old w node y = grown_old w.histories node y

message_old : (w v : PlaceWorld) (message : PlaceMessage) → OldOrLast w v → OldOrLast w (with_message v message)
unfolding with_message
message_old w v message old = old

spans_old : (w v : PlaceWorld) (node : ℕ) (spans : ℕ → Option Span) → OldOrLast w v → OldOrLast w (with_spans v node spans)
unfolding with_spans
spans_old w v node spans old = old

old_kept : (w : PlaceWorld) → IsKept (OldOrLast w)
old_kept w = record { message = message_old w; spans = spans_old w }

pub action_old : (w : PlaceWorld) (action : PlaceAction) → OldOrLast w (after_action w action)
action_old w action = action_kept (OldOrLast w) (old_kept w) w action (same_old w) (own_part (OldOrLast w) w own action)
  where
    own : IsAfterOwn (OldOrLast w) w
    own = record { start = λ node generation may. start_old w node generation; entry = λ node x y e. entry_old w node y }

-- ---- in the order of the actions

-- an entry was there at the beginning, or was its owner's own later
abbrev Stood : WorldValue → PlaceWorld → List Action → PlaceWorld → Type 0
Stood c w actions v = (owner place : ℕ) (entry : EntryValue) → at_place (v.histories owner) place ≡ Some entry → (at_place (w.histories owner) place ≡ Some entry) ⊎ WasOwn c actions owner entry

-- an entry that was the own one after an action was so after it and the others
was_later : (c d : WorldValue) (action : Action) (actions : List Action) (owner : ℕ) (entry : EntryValue) → act c action ≡ d → WasOwn d actions owner entry → WasOwn c (action ∷ actions) owner entry
was_later c d action actions owner entry same was = record {
  earlier = action ∷ was.earlier;
  later = was.later;
  in_order = ap (λ (xs : List Action). action ∷ xs) was.in_order;
  own = subst (λ d. own_at (run_from d was.earlier) owner ≡ Some entry) (sym same) was.own;
}

now_own : (c : WorldValue) (w : PlaceWorld) → Joined c w → (actions : List Action) (owner : ℕ) (entry : EntryValue) → last_entry (w.histories owner) ≡ Some entry → WasOwn c actions owner entry
now_own c w j actions owner entry e = record { earlier = []; later = actions; in_order = refl; own = own_last c w j.tied owner ∙ e }

-- one action, and those after it
next_stood : (c : WorldValue) (w : PlaceWorld) (j : Joined c w) (action : Action) (actions : List Action) → ((d : WorldValue) (v : PlaceWorld) → Joined d v → Stood d v actions (after_actions v (done_by_places v actions)))
    → (left : Result WorldValue Fault) → acting c action ≡ left → AgreesBy (refusal w (plain_action action)) (after_action w (plain_action action)) left
    → Stood c w (action ∷ actions) (after_actions w (unless_refused (refusal w (plain_action action)) (plain_action action) (done_by_places (after_action w (plain_action action)) actions) (done_by_places w actions)))
next_stood c w j action actions rest (Ok d) is a = rw a.0 (λ owner place entry e. after owner place entry (rest d (after_action w (plain_action action)) k owner place entry e))
  where
    k : Joined d (after_action w (plain_action action))
    k = done_joined c w action d j a

    after : (owner place : ℕ) (entry : EntryValue) → (at_place ((after_action w (plain_action action)).histories owner) place ≡ Some entry) ⊎ WasOwn d actions owner entry → (at_place (w.histories owner) place ≡ Some entry) ⊎ WasOwn c (action ∷ actions) owner entry
    after owner place entry (inl e) = elim (action_old w (plain_action action) owner place entry e) [
      | inl old ↦ inl old
      | inr last ↦ inr (was_later c d action actions owner entry (ap (or_unchanged c) is) (now_own d (after_action w (plain_action action)) k actions owner entry last))
    ]
    after owner place entry (inr was) = inr (was_later c d action actions owner entry (ap (or_unchanged c) is) was)
next_stood c w j action actions rest (Err fault) is a = rw a (λ owner place entry e. after owner place entry (rest c w j owner place entry e))
  where
    after : (owner place : ℕ) (entry : EntryValue) → (at_place (w.histories owner) place ≡ Some entry) ⊎ WasOwn c actions owner entry → (at_place (w.histories owner) place ≡ Some entry) ⊎ WasOwn c (action ∷ actions) owner entry
    after owner place entry (inl old) = inl old
    after owner place entry (inr was) = inr (was_later c c action actions owner entry (ap (or_unchanged c) is) was)

stood_from : (c : WorldValue) (w : PlaceWorld) (actions : List Action) → Joined c w → Stood c w actions (after_actions w (done_by_places w actions))
stood_from c w [] j = λ owner place entry e. inl e
stood_from c w (action ∷ actions) j = next_stood c w j action actions (λ d v k. stood_from d v actions k) (acting c action) refl (action_agrees c w j.tied j.bounded action)

-- each entry of a history was its owner's own
pub places_were_own : (settings : SettingsValue) (actions : List Action) (owner place : ℕ) (entry : EntryValue) → at_place ((place_world actions).histories owner) place ≡ Some entry → WasOwn (new_world settings) actions owner entry
unfolding nobody
places_were_own settings actions owner place entry e = go (stood_from (new_world settings) nobody actions (joined settings []) owner place entry e)
  where
    nowhere : (place : ℕ) → at_place [] place ≡ Some entry → WasOwn (new_world settings) actions owner entry
    nowhere zero e = absurd cc
    nowhere (suc place) e = absurd cc

    go : (at_place (nobody.histories owner) place ≡ Some entry) ⊎ WasOwn (new_world settings) actions owner entry → WasOwn (new_world settings) actions owner entry
    go (inl e) = nowhere place e
    go (inr was) = was

pub entries_are_whole : EntriesAreWhole
entries_are_whole settings actions node n e owner entry held = places_were_own settings actions owner ((place_world actions).places node owner) entry (sym ((spelled settings actions node n e).at owner) ∙ held)
