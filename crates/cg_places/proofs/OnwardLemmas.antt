-- Places held by a running node never fall back, and sent messages stay sent.
use Rattle.std.proofs.Common.{◌≡◌, ◌≢◌, ℕ, ◌+◌, ◌≤◌, List, [], ◌∷◌, length, sym, ap, arith, true, Option, Some, None}
use Rattle.std.specs.Prelude.{◌==◌}
use Rattle.std.proofs.lemmas.Bool.Decides.{nat_tests}
use Rattle.cg_entry.specs.Values.{EntryValue}
use Rattle.cg_entry.specs.Entry.{starting_entry, entry_after_beat, with_state}
use Rattle.cg_entry.specs.History.{at_place}
use Rattle.cg_entry.specs.Place.{Span}
use Rattle.cg_places.specs.PlaceMessages.{PlaceMessage}
use Rattle.cg_places.specs.PlaceWorld.{PlaceWorld, PlaceAction, Start, Beat, Set, Remove, Opening, Tick, Deliver, put_at, runs, with_start, with_entry, with_message, with_spans, after_action, after_actions}
use Rattle.cg_places.specs.Exchange.{IsNoStartOf, NoStartsOf}
use Rattle.cg_places.proofs.KeptLemmas.{IsKept, OwnPart, IsAfterOwn, own_part, action_kept}
use Rattle.cg_places.proofs.PutLemmas.{put_at-each, put_at_other, at_place_longer}
use Rattle.cg_places.proofs.GrowthLemmas.{AllContinue, continues_itself, continues_on, grown_continue}
use Rattle.cg_places.proofs.StepLemmas.{place_with_rises}
use Rattle.cg_places.proofs.WorldLemmas.{IsSound, action_sound}

-- ---- any action

-- written entries and sent messages stay
pub record Keeps (w v : PlaceWorld) : Type 0 where
  pub histories : AllContinue w.histories v.histories
  pub sent : (number : ℕ) (message : PlaceMessage) → at_place w.sent number ≡ Some message → at_place v.sent number ≡ Some message

keeps_itself : (w : PlaceWorld) → Keeps w w
keeps_itself w = record { histories = λ owner. continues_itself (w.histories owner); sent = λ k m e. e }

pub keeps_on : {u v w : PlaceWorld} → Keeps u v → Keeps v w → Keeps u w
keeps_on a b = record { histories = λ owner. continues_on (a.histories owner) (b.histories owner); sent = λ k m e. b.sent k m (a.sent k m e) }

message_keeps : (w : PlaceWorld) (message : PlaceMessage) → Keeps w (with_message w message)
unfolding with_message
message_keeps w message = record { histories = λ owner. continues_itself (w.histories owner); sent = λ k m e. at_place_longer w.sent (message ∷ []) k m e }

entry_keeps : (w : PlaceWorld) (node : ℕ) (entry : EntryValue) → Keeps w (with_entry w node entry)
unfolding with_entry
entry_keeps w node entry = record { histories = grown_continue w.histories node entry; sent = λ k m e. e }

start_keeps : (w : PlaceWorld) (node generation : ℕ) → Keeps w (with_start w node generation)
unfolding with_start
start_keeps w node generation = record { histories = grown_continue w.histories node (starting_entry generation); sent = λ k m e. e }

spans_keep : (w : PlaceWorld) (node : ℕ) (spans : ℕ → Option Span) → Keeps w (with_spans w node spans)
unfolding with_spans
spans_keep w node spans = record { histories = λ owner. continues_itself (w.histories owner); sent = λ k m e. e }

all_kept : (u : PlaceWorld) → IsKept (Keeps u)
all_kept u = record { message = λ w message k. keeps_on k (message_keeps w message); spans = λ w node spans k. keeps_on k (spans_keep w node spans) }

pub action_keeps : (w : PlaceWorld) (action : PlaceAction) → Keeps w (after_action w action)
action_keeps w action = action_kept (Keeps w) (all_kept w) w action (keeps_itself w) (own_part (Keeps w) w own action)
  where
    own : IsAfterOwn (Keeps w) w
    own = record { start = λ node generation may. start_keeps w node generation; entry = λ node x y e. entry_keeps w node y }

pub actions_from_keeps : (w : PlaceWorld) (actions : List PlaceAction) → Keeps w (after_actions w actions)
actions_from_keeps w [] = keeps_itself w
actions_from_keeps w (action ∷ actions) = keeps_on (action_keeps w action) (actions_from_keeps (after_action w action) actions)

-- a node that ran runs on
pub still_runs : {w v : PlaceWorld} → Keeps w v → (node : ℕ) → runs w node ≡ true → runs v node ≡ true
still_runs k node e = let longer = (k.histories node).longer in grind (arith, nat_tests)

-- ---- a node that is not started keeps what it holds

abbrev pub HoldsOn : ℕ → PlaceWorld → PlaceWorld → Type 0
HoldsOn n w v = (owner : ℕ) → w.places n owner ≤ v.places n owner

holds_itself : (n : ℕ) (w : PlaceWorld) → HoldsOn n w w
holds_itself n w owner = omega arith

pub holds_further : (n : ℕ) (u v w : PlaceWorld) → HoldsOn n u v → HoldsOn n v w → HoldsOn n u w
holds_further n u v w a b owner = omega (arith, a owner, b owner)

message_holds : (n : ℕ) (w : PlaceWorld) (message : PlaceMessage) → HoldsOn n w (with_message w message)
unfolding with_message
message_holds n w message owner = omega arith

entry_holds : (n : ℕ) (w : PlaceWorld) (node : ℕ) (entry : EntryValue) → IsSound w → HoldsOn n w (with_entry w node entry)
unfolding with_entry
entry_holds n w node entry s = put_at-each (λ m row. (owner : ℕ) → w.places m owner ≤ row owner) w.places node _
    (put_at-each (λ owner p. w.places node owner ≤ p) (w.places node) node _ (omega (arith, s.stands node node)) (λ owner apart. omega arith))
    (λ m apart owner. omega arith) n

start_holds : (n : ℕ) (w : PlaceWorld) (node generation : ℕ) → node ≢ n → HoldsOn n w (with_start w node generation)
unfolding with_start
start_holds n w node generation apart owner =
    omega (arith, ap (λ (row : ℕ → ℕ). row owner) (put_at_other w.places node (put_at (λ owner. 0) node (length (w.histories node) + 1)) n (λ e. apart (sym e))))

spans_hold : (n : ℕ) (w : PlaceWorld) (node : ℕ) (spans : ℕ → Option Span) → HoldsOn n w (with_spans w node spans)
unfolding with_spans
spans_hold n w node spans = put_at-each (λ m row. (owner : ℕ) → w.places m owner ≤ row owner) w.places node _
    (λ owner. place_with_rises (owner == node) (w.places node owner) (spans owner))
    (λ m apart owner. omega arith) n

places_kept : (n : ℕ) (u : PlaceWorld) → IsKept (HoldsOn n u)
places_kept n u = record {
  message = λ w message h. holds_further n u w (with_message w message) h (message_holds n w message);
  spans = λ w node spans h. holds_further n u w (with_spans w node spans) h (spans_hold n w node spans);
}

own_holds : (n : ℕ) (w : PlaceWorld) (action : PlaceAction) → IsSound w → IsNoStartOf n action → OwnPart (HoldsOn n w) w action
own_holds n w (Start node generation) s apart = λ may. start_holds n w node generation apart
own_holds n w (Beat node) s apart = λ x e. entry_holds n w node (entry_after_beat x) s
own_holds n w (Set node key text) s apart = λ x e. entry_holds n w node (with_state key (Some text) x) s
own_holds n w (Remove node key) s apart = λ x e. entry_holds n w node (with_state key None x) s
own_holds n w (Opening node) s apart = tt
own_holds n w (Tick node) s apart = λ x e. entry_holds n w node (entry_after_beat x) s
own_holds n w (Deliver number to) s apart = tt

pub action_holds : (n : ℕ) (w : PlaceWorld) (action : PlaceAction) → IsSound w → IsNoStartOf n action → HoldsOn n w (after_action w action)
action_holds n w action s apart = action_kept (HoldsOn n w) (places_kept n w) w action (holds_itself n w) (own_holds n w action s apart)

pub actions_from_holds : (n : ℕ) (w : PlaceWorld) (actions : List PlaceAction) → IsSound w → NoStartsOf n actions → HoldsOn n w (after_actions w actions)
actions_from_holds n w [] s never = holds_itself n w
actions_from_holds n w (action ∷ actions) s never = holds_further n w (after_action w action) (after_actions (after_action w action) actions) (action_holds n w action s never.0) (actions_from_holds n (after_action w action) actions (action_sound w action s) never.1)
