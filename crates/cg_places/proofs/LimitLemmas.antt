-- Owners and versions keep their limits if no action was refused.
use Rattle.std.proofs.Common.{◌≡◌, ℕ, suc, zero, ◌+◌, ◌<◌, ◌≤◌, List, [], ◌∷◌, ◌++◌, length, refl, sym, ◌∙◌, ap, subst, arith, Bool, true, false, Option, Some, None, inl, inr}
use Rattle.std.specs.Prelude.{cond, nat_lt, Result, Ok, Err}
use Rattle.std.proofs.lemmas.Bool.Decides.{nat_tests}
use Rattle.cg_types.specs.Answer.{fault_of}
use Rattle.cg_types.specs.declared.fault.Fault.{Fault}
use Rattle.cg_types.specs.declared.fault.Fault.TheVariants.{TableFull, NotRising, NoSuchKey, VersionsSpent}
use Rattle.cg_types.specs.declared.limits.TheConstants.{MEMBER_LIMIT, NUMBER_LIMIT}
use Rattle.cg_entry.specs.Values.{EntryValue}
use Rattle.cg_entry.specs.Entry.{starting_entry, entry_after_beat, with_state, has_text, newest}
use Rattle.cg_entry.specs.History.{at_place}
use Rattle.cg_entry.specs.Place.{Span}
use Rattle.cg_entry.proofs.HistoryLemmas.{newest_started, newest_beaten, newest_given}
use Rattle.cg_places.specs.PlaceMessages.{PlaceMessage}
use Rattle.cg_places.specs.PlaceWorld.{PlaceWorld, PlaceAction, Start, Beat, Set, Remove, Opening, Tick, Deliver, grown, nobody, runs, with_start, with_entry, with_message, with_spans, may_start, last_entry, after_action, after_actions, world_after}
use Rattle.cg_places.specs.Refusals.{change_refusal, removal_refusal, start_refusal, refusal, AreDone}
use Rattle.cg_places.specs.Laws.{IsWithinLimits}
use Rattle.cg_places.proofs.KeptLemmas.{IsKept, AfterChange, OwnPart, action_kept}
use Rattle.cg_places.proofs.PutLemmas.{put_at-each, at_place_push}

-- each version of a history is below the limit
abbrev AllBelow : List EntryValue → Type 0
AllBelow history = (place : ℕ) (entry : EntryValue) → at_place history place ≡ Some entry → newest entry < NUMBER_LIMIT

pushed_below : (h : List EntryValue) (y : EntryValue) → AllBelow h → newest y < NUMBER_LIMIT → AllBelow (h ++ y ∷ [])
pushed_below h y below l place entry e = elim (at_place_push h y place entry e) [ inl old ↦ below place entry old | inr new ↦ subst (λ x. newest x < NUMBER_LIMIT) (sym new) l ]

grown_below : (histories : ℕ → List EntryValue) (node : ℕ) (entry : EntryValue) → ((owner : ℕ) → AllBelow (histories owner)) → newest entry < NUMBER_LIMIT → (owner : ℕ) → AllBelow (grown histories node entry owner)
grown_below histories node entry below l = put_at-each (λ owner h. AllBelow h) histories node _ (pushed_below (histories node) entry (below node) l) (λ owner apart. below owner)

pub nobody_limited : IsWithinLimits nobody
unfolding nobody
nobody_limited = record { owners = omega arith; versions = λ owner place entry e. nowhere place entry e }
  where
    nowhere : (place : ℕ) (entry : EntryValue) → at_place [] place ≡ Some entry → newest entry < NUMBER_LIMIT
    nowhere zero entry e = cc
    nowhere (suc place) entry e = cc

message_limited : (w : PlaceWorld) (message : PlaceMessage) → IsWithinLimits w → IsWithinLimits (with_message w message)
unfolding with_message
message_limited w message l = record { owners = l.owners; versions = l.versions }

spans_limited : (w : PlaceWorld) (node : ℕ) (spans : ℕ → Option Span) → IsWithinLimits w → IsWithinLimits (with_spans w node spans)
unfolding with_spans
spans_limited w node spans l = record { owners = l.owners; versions = l.versions }

entry_limited : (w : PlaceWorld) (node : ℕ) (entry : EntryValue) → newest entry < NUMBER_LIMIT → IsWithinLimits w → IsWithinLimits (with_entry w node entry)
unfolding with_entry
entry_limited w node entry below l = record { owners = l.owners; versions = grown_below w.histories node entry l.versions below }

start_limited : (w : PlaceWorld) (node generation : ℕ) → IsWithinLimits w → start_refusal w node generation ≡ None → may_start w node generation ≡ true → IsWithinLimits (with_start w node generation)
unfolding with_start
start_limited w node generation l free may = record {
  owners = go (runs w node) (sym (ap (λ b. cond b (cond (runs w node) None (cond (nat_lt (length w.owners) MEMBER_LIMIT) None (Some TableFull))) (Some NotRising)) may) ∙ free);
  versions = grown_below w.histories node (starting_entry generation) l.versions (omega (arith, newest_started generation));
}
  where
    room : (b : Bool) → nat_lt (length w.owners) MEMBER_LIMIT ≡ b → cond b None (Some TableFull) ≡ None → length w.owners + 1 ≤ MEMBER_LIMIT
    room true e f = grind (arith, nat_tests)
    room false e f = absurd cc

    go : (b : Bool) → cond b None (cond (nat_lt (length w.owners) MEMBER_LIMIT) None (Some TableFull)) ≡ None → length (cond b w.owners (node ∷ w.owners)) ≤ MEMBER_LIMIT
    go true f = l.owners
    go false f = omega (arith, room (nat_lt (length w.owners) MEMBER_LIMIT) refl f)

-- an entry that may change has a next version
next_below : (x : EntryValue) → change_refusal (Some x) ≡ None → newest x + 1 < NUMBER_LIMIT
next_below x free = go (nat_lt (newest x + 1) NUMBER_LIMIT) refl free
  where
    go : (b : Bool) → nat_lt (newest x + 1) NUMBER_LIMIT ≡ b → fault_of (cond {A = Result ℕ Fault} b (Ok (newest x + 1)) (Err VersionsSpent)) ≡ None → newest x + 1 < NUMBER_LIMIT
    go true e f = grind (arith, nat_tests)
    go false e f = absurd cc

change_limited : (w : PlaceWorld) (node : ℕ) (change : EntryValue → EntryValue) → ((x : EntryValue) → newest (change x) ≡ newest x + 1) → change_refusal (last_entry (w.histories node)) ≡ None
    → IsWithinLimits w → AfterChange IsWithinLimits w node change
change_limited w node change one free l x e = entry_limited w node (change x) (omega (arith, one x, next_below x (ap change_refusal (sym e) ∙ free))) l

-- a removal that is not refused takes a text away, and there is a next version
removal_free : (key : ℕ) (x : EntryValue) → removal_refusal key (Some x) ≡ None → change_refusal (Some x) ≡ None
removal_free key x free = go (has_text key x) free
  where
    go : (b : Bool) → cond b (change_refusal (Some x)) (Some NoSuchKey) ≡ None → change_refusal (Some x) ≡ None
    go true f = f
    go false f = absurd cc

removal_limited : (w : PlaceWorld) (node key : ℕ) → removal_refusal key (last_entry (w.histories node)) ≡ None → IsWithinLimits w → AfterChange IsWithinLimits w node (with_state key None)
removal_limited w node key free l x e =
    entry_limited w node (with_state key None x) (omega (arith, newest_given key None x, next_below x (removal_free key x (ap (removal_refusal key) (sym e) ∙ free)))) l

limits_kept : IsKept IsWithinLimits
limits_kept = record { message = message_limited; spans = spans_limited }

own_limited : (w : PlaceWorld) (action : PlaceAction) → refusal w action ≡ None → IsWithinLimits w → OwnPart IsWithinLimits w action
own_limited w (Start node generation) free l = λ may. start_limited w node generation l free may
own_limited w (Beat node) free l = change_limited w node entry_after_beat newest_beaten free l
own_limited w (Set node key text) free l = change_limited w node (with_state key (Some text)) (newest_given key (Some text)) free l
own_limited w (Remove node key) free l = removal_limited w node key free l
own_limited w (Opening node) free l = tt
own_limited w (Tick node) free l = change_limited w node entry_after_beat newest_beaten free l
own_limited w (Deliver number to) free l = tt

pub action_limited : (w : PlaceWorld) (action : PlaceAction) → refusal w action ≡ None → IsWithinLimits w → IsWithinLimits (after_action w action)
action_limited w action free l = action_kept IsWithinLimits limits_kept w action l (own_limited w action free l)

actions_from_limited : (w : PlaceWorld) (actions : List PlaceAction) → AreDone w actions → IsWithinLimits w → IsWithinLimits (after_actions w actions)
actions_from_limited w [] done l = l
actions_from_limited w (action ∷ actions) done l = actions_from_limited (after_action w action) actions done.1 (action_limited w action done.0 l)

pub actions_limited : (actions : List PlaceAction) → AreDone nobody actions → IsWithinLimits (world_after actions)
actions_limited actions done = actions_from_limited nobody actions done nobody_limited
