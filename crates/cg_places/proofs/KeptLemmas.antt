-- A property that sent messages and taken spans keep is kept by each action whose own part keeps it: the start of a
-- node, or the change of its own entry.
use Rattle.std.proofs.Common.{◌≡◌, ℕ, Bool, true, false, Option, Some, None, refl, subst}
use Rattle.std.specs.Prelude.{⊤, cond}
use Rattle.cg_entry.specs.Values.{EntryValue}
use Rattle.cg_entry.specs.Entry.{entry_after_beat, with_state, has_text}
use Rattle.cg_entry.specs.History.{at_place}
use Rattle.cg_entry.specs.Place.{Span}
use Rattle.cg_places.specs.PlaceMessages.{PlaceMessage, Syn, Ack, Ack2}
use Rattle.cg_places.specs.PlaceWorld.{PlaceWorld, PlaceAction, Start, Beat, Set, Remove, Opening, Tick, Deliver, runs, with_start, with_entry, with_message, with_spans, may_start, last_entry, after_change, removable, after_opening, after_receipt, after_delivery, after_action}

-- It stays true as any message is sent, and as any spans are taken.
pub record IsKept (P : PlaceWorld → Type 0) : Type 0 where
  pub message : (w : PlaceWorld) (message : PlaceMessage) → P w → P (with_message w message)
  pub spans : (w : PlaceWorld) (node : ℕ) (spans : ℕ → Option Span) → P w → P (with_spans w node spans)

-- It is true once a node's own entry, if there is one, is changed.
abbrev pub AfterChange : (PlaceWorld → Type 0) → PlaceWorld → ℕ → (EntryValue → EntryValue) → Type 0
AfterChange P w node change = (x : EntryValue) → last_entry (w.histories node) ≡ Some x → P (with_entry w node (change x))

-- the part of an action that is left to show: of a start that is done, and of a change of an own entry
abbrev pub OwnPart : (PlaceWorld → Type 0) → PlaceWorld → PlaceAction → Type 0
OwnPart P w (Start node generation) = may_start w node generation ≡ true → P (with_start w node generation)
OwnPart P w (Beat node) = AfterChange P w node entry_after_beat
OwnPart P w (Set node key text) = AfterChange P w node (with_state key (Some text))
OwnPart P w (Remove node key) = AfterChange P w node (with_state key None)
OwnPart P w (Opening node) = ⊤
OwnPart P w (Tick node) = AfterChange P w node entry_after_beat
OwnPart P w (Deliver number to) = ⊤

-- It is true after any start that is done, and after any entry that follows a node's own.
pub record IsAfterOwn (P : PlaceWorld → Type 0) (w : PlaceWorld) : Type 0 where
  pub start : (node generation : ℕ) → may_start w node generation ≡ true → P (with_start w node generation)
  pub entry : (node : ℕ) (x y : EntryValue) → last_entry (w.histories node) ≡ Some x → P (with_entry w node y)

pub own_part : (P : PlaceWorld → Type 0) (w : PlaceWorld) → IsAfterOwn P w → (action : PlaceAction) → OwnPart P w action
own_part P w own (Start node generation) = own.start node generation
own_part P w own (Beat node) = λ x e. own.entry node x (entry_after_beat x) e
own_part P w own (Set node key text) = λ x e. own.entry node x (with_state key (Some text) x) e
own_part P w own (Remove node key) = λ x e. own.entry node x (with_state key None x) e
own_part P w own (Opening node) = tt
own_part P w own (Tick node) = λ x e. own.entry node x (entry_after_beat x) e
own_part P w own (Deliver number to) = tt

-- An entry from which a text may be removed is the last one, and the key has a text there.
pub removable_is : (key : ℕ) (last : Option EntryValue) (x : EntryValue) → removable key last ≡ Some x → (last ≡ Some x) × (has_text key x ≡ true)
removable_is key None x is = absurd cc
removable_is key (Some y) x is = go (has_text key y) refl is
  where
    go : (b : Bool) → has_text key y ≡ b → cond b (Some y) None ≡ Some x → (Some y ≡ Some x) × (has_text key x ≡ true)
    go true stands same = (same, let one : y ≡ x = cc in subst (λ (z : EntryValue). has_text key z ≡ true) one stands)
    go false stands none = absurd cc

module _ (P : PlaceWorld → Type 0) (kept : IsKept P) where
  of_both : (v w : PlaceWorld) (b : Bool) → P v → P w → P (cond b v w)
  of_both v w true p q = p
  of_both v w false p q = q

  opened_kept : (w : PlaceWorld) (node : ℕ) → P w → P (after_opening w node)
  opened_kept w node p = of_both (with_message w (Syn (w.places node))) w (runs w node) (kept.message w (Syn (w.places node)) p) p

  received_kept : (w : PlaceWorld) (node : ℕ) (message : PlaceMessage) → P w → P (after_receipt w node message)
  received_kept w node (Syn theirs) p = kept.message w _ p
  received_kept w node (Ack asks spans) p = kept.message (with_spans w node spans) _ (kept.spans w node spans p)
  received_kept w node (Ack2 spans) p = kept.spans w node spans p

  delivered_kept : (w : PlaceWorld) (node : ℕ) (o : Option PlaceMessage) → P w → P (after_delivery w node o)
  delivered_kept w node None p = p
  delivered_kept w node (Some message) p = of_both (after_receipt w node message) w (runs w node) (received_kept w node message p) p

  changed_kept : (w : PlaceWorld) (node : ℕ) (change : EntryValue → EntryValue) → P w → AfterChange P w node change → (o : Option EntryValue) → last_entry (w.histories node) ≡ o → P (after_change w node change o)
  changed_kept w node change p own None e = p
  changed_kept w node change p own (Some x) e = own x e

  removed_kept : (w : PlaceWorld) (node key : ℕ) → P w → AfterChange P w node (with_state key None) → (o : Option EntryValue) → removable key (last_entry (w.histories node)) ≡ o → P (after_change w node (with_state key None) o)
  removed_kept w node key p own None e = p
  removed_kept w node key p own (Some x) e = own x (removable_is key (last_entry (w.histories node)) x e).0

  pub action_kept : (w : PlaceWorld) (action : PlaceAction) → P w → OwnPart P w action → P (after_action w action)
  unfolding after_action
  action_kept w (Start node generation) p own = go (may_start w node generation) refl
    where
      go : (b : Bool) → may_start w node generation ≡ b → P (cond b (with_start w node generation) w)
      go true e = own e
      go false e = p
  action_kept w (Beat node) p own = changed_kept w node entry_after_beat p own (last_entry (w.histories node)) refl
  action_kept w (Set node key text) p own = changed_kept w node (with_state key (Some text)) p own (last_entry (w.histories node)) refl
  action_kept w (Remove node key) p own = removed_kept w node key p own (removable key (last_entry (w.histories node))) refl
  action_kept w (Opening node) p own = opened_kept w node p
  action_kept w (Tick node) p own = opened_kept (after_change w node entry_after_beat (last_entry (w.histories node))) node (changed_kept w node entry_after_beat p own (last_entry (w.histories node)) refl)
  action_kept w (Deliver number to) p own = delivered_kept w to (at_place w.sent number) p
