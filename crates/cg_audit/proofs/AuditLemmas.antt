-- Steps from the result of the turns to the answer of an audit.
use Rattle.std.proofs.Common.{◌≡◌, ℕ, Bool, true, false, cond, List, [], ◌∷◌, map, refl, sym, ap, ◌∙◌, subst, eqb-true, eq-eqb}
use Rattle.std.specs.Prelude.{◌==◌, ◌&&◌, Result, Ok, Err, None}
use Rattle.cg_types.specs.Rising.{rise_past}
use Rattle.cg_types.specs.declared.fault.Fault.{Fault}
use Rattle.cg_types.specs.declared.fault.Fault.TheVariants.{OutOfMemory}
use Rattle.std.specs.List.{AllByRecursion}
use Rattle.cg_history.specs.History.{HistoryValue}
use Rattle.cg_audit.specs.Items.{RunItem, LivesValue, AreLives, AreWhole, generation_of, items_at, items_of_lives}
use Rattle.cg_audit.specs.OneRun.{GenerationsRise}
use Rattle.cg_audit.specs.Turns as turns
use Rattle.cg_audit.specs.Laws.{OrdersAreRuns, StuckLivesAreNoRun, HeadsCanNotGo}
use Rattle.cg_audit.specs.declared.item.Order.{Order}
use Rattle.cg_audit.specs.declared.item.AuditFault.{AuditFault}
use Rattle.cg_audit.specs.declared.item.AuditFault.TheVariants.{Other, Stuck}
use Rattle.cg_audit.specs.Audit.{IsAudited}
use Rattle.cg_audit.specs.Lives.{all_rise, are_whole, none_folded}
use Rattle.cg_audit.specs.Track.{Track}
use Rattle.cg_audit.specs.Tracks.{IsFound, endpoints_in, found_of, left_in, track_of}

-- ---- the tracks are the lives

endpoints_same : (ls : List LivesValue) → endpoints_in (map track_of ls) ≡ turns.endpoints_of ls
endpoints_same [] = refl
endpoints_same (l ∷ ls) = ap (λ es. l.endpoint ∷ es) (endpoints_same ls)

left_same : (ls : List LivesValue) (e : ℕ) → left_in (map track_of ls) e ≡ items_at ls e
left_same [] e = refl
left_same (l ∷ ls) e = by (l.endpoint == e) refl (left_same ls e)
  where
    by : (b : Bool) → (l.endpoint == e) ≡ b → left_in (map track_of ls) e ≡ items_at ls e
        → cond b (items_of_lives l.endpoint l.histories) (left_in (map track_of ls) e) ≡ cond b (items_of_lives e l.histories) (items_at ls e)
    by true is more = ap (λ k. items_of_lives k l.histories) (eqb-true l.endpoint e is)
    by false is more = more

pub found_is_order : (ls : List LivesValue) → found_of (map track_of ls) ≡ turns.order_of ls
found_is_order ls =
    let left : left_in (map track_of ls) ≡ items_at ls = λ i. λ e. left_same ls e i in
    ap (λ f. turns.turns (turns.count_left (endpoints_in (map track_of ls)) f) (endpoints_in (map track_of ls)) f []) left
    ∙ ap (λ es. turns.turns (turns.count_left es (items_at ls)) es (items_at ls) []) (endpoints_same ls)

-- ---- tests that generations rise

pub they_rise : (ls : List LivesValue) → all_rise ls ≡ true → GenerationsRise ls
they_rise [] e = tt
they_rise (l ∷ ls) e = by (rise_past None (map generation_of l.histories)) refl e (they_rise ls)
  where
    by : (b : Bool) → rise_past None (map generation_of l.histories) ≡ b → (b && all_rise ls) ≡ true → (all_rise ls ≡ true → GenerationsRise ls) → GenerationsRise (l ∷ ls)
    by true is more rest = (is, rest more)
    by false is more rest = absurd cc

pub they_fall : (ls : List LivesValue) → all_rise ls ≡ false → GenerationsRise ls → ⊥
they_fall [] e rise = absurd cc
they_fall (l ∷ ls) e rise = they_fall ls (ap (λ b. b && all_rise ls) (sym rise.0) ∙ e) rise.1

-- ---- tests that no record is folded

abbrev IsUnfolded : HistoryValue → Type 0
IsUnfolded h = h.folded ≡ 0

none_are : (hs : List HistoryValue) → none_folded hs ≡ true → AllByRecursion IsUnfolded hs
none_are [] e = tt
none_are (h ∷ hs) e = by (h.folded == 0) refl e (none_are hs)
  where
    by : (b : Bool) → (h.folded == 0) ≡ b → (b && none_folded hs) ≡ true → (none_folded hs ≡ true → AllByRecursion IsUnfolded hs) → AllByRecursion IsUnfolded (h ∷ hs)
    by true is more rest = (eqb-true h.folded 0 is, rest more)
    by false is more rest = absurd cc

some_are : (hs : List HistoryValue) → none_folded hs ≡ false → AllByRecursion IsUnfolded hs → ⊥
some_are [] e all = absurd cc
some_are (h ∷ hs) e all = some_are hs (ap (λ b. b && none_folded hs) (sym (eq-eqb h.folded 0 all.0)) ∙ e) all.1

pub they_are_whole : (ls : List LivesValue) → are_whole ls ≡ true → AreWhole ls
they_are_whole [] e = tt
they_are_whole (l ∷ ls) e = by (none_folded l.histories) refl e (they_are_whole ls)
  where
    by : (b : Bool) → none_folded l.histories ≡ b → (b && are_whole ls) ≡ true → (are_whole ls ≡ true → AreWhole ls) → AreWhole (l ∷ ls)
    by true is more rest = (none_are l.histories is, rest more)
    by false is more rest = absurd cc

pub they_are_folded : (ls : List LivesValue) → are_whole ls ≡ false → AreWhole ls → ⊥
they_are_folded [] e whole = absurd cc
they_are_folded (l ∷ ls) e whole = by (none_folded l.histories) refl e (λ more. they_are_folded ls more whole.1)
  where
    by : (b : Bool) → none_folded l.histories ≡ b → (b && are_whole ls) ≡ false → (are_whole ls ≡ false → ⊥) → ⊥
    by true is more rest = rest more
    by false is more rest = some_are l.histories is whole.0

-- ---- the answer

module _ (ls : List LivesValue) (are : AreLives ls) (rise : GenerationsRise ls) (whole : AreWhole ls) (orders : OrdersAreRuns) (stuck : StuckLivesAreNoRun) (heads : HeadsCanNotGo) where
  memory : (fault : Fault) → fault ≡ OutOfMemory → IsAudited ls (Err (Other fault))
  memory fault e = subst (λ f. IsAudited ls (Err (Other f))) (sym e) (rise, whole)

  audited_as : (found : turns.Found) → turns.order_of ls ≡ found → (r : Result Order AuditFault) → IsFound found r → IsAudited ls r
  audited_as (turns.Order items) is (Ok order) f = record { items = items; named = f; are_lives = are; are_whole = whole; is_run = orders ls items rise is; by_turns = is }
  audited_as (turns.Order items) is (Err (Stuck hs)) f = elim f [ ]
  audited_as (turns.Order items) is (Err (Other fault)) f = memory fault f
  audited_as (turns.Stuck items) is (Ok order) f = elim f [ ]
  audited_as (turns.Stuck items) is (Err (Stuck hs)) f = record {
    items = items;
    named = f;
    rise = rise;
    are_whole = whole;
    none = λ order run. stuck ls items order is run;
    are_stuck = heads ls items is;
    by_turns = is;
  }
  audited_as (turns.Stuck items) is (Err (Other fault)) f = memory fault f

  pub audited : (r : Result Order AuditFault) → IsFound (found_of (map track_of ls)) r → IsAudited ls r
  audited r f = audited_as (turns.order_of ls) refl r (subst (λ g. IsFound g r) (found_is_order ls) f)
