-- Stages of an endpoint's lives, and what is true at each in a world by places.
use Rattle.std.proofs.Common.{◌≡◌, ◌⊎◌, inl, inr, ℕ, List, [], ◌∷◌, ◌++◌, map, refl, sym, ◌∙◌, ap, subst, true, false, Option, Some, None, Result, Ok}
use Rattle.std.specs.List.{AllByRecursion}
use Rattle.cg_types.specs.Rising.{rise_past}
use Rattle.cg_types.specs.declared.fault.Fault.{Fault}
use Rattle.cg_entry.specs.Values.{EntryValue}
use Rattle.cg_table.specs.Own.{own_entry}
use Rattle.cg_table.specs.Spelling.{SpellsPlaces}
use Rattle.cg_core.specs.declared.reply.Reply.{Reply}
use Rattle.cg_core.specs.Values.{NodeValue}
use Rattle.cg_core.specs.Step.{node_step}
use Rattle.cg_places.specs.PlaceWorld.{PlaceWorld, runs, last_entry}
use Rattle.cg_places.specs.Laws.{IsWorld}
use Rattle.cg_places.specs.Spelling.{StaySpelled}
use Rattle.cg_places.proofs.GrowthLemmas.{AllContinue}
use Rattle.cg_places.proofs.FollowLemmas.{spelling_stays}
use Rattle.cg_places.proofs.OwnerLemmas.{last_entry_runs}
use Rattle.cg_places.specs.Step.{IsPlaced}
use Rattle.cg_places.proofs.StepLaws.{own_held}
use Rattle.cg_world.specs.Terms.{Mark}
use Rattle.cg_world.proofs.HeadlineLaws.{Marked, marked_still}
use Rattle.cg_history.specs.declared.item.Item.{Item}
use Rattle.cg_history.specs.History.{record_of, HistoryValue, Replays}
use Rattle.cg_audit.specs.Items.{RunItem, IsLife, generation_of, items_from, items_of_lives}
use Rattle.cg_audit.specs.RunHeadline.{last_or, took_from, GapsLiePast, AllGapsLiePast, WasOwnFrom, WasOwnIn}
use Rattle.cg_audit.specs.RunWorld.{IsNumbered, IsRecordOf}

-- The history is a life of the endpoint, and no record of it is folded.
pub record IsWholeLife (e : ℕ) (h : HistoryValue) : Type 0 where
  pub is : IsLife e h
  pub whole : h.folded ≡ 0

-- a life that goes on: its node, the number of its next item, and the marks that it took of each owner so far
pub record Now : Type 0 where
  pub life : HistoryValue
  pub number : ℕ
  pub node : NodeValue
  pub marks : ℕ → List Mark

-- An endpoint has not started, or a life of it goes on, with these records left. These lives follow.
pub data Stage : Type 0 where
  Idle : (ahead : List HistoryValue) → Stage
  Going : (k : Now) (back : List Item) (ahead : List HistoryValue) → Stage

abbrev pub items_left : ℕ → Stage → List RunItem
items_left e (Idle ahead) = items_of_lives e ahead
items_left e (Going k back ahead) = items_from e (generation_of k.life) k.number back ++ items_of_lives e ahead

-- the life that will be the last
abbrev pub last_of : Stage → Option HistoryValue
last_of (Idle ahead) = last_or None ahead
last_of (Going k back ahead) = last_or (Some k.life) ahead

-- The endpoint has this own entry now or later.
abbrev pub OwnIn : Stage → EntryValue → Type 0
OwnIn (Idle ahead) entry = WasOwnIn ahead entry
OwnIn (Going k back ahead) entry = WasOwnFrom k.node back entry ⊎ WasOwnIn ahead entry

-- Its deltas from now on are gaps exactly if they lie past what is held.
abbrev pub GapsIn : Stage → Type 0
GapsIn (Idle ahead) = AllGapsLiePast ahead
GapsIn (Going k back ahead) = GapsLiePast k.node back × AllGapsLiePast ahead

-- The record has this number in the life of this generation, and is left.
abbrev pub RecordIn : Stage → ℕ → ℕ → Item → Type 0
RecordIn (Idle ahead) generation number r = IsRecordOf ahead generation number r
RecordIn (Going k back ahead) generation number r =
    ((generation_of k.life ≡ generation) × IsNumbered k.number back number r) ⊎ IsRecordOf ahead generation number r

-- the invariant before the first life
pub record IsIdle (w : PlaceWorld) (e : ℕ) (ahead : List HistoryValue) : Type 0 where
  pub idle : runs w e ≡ false
  pub rise : rise_past (Some 0) (map generation_of ahead) ≡ true
  pub lives : AllByRecursion (IsWholeLife e) ahead

-- and the invariant of a life that goes on
pub record IsGoing (w : PlaceWorld) (e : ℕ) (k : Now) (back : List Item) (ahead : List HistoryValue) : Type 0 where
  pub placed : IsPlaced w e k.node
  pub replays : Replays k.node back k.life.node
  pub took : (owner : ℕ) → took_from owner (k.marks owner) back ≡ took_from owner [] k.life.records
  pub marked : (owner : ℕ) → Marked w e owner (k.marks owner)
  pub rise : rise_past (Some (own_entry k.node.table).generation) (map generation_of ahead) ≡ true
  pub lives : AllByRecursion (IsWholeLife e) ahead

abbrev pub IsStage : PlaceWorld → ℕ → Stage → Type 0
IsStage w e (Idle ahead) = IsIdle w e ahead
IsStage w e (Going k back ahead) = IsGoing w e k back ahead

-- From one stage of an endpoint to the next: the same life is the last, and the own entries are the present one and
-- those of the next stage.
pub record Goes (w : PlaceWorld) (e : ℕ) (now then : Stage) : Type 0 where
  pub lasts : last_of now ≡ last_of then
  pub before : (entry : EntryValue) → OwnIn then entry → OwnIn now entry
  pub onward : (entry : EntryValue) → OwnIn now entry → (last_entry (w.histories e) ≡ Some entry) ⊎ OwnIn then entry
  pub gaps : GapsIn then → GapsIn now
  pub records : (generation number : ℕ) (r : Item) → RecordIn then generation number r → RecordIn now generation number r

-- ---- own entries of a life

pub own_now : (n : NodeValue) (rs : List Item) (entry : EntryValue) → own_entry n.table ≡ entry → WasOwnFrom n rs entry
own_now n rs entry is = record { earlier = []; later = rs; in_order = refl; node = n; leads = refl; own = is }

pub same_step : (x y : NodeValue × Reply) → (let r : Result (NodeValue × Reply) Fault = Ok x in r) ≡ Ok y → x ≡ y
same_step x y e = cc

module _ (n : NodeValue) (r : Item) (back : List Item) (x : NodeValue × Reply) (step : node_step n r.event ≡ Ok x) (shape : r ≡ record_of r.caller r.event n x) where
  pub own_later : (entry : EntryValue) → WasOwnFrom x.0 back entry → WasOwnFrom n (r ∷ back) entry
  own_later entry was = record {
    earlier = r ∷ was.earlier;
    later = was.later;
    in_order = ap (λ (rs : List Item). r ∷ rs) was.in_order;
    node = was.node;
    leads = (x, step, shape, was.leads);
    own = was.own;
  }

  pub own_after : (entry : EntryValue) → WasOwnFrom n (r ∷ back) entry → (own_entry n.table ≡ entry) ⊎ WasOwnFrom x.0 back entry
  own_after entry was = go was.earlier was.in_order was.leads
    where
      go : (earlier : List Item) → earlier ++ was.later ≡ r ∷ back → Replays n earlier was.node → (own_entry n.table ≡ entry) ⊎ WasOwnFrom x.0 back entry
      go [] order leads = inl (ap (λ (m : NodeValue). own_entry m.table) leads ∙ was.own)
      go (q ∷ qs) order leads =
          let same : q ≡ r = cc in
          let rest : qs ++ was.later ≡ back = cc in
          let its : node_step n r.event ≡ Ok leads.0 = subst (λ (i : Item). node_step n i.event ≡ Ok leads.0) same leads.1 in
          let led : leads.0 ≡ x = same_step leads.0 x (sym its ∙ step) in
          inr (record {
            earlier = qs;
            later = was.later;
            in_order = rest;
            node = was.node;
            leads = subst (λ (y : NodeValue × Reply). Replays y.0 qs was.node) led leads.3;
            own = was.own;
          })

-- with no records left, there is only the present own entry
pub own_at_end : (n : NodeValue) (entry : EntryValue) → WasOwnFrom n [] entry → own_entry n.table ≡ entry
own_at_end n entry was = go was.earlier was.in_order was.leads
  where
    go : (earlier : List Item) → earlier ++ was.later ≡ [] → Replays n earlier was.node → own_entry n.table ≡ entry
    go [] order leads = ap (λ (m : NodeValue). own_entry m.table) leads ∙ was.own
    go (q ∷ qs) order leads = absurd cc

-- ---- gaps of a life

pub no_gaps : (n : NodeValue) → GapsLiePast n []
no_gaps n [] r later m order = absurd cc
no_gaps n (q ∷ qs) r later m order = absurd cc

-- ---- stages

-- the last entry of an owner's history is its present own entry
pub own_here : (w : PlaceWorld) → IsWorld w → (e : ℕ) (t : Stage) → IsStage w e t → (entry : EntryValue) → last_entry (w.histories e) ≡ Some entry → OwnIn t entry
own_here w is e (Idle ahead) st entry last = absurd (let there : runs w e ≡ true = last_entry_runs w e entry last in let idle = st.idle in cc)
own_here w is e (Going k back ahead) st entry last =
    let held : last_entry (w.histories e) ≡ Some (own_entry k.node.table) = own_held w is e k.node st.placed in
    let same : Some (own_entry k.node.table) ≡ Some entry = sym held ∙ last in
    inl (own_now k.node back entry cc)

-- a stage stays the same if another node changes
pub stage_stays : (w v : PlaceWorld) → AllContinue w.histories v.histories → (e : ℕ) → runs v e ≡ runs w e → v.places e ≡ w.places e → v.taken e ≡ w.taken e → (t : Stage) → IsStage w e t → IsStage v e t
stage_stays w v on e runs_so places_so taken_so (Idle ahead) st = record { idle = runs_so ∙ st.idle; rise = st.rise; lives = st.lives }
stage_stays w v on e runs_so places_so taken_so (Going k back ahead) st =
    let stays : StaySpelled w.histories v.histories = spelling_stays w.histories v.histories on in
    record {
      placed = record {
        runs_here = runs_so ∙ st.placed.runs_here;
        own = st.placed.own;
        spells = subst (λ (row : ℕ → ℕ). SpellsPlaces v.histories k.node.table.entries row) (sym places_so) (stays.tables k.node.table.entries (w.places e) st.placed.spells);
      };
      replays = st.replays;
      took = st.took;
      marked = λ owner. marked_still w v e owner (k.marks owner) (on owner) (ap (λ (t : ℕ → List _). t owner) taken_so) (st.marked owner);
      rise = st.rise;
      lives = st.lives;
    }
