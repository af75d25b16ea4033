-- The records of lines that were read.
use Rattle.std.proofs.Common.{◌≡◌, ℕ, suc, Bool, true, false, cond, List, [], ◌∷◌, ◌++◌, length, map, Option, Some, None, option_map, Ok, Err, refl, sym, ap, ◌∙◌, subst, append_assoc, append-nil}
use Rattle.std.specs.Prelude.{◌==◌, bytes_eq, codes}
use Rattle.std.specs.List.{AllByRecursion}
use Rattle.cg_types.specs.declared.fault.Fault.TheVariants.{VersionsSpent}
use Rattle.cg_types.specs.OptionSteps.{◌>>=◌}
use Rattle.cg_types.specs.Words.{cut_at}
use Rattle.cg_core.specs.declared.event.Event.{Event}
use Rattle.cg_core.specs.SettingsValues.{SettingsValue}
use Rattle.cg_core.specs.Step.{Step, node_step}
use Rattle.cg_history.specs.declared.item.Item.{Item}
use Rattle.cg_history.specs.Items.{events_of}
use Rattle.cg_history.specs.History.{record_of, HistoryValue, LAST_NUMBER, count_of, with_record, with_step, new_history}
use Rattle.cg_text.specs.Gives.{readable}
use Rattle.cg_text.specs.Words.{endpoint_before}
use Rattle.cg_links.specs.Lines.{lines_of}
use Rattle.cg_journal.specs.Reading.{generation_before, settings_in, life_in, life_behind, life_of_parts, event_in, history_after, after_line, on_line, after_lines, journal_in}
use Rattle.cg_journal.specs.Laws.{IsOfItsLines}

-- a record is of an event, for caller 0, and comes after those before
pub record IsNext (h k : HistoryValue) (o : Option Event) : Type 0 where
  pub item : Item
  pub event : o ≡ Some item.event
  pub caller : item.caller ≡ 0
  pub start : k.start ≡ h.start
  pub base : k.base ≡ h.base
  pub folded : k.folded ≡ h.folded
  pub records : k.records ≡ h.records ++ item ∷ []

stepped : (h k : HistoryValue) (e : Event) (spent : Bool) (s : Step)
    → option_map (λ x. x.0) (readable (cond spent (Err VersionsSpent) (with_step h 0 e s))) ≡ Some k → IsNext h k (Some e)
stepped h k e true s is = absurd cc
stepped h k e false (Err f) is = absurd cc
stepped h k e false (Ok x) is =
    let same : with_record h x.0 (record_of 0 e h.node x) ≡ k = cc in record {
      item = record_of 0 e h.node x;
      event = refl;
      caller = refl;
      start = ap (λ (g : HistoryValue). g.start) (sym same);
      base = ap (λ (g : HistoryValue). g.base) (sym same);
      folded = ap (λ (g : HistoryValue). g.folded) (sym same);
      records = ap (λ (g : HistoryValue). g.records) (sym same);
    }

next : (h k : HistoryValue) (o : Option Event) → history_after h o ≡ Some k → IsNext h k o
next h k None is = absurd cc
next h k (Some e) is = stepped h k e (count_of h == LAST_NUMBER) (node_step h.node e) is

-- records of the events of some lines, after those of a history
pub record AreOf (h k : HistoryValue) (lines : List (List ℕ)) : Type 0 where
  pub items : List Item
  pub events : map event_in lines ≡ map Some (events_of items)
  pub callers : AllByRecursion (λ r. r.caller ≡ 0) items
  pub start : k.start ≡ h.start
  pub base : k.base ≡ h.base
  pub folded : k.folded ≡ h.folded
  pub records : k.records ≡ h.records ++ items

one_more : (h g k : HistoryValue) (line : List ℕ) (lines : List (List ℕ)) → IsNext h g (event_in line) → AreOf g k lines → AreOf h k (line ∷ lines)
one_more h g k line lines one more = record {
  items = one.item ∷ more.items;
  events = ap (λ (o : Option Event). o ∷ map event_in lines) one.event ∙ ap (λ (os : List (Option Event)). Some one.item.event ∷ os) more.events;
  callers = (one.caller, more.callers);
  start = more.start ∙ one.start;
  base = more.base ∙ one.base;
  folded = more.folded ∙ one.folded;
  records = more.records ∙ ap (λ (rs : List Item). rs ++ more.items) one.records ∙ append_assoc h.records (one.item ∷ []) more.items;
}

behind : (n : ℕ) (h k : HistoryValue) (line : List ℕ) (lines : List (List ℕ)) (o : Option HistoryValue) → history_after h (event_in line) ≡ o
    → ((g : HistoryValue) → after_lines (suc n) (Some g) lines ≡ Ok k → AreOf g k lines)
    → on_line n o (λ g. after_lines (suc n) (Some g) lines) ≡ Ok k → AreOf h k (line ∷ lines)
behind n h k line lines None is go e = absurd cc
behind n h k line lines (Some g) is go e = one_more h g k line lines (next h g (event_in line) is) (go g e)

pub of_lines : (n : ℕ) (h k : HistoryValue) (lines : List (List ℕ)) → after_lines n (Some h) lines ≡ Ok k → AreOf h k lines
of_lines n h k [] e =
    let same : h ≡ k = cc in
    record {
      items = [];
      events = refl;
      callers = tt;
      start = ap (λ (g : HistoryValue). g.start) (sym same);
      base = ap (λ (g : HistoryValue). g.base) (sym same);
      folded = ap (λ (g : HistoryValue). g.folded) (sym same);
      records = ap (λ (g : HistoryValue). g.records) (sym same) ∙ sym (append-nil h.records);
    }
of_lines n h k (line ∷ lines) e = behind n h k line lines (after_line (Some h) line) refl (λ g. of_lines (suc n) g k lines) e

-- ---- a history that begins has no records, and none is folded

abbrev IsNew : HistoryValue → Type 0
IsNew h = (h.records ≡ []) × (h.folded ≡ 0)

made_of : {A B : Type 0} (o : Option A) (f : A → Option B) (b : B) → (o >>= f) ≡ Some b → (a : A) × (f a ≡ Some b)
made_of None f b e = absurd cc
made_of (Some a) f b e = (a, e)

begun : (own generation : ℕ) (o : Option SettingsValue) (h : HistoryValue) → (o >>= (λ settings. Some (new_history own generation settings))) ≡ Some h → IsNew h
begun own generation None h e = absurd cc
begun own generation (Some settings) h e =
    let same : new_history own generation settings ≡ h = cc in
    (ap (λ (g : HistoryValue). g.records) (sym same), ap (λ (g : HistoryValue). g.folded) (sym same))

none_behind : (words : List ℕ) (h : HistoryValue) → life_behind words ≡ Some h → IsNew h
unfolding life_behind
none_behind words h e =
    let (own, after_own) = made_of (endpoint_before words) (λ own. generation_before own.1 >>= (λ generation. settings_in generation.1 >>= (λ settings. Some (new_history own.0 generation.0 settings)))) h e in
    let (generation, rest) = made_of (generation_before own.1) (λ generation. settings_in generation.1 >>= (λ settings. Some (new_history own.0 generation.0 settings))) h after_own in
    begun own.0 generation.0 (settings_in generation.1) h rest

none_of : (parts : Option (List ℕ × List ℕ)) (h : HistoryValue) → life_of_parts parts ≡ Some h → IsNew h
none_of None h e = absurd cc
none_of (Some p) h e =
    (elim (bytes_eq p.0 (codes "life")) as (λ (b : Bool). cond b (life_behind p.1) None ≡ Some h → IsNew h) [
      | true ↦ λ is. none_behind p.1 h is
      | false ↦ λ is. absurd cc
    ]) e

none_yet : (line : List ℕ) (h : HistoryValue) → life_in line ≡ Some h → IsNew h
unfolding life_in
none_yet line h e = none_of (cut_at 32 line) h e

first_line : (h : HistoryValue) (line : List ℕ) (lines : List (List ℕ)) (o : Option HistoryValue) → life_in line ≡ o
    → on_line 1 o (λ g. after_lines 2 (Some g) lines) ≡ Ok h → IsOfItsLines (line ∷ lines) h
first_line h line lines None is e = absurd cc
first_line h line lines (Some g) is e =
    let of = of_lines 2 g h lines e in
    let new = none_yet line g is in
    let all : h.records ≡ of.items = of.records ∙ ap (λ (rs : List Item). rs ++ of.items) new.0 in
    record {
      first = line;
      others = lines;
      are = refl;
      start = g;
      begins = is;
      begun = of.start;
      base = of.base;
      whole = of.folded ∙ new.1;
      events = of.events ∙ ap (λ (rs : List Item). map Some (events_of rs)) (sym all);
      callers = subst (λ (rs : List Item). AllByRecursion (λ r. r.caller ≡ 0) rs) (sym all) of.callers;
    }

of_all : (lines : List (List ℕ)) (h : HistoryValue) → after_lines 1 None lines ≡ Ok h → IsOfItsLines lines h
of_all [] h e = absurd cc
of_all (line ∷ lines) h e = first_line h line lines (life_in line) refl e

pub of_its_lines : (text : List ℕ) (h : HistoryValue) → journal_in text ≡ Ok h → IsOfItsLines (lines_of text) h
unfolding journal_in
of_its_lines text h e = of_all (lines_of text) h e
