-- Shown tables and publishers keep the rules of the views.
use Rattle.std.proofs.Common.{◌≡◌, ◌≢◌, ℕ, ⊎_elim, true, List, [], ◌∷◌, ◌++◌, length, drop, fold, refl, ap, sym, ◌∙◌, subst, append_assoc}
use Rattle.std.proofs.lemmas.List.{append-nil}
use mathlib.Core.Option.{some}
use mathlib.Core.List.{IsPrefix}
use lib.ListN.{get_elem?}
use Rattle.atomic_table.proofs.Lists.{at_set, at_snoc}
use Rattle.crossbeam_utils.specs.Register.{Admits, TurnsAt}
use Rattle.logbook.specs.Pages.{Book}
use Rattle.cg_table.specs.Values.{TableValue}
use Rattle.cg_table.specs.Puts.{Put, with_puts, keep_order}
use Rattle.cg_table.proofs.PutsLemmas.{with_puts-append, keep_order-append}
use Rattle.cg_views.specs.Lists.{joined, FrontValue, are_all, appended, all_published}
use Rattle.cg_views.specs.Shows.{ShownValue, latest, IsSound, publisher_of, IsPublisher}
use Rattle.cg_views.specs.Rules.{Keeps, FindsShown}
use Rattle.cg_views.proofs.Beginnings.{joined-append}

-- ---- prefixes

abbrev Ops : Type 0
Ops = List (List Put)

pub begins_itself : (xs : Ops) → IsPrefix xs xs
begins_itself xs = ([], append-nil xs)

pub begins_on : (xs ys zs : Ops) → IsPrefix xs ys → IsPrefix ys zs → IsPrefix xs zs
begins_on xs ys zs p q = (p.0 ++ q.0, sym (append_assoc xs p.0 q.0) ∙ ap (λ l. l ++ q.0) p.1 ∙ q.1)

pub begins_more : (xs ys zs : Ops) → IsPrefix xs ys → IsPrefix xs (ys ++ zs)
begins_more xs ys zs p = begins_on xs ys (ys ++ zs) p (zs, refl)

drop_front : (xs ys : Ops) → drop (length xs) (xs ++ ys) ≡ ys
drop_front [] ys = refl
drop_front (x ∷ xs) ys = drop_front xs ys

-- the rest of a list after a prefix
pub behind : (xs ys : Ops) → (p : IsPrefix xs ys) → drop (length xs) ys ≡ p.0
behind xs ys p = ap (drop (length xs)) (sym p.1) ∙ drop_front xs p.0

behind_more : (xs ys zs : Ops) → IsPrefix xs ys → drop (length xs) (ys ++ zs) ≡ drop (length xs) ys ++ zs
unfolding begins_more begins_on
behind_more xs ys zs p = behind xs (ys ++ zs) (begins_more xs ys zs p) ∙ ap (λ l. l ++ zs) (sym (behind xs ys p))

-- all puts are those of a prefix and those after it
pub all_joined : (xs ys : Ops) → IsPrefix xs ys → joined xs ++ joined (drop (length xs) ys) ≡ joined ys
all_joined xs ys p = ap (λ l. joined xs ++ joined l) (behind xs ys p) ∙ sym (joined-append xs p.0) ∙ ap joined p.1

-- ---- the rule

-- a step to a list that goes on from the shown one
pub turns : (book : Book) (opening : TableValue) (pass : ℕ) (seen : Ops) (x y : ShownValue) → IsPrefix x.front.all y.front.all → IsSound book opening y → TurnsAt (Keeps book opening) pass seen x y (FindsShown book opening)
turns book opening pass seen x y more sound views h at =
    let now = y.front.all in (
      now,
      record {
        sound = sound;
        fronts = λ j v e. ⊎_elim (λ (t : (j ≡ pass) × (now ≡ v)). subst (λ (l : Ops). IsPrefix l now) t.1 (begins_itself now))
            (λ (t : (j ≢ pass) × (get_elem? views j ≡ some v)). begins_on v x.front.all now (h.fronts j v t.1) more)
            (at_set views pass j now v e);
      },
      record { sound = sound; begins = begins_on seen x.front.all now (h.fronts pass seen at) more; now_is = refl },
    )

-- a read
pub reads : (book : Book) (opening : TableValue) (pass : ℕ) (seen : Ops) (x : ShownValue) → TurnsAt (Keeps book opening) pass seen x x (FindsShown book opening)
reads book opening pass seen x views h at = turns book opening pass seen x x (begins_itself x.front.all) h.sound views h at

-- a new pass has seen nothing
pub admits : (book : Book) (opening : TableValue) → Admits (Keeps book opening) []
admits book opening x views h = record {
  sound = h.sound;
  fronts = λ j v e. ⊎_elim (h.fronts j v) (λ (t : [] ≡ v). subst (λ (l : Ops). IsPrefix l x.front.all) t (x.front.all, refl)) (at_snoc views [] v j e);
}

-- ---- the publisher

pub last_in : (s : ShownValue) (os : List ShownValue) (o : ShownValue) → fold latest s (os ++ o ∷ []) ≡ o
last_in s [] o = refl
last_in s (x ∷ os) o = last_in x os o

-- All operations lead to the table of the last one.
pub shows_last : (shown : ShownValue) (before all : List ShownValue) (o last : ShownValue) → all ≡ before ++ o ∷ [] → o ≡ last → fold latest shown all ≡ last
shows_last shown before all o last more same = ap (fold latest shown) more ∙ last_in shown before o ∙ same

-- the puts of a prefix with one operation more
pub more_puts : (front : FrontValue) (ps : List Put) → joined (front.all ++ ps ∷ []) ≡ joined front.all ++ ps
more_puts front ps = joined-append front.all (ps ∷ []) ∙ ap (λ l. joined front.all ++ l) (append-nil ps)

-- the prefix with one operation more
abbrev pub with_operation : List Put → FrontValue → FrontValue
with_operation ps front = record { of = front.of; all = front.all ++ ps ∷ [] }

-- the newest table is the one to which all appended puts lead
pub stands : (book : Book) (opening : TableValue) (shown last : ShownValue) (head : Book) → IsPublisher book opening shown last head
    → last.table ≡ with_puts opening (are_all (publisher_of opening shown.front last.front))
stands book opening shown last head i = i.last_sound.table_is ∙ ap (with_puts opening) (sym (all_joined shown.front.all last.front.all i.begins))

-- an operation more is pending
pub appends : (book : Book) (opening : TableValue) (shown last next : ShownValue) (head : Book) (ps : List Put) → IsPublisher book opening shown last head
    → next.table ≡ with_puts last.table ps → next.front ≡ with_operation ps last.front
    → keep_order last.table ps ≡ true → IsPublisher book opening shown next head
appends book opening shown last next head ps i table_is front_is order =
    let all : joined next.front.all ≡ joined last.front.all ++ ps = ap (λ (f : FrontValue). joined f.all) front_is ∙ more_puts last.front ps in
    let rest : keep_order (with_puts opening (joined last.front.all)) ps ≡ true = ap (λ (t : TableValue). keep_order t ps) (sym i.last_sound.table_is) ∙ order in record {
      shown_sound = i.shown_sound;
      last_sound = record {
        of_book = ap (λ (f : FrontValue). f.of) front_is ∙ i.last_sound.of_book;
        table_is = table_is ∙ ap (λ t. with_puts t ps) i.last_sound.table_is ∙ sym (with_puts-append opening (joined last.front.all) ps) ∙ ap (with_puts opening) (sym all);
        order = ap (keep_order opening) all ∙ keep_order-append opening (joined last.front.all) ps i.last_sound.order rest;
      };
      begins = subst (λ (f : FrontValue). IsPrefix shown.front.all f.all) (sym front_is) (begins_more shown.front.all last.front.all (ps ∷ []) i.begins);
      head_is = i.head_is;
    }

-- the publisher shows that operation as pending
pub shows_appended : (opening : TableValue) (shown last : FrontValue) (ps : List Put) → IsPrefix shown.all last.all → publisher_of opening shown (with_operation ps last) ≡ appended ps (publisher_of opening shown last)
shows_appended opening shown last ps p =
    let pending : joined (drop (length shown.all) (last.all ++ ps ∷ [])) ≡ joined (drop (length shown.all) last.all) ++ ps =
    ap joined (behind_more shown.all last.all (ps ∷ []) p) ∙ joined-append (drop (length shown.all) last.all) (ps ∷ []) ∙ ap (λ l. joined (drop (length shown.all) last.all) ++ l) (append-nil ps) in
    ap (λ l. record { opening = opening; published = joined shown.all; pending = l }) pending

-- the pending operations are shown
pub publishes : (book : Book) (opening : TableValue) (shown shown' last : ShownValue) (head : Book) → IsPublisher book opening shown last head
    → shown' ≡ last → IsPublisher book opening shown' last head
publishes book opening shown shown' last head i same = record {
  shown_sound = subst (IsSound book opening) (sym same) i.last_sound;
  last_sound = i.last_sound;
  begins = subst (λ (s : ShownValue). IsPrefix s.front.all last.front.all) (sym same) (begins_itself last.front.all);
  head_is = i.head_is;
}

-- all operations are published then
pub shows_published : (opening : TableValue) (shown shown' last : FrontValue) → IsPrefix shown.all last.all → shown' ≡ last → publisher_of opening shown' last ≡ all_published (publisher_of opening shown last)
unfolding begins_itself
shows_published opening shown shown' last p same =
    let none : drop (length last.all) last.all ≡ [] = behind last.all last.all (begins_itself last.all) in
    ap (λ (f : FrontValue). publisher_of opening f last) same ∙ (λ i. record { opening = opening; published = sym (all_joined shown.all last.all p) i; pending = joined (none i) })
