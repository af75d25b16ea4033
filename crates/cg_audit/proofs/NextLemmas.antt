-- A search, place by place, finds the item that goes next.
use Rattle.std.proofs.Common.{◌≡◌, ◌⊎◌, ℕ, zero, suc, ◌+◌, ◌≤◌, ◌<◌, Bool, true, false, cond, List, [], ◌∷◌, ◌++◌, length, map, drop, get_or, Option, Some, None, refl, sym, ap, ◌∙◌, subst, eq-eqb, inl, inr, arith, slice_get}
use Rattle.std.specs.Prelude.{◌==◌, ◌||◌, ◌&&◌, not, nat_le, nat_lt, slice_index, is_some}
use Rattle.std.specs.Option.{option_and_then, IfSome}
use Rattle.std.specs.List.{AllByRecursion, list_any}
use Rattle.std.proofs.Math.ListN.{set}
use Rattle.std.proofs.lemmas.Option.{slice_get-get_or, slice_get_past, slice_get_within}
use Rattle.std.proofs.lemmas.Bool.Decides.{leb_tells}
use Rattle.cg_types.specs.Rising.{is_among}
use Rattle.cg_messages.specs.declared.message.Message.{Message}
use Rattle.cg_history.specs.History.{HistoryValue}
use Rattle.cg_audit.specs.Items.{RunItem, LivesValue, items_of_life, items_of_lives}
use Rattle.cg_audit.specs.Turns as turns
use Rattle.cg_audit.proofs.ItemLemmas.{IsOf, all_both, named_at}
use Rattle.cg_audit.specs.declared.cursor.Cursor.{Cursor}
use Rattle.cg_audit.specs.Lives.{differ}
use Rattle.cg_audit.specs.Track.{Track}
use Rattle.cg_audit.specs.Tracks.{AreFirst, IsFirstAt, IsNext, are_distinct, better_place, endpoints_in, goes, is_before, is_ready, left_at, left_from, next_item, ready_item, track_at, tracks}
use Rattle.cg_audit.proofs.PlaceLemmas.{drop_at, drop_past, some_at}
use Rattle.cg_audit.proofs.TrackLemmas.{IsNamed, named_first}

-- ---- tracks of lives

pub length_tracks : (ls : List LivesValue) (cs : List Cursor) → length cs ≡ length ls → length (tracks ls cs) ≡ length ls
length_tracks [] cs same = refl
length_tracks (l ∷ ls) [] same = absurd (omega (arith, same))
length_tracks (l ∷ ls) (c ∷ cs) same = let fewer : length cs ≡ length ls = omega (arith, same) in ap suc (length_tracks ls cs fewer)

pub endpoints_of_tracks : (ls : List LivesValue) (cs : List Cursor) → length cs ≡ length ls → endpoints_in (tracks ls cs) ≡ turns.endpoints_of ls
endpoints_of_tracks [] cs same = refl
endpoints_of_tracks (l ∷ ls) [] same = absurd (omega (arith, same))
endpoints_of_tracks (l ∷ ls) (c ∷ cs) same = let fewer : length cs ≡ length ls = omega (arith, same) in ap (λ es. l.endpoint ∷ es) (endpoints_of_tracks ls cs fewer)

pub track_there : (ls : List LivesValue) (cs : List Cursor) (place : ℕ) (l : LivesValue) (c : Cursor) → slice_get ls place ≡ Some l → slice_get cs place ≡ Some c → slice_get (tracks ls cs) place ≡ Some (track_at l c)
track_there [] cs place l c at there = absurd cc
track_there (k ∷ ls) [] place l c at there = absurd cc
track_there (k ∷ ls) (d ∷ cs) zero l c at there = let same_l : k ≡ l = cc in let same_c : d ≡ c = cc in ap (λ m. Some (track_at m d)) same_l ∙ ap (λ e. Some (track_at l e)) same_c
track_there (k ∷ ls) (d ∷ cs) (suc place) l c at there = track_there ls cs place l c at there

pub set_track : (ls : List LivesValue) (cs : List Cursor) (place : ℕ) (l : LivesValue) (c : Cursor) → slice_get ls place ≡ Some l → place < length cs → tracks ls (set cs place c) ≡ set (tracks ls cs) place (track_at l c)
set_track [] cs place l c at few = absurd cc
set_track (k ∷ ls) [] place l c at few = absurd (omega (arith, few))
set_track (k ∷ ls) (d ∷ cs) zero l c at few = let same : k ≡ l = cc in ap (λ m. track_at m c ∷ tracks ls cs) same
set_track (k ∷ ls) (d ∷ cs) (suc place) l c at few = let fewer : place < length cs = omega (arith, few) in ap (λ ts. track_at k d ∷ ts) (set_track ls cs place l c at fewer)

among_endpoints : (ls : List LivesValue) (e : ℕ) → list_any (λ (k : LivesValue). k.endpoint == e) ls ≡ is_among (turns.endpoints_of ls) e
among_endpoints [] e = refl
among_endpoints (l ∷ ls) e = ap (λ b. (l.endpoint == e) || b) (among_endpoints ls e)

pub differ_distinct : (ls : List LivesValue) → differ ls ≡ are_distinct (turns.endpoints_of ls)
differ_distinct [] = refl
differ_distinct (l ∷ ls) = ap (λ b. not b && differ ls) (among_endpoints ls l.endpoint) ∙ ap (λ b. not (is_among (turns.endpoints_of ls) l.endpoint) && b) (differ_distinct ls)

all_front : {X : Type 0} (P : X → Type 0) (xs ys : List X) → AllByRecursion P (xs ++ ys) → AllByRecursion P xs
all_front P [] ys all = tt
all_front P (x ∷ xs) ys all = (all.0, all_front P xs ys all.1)

all_drop : {X : Type 0} (P : X → Type 0) (xs : List X) (k : ℕ) → AllByRecursion P xs → AllByRecursion P (drop k xs)
all_drop P xs zero all = all
all_drop P [] (suc k) all = tt
all_drop P (x ∷ xs) (suc k) all = all_drop P xs k all.1

named_lives : (e : ℕ) (hs : List HistoryValue) → AllByRecursion (IsOf e) (items_of_lives e hs)
named_lives e hs = subst (λ b. AllByRecursion (IsOf e) (cond b (items_of_lives e hs) [])) (eq-eqb e e refl) (named_at (record { endpoint = e; histories = hs } ∷ []) e)

named_from : (e : ℕ) (hs : List HistoryValue) (n : ℕ) → AllByRecursion (IsOf e) (left_from e hs n)
named_from e [] n = tt
named_from e (h ∷ hs) n =
    all_both (IsOf e) (drop n (items_of_life e h)) (items_of_lives e hs)
    (all_drop (IsOf e) (items_of_life e h) n (all_front (IsOf e) (items_of_life e h) (items_of_lives e hs) (named_lives e (h ∷ hs)))) (named_lives e hs)

pub named_tracks : (ls : List LivesValue) (cs : List Cursor) → AllByRecursion IsNamed (tracks ls cs)
named_tracks [] cs = tt
named_tracks (l ∷ ls) [] = tt
named_tracks (l ∷ ls) (c ∷ cs) = (named_from l.endpoint (drop c.life l.histories) c.number, named_tracks ls cs)

-- ---- items that can go

pub ready_none : (sent : List Message) (is : List RunItem) → [] ≡ turns.first is → is_some (ready_item sent is) ≡ false
ready_none sent [] e = refl
ready_none sent (i ∷ is) e = absurd cc

pub ready_some : (sent : List Message) (is : List RunItem) (i : RunItem) → i ∷ [] ≡ turns.first is → is_some (ready_item sent is) ≡ goes sent i.handled
ready_some sent [] i e = absurd cc
ready_some sent (j ∷ js) i e = let same : i ≡ j = cc in by (goes sent j.handled) ∙ ap (λ (k : RunItem). goes sent k.handled) (sym same)
  where
    by : (b : Bool) → is_some (cond b (Some j) None) ≡ b
    by true = refl
    by false = refl

ready_first : (sent : List Message) (is : List RunItem) (i : RunItem) → ready_item sent is ≡ Some i → turns.first is ≡ i ∷ []
ready_first sent [] i e = absurd cc
ready_first sent (j ∷ js) i e = by (goes sent j.handled) e
  where
    by : (b : Bool) → cond b (Some j) None ≡ Some i → j ∷ [] ≡ i ∷ []
    by true is = let same : j ≡ i = cc in ap (λ k. k ∷ []) same
    by false is = absurd cc

-- ---- the lesser of items

lesser_none : (x : Option RunItem) → turns.lesser x None ≡ x
lesser_none None = refl
lesser_none (Some x) = refl

lesser_both : (x y z : RunItem) → turns.lesser (turns.lesser (Some x) (Some y)) (Some z) ≡ turns.lesser (Some x) (turns.lesser (Some y) (Some z))
lesser_both x y z = by (leb_tells x.endpoint y.endpoint) (leb_tells y.endpoint z.endpoint) (leb_tells x.endpoint z.endpoint)
  where
    left : (b : Bool) → nat_le x.endpoint y.endpoint ≡ b → turns.lesser (turns.lesser (Some x) (Some y)) (Some z) ≡ turns.lesser (cond b (Some x) (Some y)) (Some z)
    left b is = ap (λ a. turns.lesser (cond a (Some x) (Some y)) (Some z)) is

    right : (b : Bool) → nat_le y.endpoint z.endpoint ≡ b → turns.lesser (Some x) (turns.lesser (Some y) (Some z)) ≡ turns.lesser (Some x) (cond b (Some y) (Some z))
    right b is = ap (λ a. turns.lesser (Some x) (cond a (Some y) (Some z))) is

    xy : (b : Bool) → nat_le x.endpoint y.endpoint ≡ b → turns.lesser (Some x) (Some y) ≡ cond b (Some x) (Some y)
    xy b is = ap (λ a. cond a (Some x) (Some y)) is

    yz : (b : Bool) → nat_le y.endpoint z.endpoint ≡ b → turns.lesser (Some y) (Some z) ≡ cond b (Some y) (Some z)
    yz b is = ap (λ a. cond a (Some y) (Some z)) is

    xz : (b : Bool) → nat_le x.endpoint z.endpoint ≡ b → turns.lesser (Some x) (Some z) ≡ cond b (Some x) (Some z)
    xz b is = ap (λ a. cond a (Some x) (Some z)) is

    by : ((nat_le x.endpoint y.endpoint ≡ true) × (x.endpoint ≤ y.endpoint)) ⊎ ((nat_le x.endpoint y.endpoint ≡ false) × (y.endpoint < x.endpoint))
        → ((nat_le y.endpoint z.endpoint ≡ true) × (y.endpoint ≤ z.endpoint)) ⊎ ((nat_le y.endpoint z.endpoint ≡ false) × (z.endpoint < y.endpoint))
        → ((nat_le x.endpoint z.endpoint ≡ true) × (x.endpoint ≤ z.endpoint)) ⊎ ((nat_le x.endpoint z.endpoint ≡ false) × (z.endpoint < x.endpoint))
        → turns.lesser (turns.lesser (Some x) (Some y)) (Some z) ≡ turns.lesser (Some x) (turns.lesser (Some y) (Some z))
    by (inl a) (inl b) (inl c) = left true a.0 ∙ xz true c.0 ∙ sym (right true b.0 ∙ xy true a.0)
    by (inl a) (inl b) (inr c) = absurd (omega (arith, a.1, b.1, c.1))
    by (inl a) (inr b) c = left true a.0 ∙ sym (right false b.0)
    by (inr a) (inl b) c = left false a.0 ∙ yz true b.0 ∙ sym (right true b.0 ∙ xy false a.0)
    by (inr a) (inr b) (inl c) = absurd (omega (arith, a.1, b.1, c.1))
    by (inr a) (inr b) (inr c) = left false a.0 ∙ yz false b.0 ∙ sym (right false b.0 ∙ xz false c.0)

lesser_assoc : (x y z : Option RunItem) → turns.lesser (turns.lesser x y) z ≡ turns.lesser x (turns.lesser y z)
lesser_assoc None y z = refl
lesser_assoc (Some x) None z = refl
lesser_assoc (Some x) (Some y) None = lesser_none (turns.lesser (Some x) (Some y))
lesser_assoc (Some x) (Some y) (Some z) = lesser_both x y z

-- ---- place by place

endpoint_there : (ts : List Track) (place : ℕ) (t : Track) → slice_get ts place ≡ Some t → slice_index (endpoints_in ts) place ≡ t.endpoint
endpoint_there [] place t at = absurd cc
endpoint_there (x ∷ ts) zero t at = let same : x ≡ t = cc in ap (λ (y : Track). y.endpoint) same
endpoint_there (x ∷ ts) (suc place) t at = endpoint_there ts place t at

-- The chosen place is that of the best item before this place.
pub record IsNextSoFar (sent : List Message) (ts : List Track) (place : ℕ) (chosen : Option ℕ) : Type 0 where
  pub best : Option RunItem
  pub so_far : next_item sent ts ≡ turns.lesser best (next_item sent (drop place ts))
  pub first : AreFirst ts chosen best

pub next_at_start : (sent : List Message) (ts : List Track) → IsNextSoFar sent ts 0 None
next_at_start sent ts = record { best = None; so_far = refl; first = tt }

pub next_at_end : (sent : List Message) (ts : List Track) (chosen : Option ℕ) (place : ℕ) → length ts ≤ place → IsNextSoFar sent ts place chosen → IsNext sent ts chosen
next_at_end sent ts chosen place all n = record {
  item = n.best;
  next = n.so_far ∙ ap (λ us. turns.lesser n.best (next_item sent us)) (drop_past ts place (slice_get_past ts place all)) ∙ lesser_none n.best;
  first = n.first;
}

pub chosen_within : (ts : List Track) (chosen : Option ℕ) (best : Option RunItem) → AreFirst ts chosen best → (place : ℕ) → chosen ≡ Some place → place < length ts
chosen_within ts None best first place is = absurd cc
chosen_within ts (Some c) None first place is = elim first [ ]
chosen_within ts (Some c) (Some i) first place is = let same : c ≡ place = cc in subst (λ p. p < length ts) same (slice_get_within ts c first.track first.at)

module _ (sent : List Message) (ts : List Track) (named : AllByRecursion IsNamed ts) (place : ℕ) (t : Track) (at : slice_get ts place ≡ Some t) where
  pub is_ready_at : is_ready sent ts place ≡ is_some (ready_item sent t.left)
  is_ready_at = ap (λ o. is_some (option_and_then (λ (u : Track). ready_item sent u.left) o)) at

  abbrev Better : Option ℕ → Option RunItem → Type 0
  Better chosen best = AreFirst ts (better_place sent (endpoints_in ts) ts place chosen) (turns.lesser best (ready_item sent t.left))

  not_ready : (chosen : Option ℕ) (best : Option RunItem) → AreFirst ts chosen best → ready_item sent t.left ≡ None → Better chosen best
  not_ready chosen best first none =
      let no : is_ready sent ts place ≡ false = is_ready_at ∙ ap is_some none in
      subst (λ o. AreFirst ts (better_place sent (endpoints_in ts) ts place chosen) (turns.lesser best o)) (sym none)
      (subst (AreFirst ts (better_place sent (endpoints_in ts) ts place chosen)) (sym (lesser_none best))
      (subst (λ b. AreFirst ts (cond (is_before (endpoints_in ts) place chosen && b) (Some place) chosen) best) (sym no)
      (by (is_before (endpoints_in ts) place chosen))))
    where
      by : (b : Bool) → AreFirst ts (cond (b && false) (Some place) chosen) best
      by true = first
      by false = first

  here : (i : RunItem) → ready_item sent t.left ≡ Some i → IsFirstAt ts place i
  here i is = record { track = t; at = at; first = ready_first sent t.left i is }

  ready : (i : RunItem) → ready_item sent t.left ≡ Some i → (chosen : Option ℕ) (best : Option RunItem) → AreFirst ts chosen best → AreFirst ts (better_place sent (endpoints_in ts) ts place chosen) (turns.lesser best (Some i))
  ready i is None None first =
      let can : is_ready sent ts place ≡ true = is_ready_at ∙ ap is_some is in
      subst (λ b. AreFirst ts (cond (true && b) (Some place) None) (Some i)) (sym can) (here i is)
  ready i is None (Some b) first = elim first [ ]
  ready i is (Some c) None first = elim first [ ]
  ready i is (Some c) (Some b) first =
      let can : is_ready sent ts place ≡ true = is_ready_at ∙ ap is_some is in
      let mine : i.endpoint ≡ slice_index (endpoints_in ts) place = named_first ts named place t i at (ready_first sent t.left i is) ∙ sym (endpoint_there ts place t at) in
      let others : b.endpoint ≡ slice_index (endpoints_in ts) c = named_first ts named c first.track b first.at first.first ∙ sym (endpoint_there ts c first.track first.at) in
      subst (λ r. AreFirst ts (cond (is_before (endpoints_in ts) place (Some c) && r) (Some place) (Some c)) (turns.lesser (Some b) (Some i))) (sym can)
      (subst (λ p. AreFirst ts (cond (nat_lt p (slice_index (endpoints_in ts) c) && true) (Some place) (Some c)) (turns.lesser (Some b) (Some i))) mine
      (subst (λ p. AreFirst ts (cond (nat_lt i.endpoint p && true) (Some place) (Some c)) (turns.lesser (Some b) (Some i))) others
      (by (leb_tells (suc i.endpoint) b.endpoint) (leb_tells b.endpoint i.endpoint))))
    where
      by : ((nat_le (suc i.endpoint) b.endpoint ≡ true) × (suc i.endpoint ≤ b.endpoint)) ⊎ ((nat_le (suc i.endpoint) b.endpoint ≡ false) × (b.endpoint < suc i.endpoint))
          → ((nat_le b.endpoint i.endpoint ≡ true) × (b.endpoint ≤ i.endpoint)) ⊎ ((nat_le b.endpoint i.endpoint ≡ false) × (i.endpoint < b.endpoint))
          → AreFirst ts (cond (nat_le (suc i.endpoint) b.endpoint && true) (Some place) (Some c)) (cond (nat_le b.endpoint i.endpoint) (Some b) (Some i))
      by (inl less) (inl more) = absurd (omega (arith, less.1, more.1))
      by (inl less) (inr more) = rw (less.0, more.0) (here i is)
      by (inr less) (inl more) = rw (less.0, more.0) first
      by (inr less) (inr more) = absurd (omega (arith, less.1, more.1))

  pub next_step : (chosen : Option ℕ) → IsNextSoFar sent ts place chosen → IsNextSoFar sent ts (place + 1) (better_place sent (endpoints_in ts) ts place chosen)
  next_step chosen n =
      let one : suc place ≡ place + 1 = omega arith in
      record {
        best = turns.lesser n.best (ready_item sent t.left);
        so_far = n.so_far ∙ ap (λ us. turns.lesser n.best (next_item sent us)) (drop_at ts place t at)
            ∙ sym (lesser_assoc n.best (ready_item sent t.left) (next_item sent (drop (suc place) ts)))
            ∙ ap (λ k. turns.lesser (turns.lesser n.best (ready_item sent t.left)) (next_item sent (drop k ts))) one;
        first = by (ready_item sent t.left) refl;
      }
    where
      by : (o : Option RunItem) → ready_item sent t.left ≡ o → AreFirst ts (better_place sent (endpoints_in ts) ts place chosen) (turns.lesser n.best (ready_item sent t.left))
      by None is = not_ready chosen n.best n.first is
      by (Some i) is = subst (λ o. AreFirst ts (better_place sent (endpoints_in ts) ts place chosen) (turns.lesser n.best o)) (sym is) (ready i is chosen n.best n.first)

-- ---- over lives

module _ (ls : List LivesValue) (cs : List Cursor) (same : length cs ≡ length ls) (sent : List Message) (place : ℕ) (chosen : Option ℕ) (n : IsNextSoFar sent (tracks ls cs) place chosen) where
  pub next_over_lives : (better : Option ℕ) → place < length ls → better ≡ better_place sent (turns.endpoints_of ls) (tracks ls cs) place chosen → IsNextSoFar sent (tracks ls cs) (place + 1) better
  next_over_lives better few is =
      let long = length_tracks ls cs same in
      let within : place < length (tracks ls cs) = omega (arith, long, few) in
      let t = some_at (tracks ls cs) place within in
      let step = next_step sent (tracks ls cs) (named_tracks ls cs) place t.0 t.1 chosen n in
      subst (IsNextSoFar sent (tracks ls cs) (place + 1)) (sym (is ∙ ap (λ es. better_place sent es (tracks ls cs) place chosen) (sym (endpoints_of_tracks ls cs same)))) step

  pub within_lives : IfSome chosen (λ c. c < length ls)
  within_lives = by chosen refl
    where
      by : (o : Option ℕ) → chosen ≡ o → IfSome o (λ c. c < length ls)
      by None is = tt
      by (Some c) is =
          let long = length_tracks ls cs same in
          let less = chosen_within (tracks ls cs) chosen n.best n.first c is in
          omega (arith, long, less)

  pub next_over_all : length ls ≤ place → IsNext sent (tracks ls cs) chosen
  next_over_all all = let long = length_tracks ls cs same in next_at_end sent (tracks ls cs) chosen place (omega (arith, long, all)) n
