-- Lives with one more: its place, and the endpoints, which rise.
use Rattle.std.proofs.Common.{◌≡◌, ℕ, suc, ◌+◌, ◌<◌, Bool, true, false, cond, List, [], ◌∷◌, length, map, Option, Some, None, Result, Ok, Err, OnOk, OnErr, refl, sym, ap, ◌∙◌, subst, arith, slice_get, eqb-true}
use Rattle.std.specs.Prelude.{nat_lt, ◌==◌, ◌&&◌, ◌||◌, not}
use Rattle.std.specs.List.{prefix_len, list_any, insert}
use Rattle.std.proofs.Math.ListN.{set}
use Rattle.std.proofs.lemmas.Bool.Decides.{nat_tests}
use Rattle.cg_types.specs.Rising.{rise_past, is_past}
use Rattle.cg_types.proofs.RisingLemmas.{both, first_of, second_of, rise_earlier}
use Rattle.cg_history.specs.History.{HistoryValue}
use Rattle.cg_audit.specs.Items.{LivesValue}
use Rattle.cg_audit.specs.Lives.{differ, lone_life, then_life}
use Rattle.std.proofs.lemmas.Option.{slice_get_within}
use Rattle.cg_tool.specs.Gathered.{EndpointsRise, with_life, is_of, IsPushed}

abbrev own : HistoryValue → ℕ
own h = h.base.table.own

-- the number of the first lives before an endpoint
abbrev pub count_before : List LivesValue → ℕ → ℕ
count_before ls e = prefix_len (λ (l : LivesValue). nat_lt l.endpoint e) ls

counted : (x : LivesValue) (xs : List LivesValue) (e : ℕ) → nat_lt x.endpoint e ≡ true → count_before (x ∷ xs) e ≡ suc (count_before xs e)
counted x xs e is = let next : 1 + count_before xs e ≡ suc (count_before xs e) = omega arith in ap (λ b. cond b (1 + count_before xs e) 0) is ∙ next

not_counted : (x : LivesValue) (xs : List LivesValue) (e : ℕ) → nat_lt x.endpoint e ≡ false → count_before (x ∷ xs) e ≡ 0
not_counted x xs e is = ap (λ b. cond b (1 + count_before xs e) 0) is

abbrev ends : List LivesValue → List ℕ
ends ls = map (λ (l : LivesValue). l.endpoint) ls

-- ---- the place of one more

module _ (h : HistoryValue) where
  -- the endpoint has lives
  pub with_there : (ls : List LivesValue) (l : LivesValue) → slice_get ls (count_before ls (own h)) ≡ Some l → (l.endpoint == own h) ≡ true
      → set ls (count_before ls (own h)) (then_life l h) ≡ with_life ls h
  with_there [] l at of = absurd cc
  with_there (x ∷ xs) l at of = by (λ there. with_there xs l there of) (nat_lt x.endpoint (own h)) refl
    where
      by : (slice_get xs (count_before xs (own h)) ≡ Some l → set xs (count_before xs (own h)) (then_life l h) ≡ with_life xs h) → (b : Bool) → nat_lt x.endpoint (own h) ≡ b → set (x ∷ xs) (count_before (x ∷ xs) (own h)) (then_life l h) ≡ with_life (x ∷ xs) h
      by more true is =
          let place = counted x xs (own h) is in
          let there : slice_get xs (count_before xs (own h)) ≡ Some l = sym (ap (slice_get (x ∷ xs)) place) ∙ at in
          ap (λ n. set (x ∷ xs) n (then_life l h)) place ∙ ap (λ ys. x ∷ ys) (more there)
          ∙ sym (ap (λ b. cond b (x ∷ with_life xs h) (cond (x.endpoint == own h) (then_life x h ∷ xs) (lone_life h ∷ x ∷ xs))) is)
      by more false is =
          let place = not_counted x xs (own h) is in
          let here : Some x ≡ Some l = sym (ap (slice_get (x ∷ xs)) place) ∙ at in
          let same : x ≡ l = cc in
          let own_here : (x.endpoint == own h) ≡ true = ap (λ (k : LivesValue). k.endpoint == own h) same ∙ of in
          ap (λ n. set (x ∷ xs) n (then_life l h)) place ∙ ap (λ (k : LivesValue). then_life k h ∷ xs) (sym same)
          ∙ sym (ap (λ b. cond b (x ∷ with_life xs h) (cond (x.endpoint == own h) (then_life x h ∷ xs) (lone_life h ∷ x ∷ xs))) is
          ∙ ap (λ b. cond b (then_life x h ∷ xs) (lone_life h ∷ x ∷ xs)) own_here)

  -- it has none
  pub with_gap : (ls : List LivesValue) → is_of (own h) (slice_get ls (count_before ls (own h))) ≡ false → insert ls (count_before ls (own h)) (lone_life h) ≡ with_life ls h
  with_gap [] gap = refl
  with_gap (x ∷ xs) gap = by (λ none. with_gap xs none) (nat_lt x.endpoint (own h)) refl
    where
      by : (is_of (own h) (slice_get xs (count_before xs (own h))) ≡ false → insert xs (count_before xs (own h)) (lone_life h) ≡ with_life xs h) → (b : Bool) → nat_lt x.endpoint (own h) ≡ b → insert (x ∷ xs) (count_before (x ∷ xs) (own h)) (lone_life h) ≡ with_life (x ∷ xs) h
      by more true is =
          let place = counted x xs (own h) is in
          let none : is_of (own h) (slice_get xs (count_before xs (own h))) ≡ false = sym (ap (λ n. is_of (own h) (slice_get (x ∷ xs) n)) place) ∙ gap in
          ap (λ n. insert (x ∷ xs) n (lone_life h)) place ∙ ap (λ ys. x ∷ ys) (more none)
          ∙ sym (ap (λ b. cond b (x ∷ with_life xs h) (cond (x.endpoint == own h) (then_life x h ∷ xs) (lone_life h ∷ x ∷ xs))) is)
      by more false is =
          let place = not_counted x xs (own h) is in
          let other : (x.endpoint == own h) ≡ false = sym (ap (λ n. is_of (own h) (slice_get (x ∷ xs) n)) place) ∙ gap in
          ap (λ n. insert (x ∷ xs) n (lone_life h)) place
          ∙ sym (ap (λ b. cond b (x ∷ with_life xs h) (cond (x.endpoint == own h) (then_life x h ∷ xs) (lone_life h ∷ x ∷ xs))) is
          ∙ ap (λ b. cond b (then_life x h ∷ xs) (lone_life h ∷ x ∷ xs)) other)

  -- ---- endpoints that rise

  rise_after : (last : Option ℕ) (ls : List LivesValue) → rise_past last (ends ls) ≡ true → is_past last (own h) ≡ true
      → rise_past last (ends (with_life ls h)) ≡ true
  rise_after last [] rise past = both (is_past last (own h)) true past refl
  rise_after last (x ∷ xs) rise past = by (λ later less. rise_after (Some x.endpoint) xs later less) (nat_lt x.endpoint (own h)) refl
    where
      first : is_past last x.endpoint ≡ true
      first = first_of (is_past last x.endpoint) (rise_past (Some x.endpoint) (ends xs)) rise

      later : rise_past (Some x.endpoint) (ends xs) ≡ true
      later = second_of (is_past last x.endpoint) (rise_past (Some x.endpoint) (ends xs)) rise

      at_here : (c : Bool) → (x.endpoint == own h) ≡ c → nat_lt x.endpoint (own h) ≡ false → rise_past last (ends (cond c (then_life x h ∷ xs) (lone_life h ∷ x ∷ xs))) ≡ true
      at_here true same not_less = rise
      at_here false other not_less =
          let less : nat_lt (own h) x.endpoint ≡ true = grind (arith, nat_tests, other, not_less) in
          both (is_past last (own h)) (nat_lt (own h) x.endpoint && rise_past (Some x.endpoint) (ends xs)) past (both (nat_lt (own h) x.endpoint) (rise_past (Some x.endpoint) (ends xs)) less later)

      by : (rise_past (Some x.endpoint) (ends xs) ≡ true → nat_lt x.endpoint (own h) ≡ true → rise_past (Some x.endpoint) (ends (with_life xs h)) ≡ true) → (b : Bool) → nat_lt x.endpoint (own h) ≡ b → rise_past last (ends (with_life (x ∷ xs) h)) ≡ true
      by more true is =
          ap (λ b. rise_past last (ends (cond b (x ∷ with_life xs h) (cond (x.endpoint == own h) (then_life x h ∷ xs) (lone_life h ∷ x ∷ xs))))) is
          ∙ both (is_past last x.endpoint) (rise_past (Some x.endpoint) (ends (with_life xs h))) first (more later is)
      by more false is =
          ap (λ b. rise_past last (ends (cond b (x ∷ with_life xs h) (cond (x.endpoint == own h) (then_life x h ∷ xs) (lone_life h ∷ x ∷ xs))))) is ∙ at_here (x.endpoint == own h) refl is

  pub still_rise : (ls : List LivesValue) → EndpointsRise ls → EndpointsRise (with_life ls h)
  still_rise ls rise = rise_after None ls rise refl

-- none of those that rise past an endpoint is of it
none_of : (e : ℕ) (ls : List LivesValue) → rise_past (Some e) (ends ls) ≡ true → list_any (λ (l : LivesValue). l.endpoint == e) ls ≡ false
none_of e [] rise = refl
none_of e (x ∷ xs) rise =
    let rest = ends xs in
    let past : nat_lt e x.endpoint ≡ true = first_of (nat_lt e x.endpoint) (rise_past (Some x.endpoint) rest) rise in
    let later : rise_past (Some x.endpoint) rest ≡ true = second_of (nat_lt e x.endpoint) (rise_past (Some x.endpoint) rest) rise in
    let other : (x.endpoint == e) ≡ false = grind (arith, nat_tests, past) in
    ap (λ b. b || list_any (λ (l : LivesValue). l.endpoint == e) xs) other ∙ none_of e xs (rise_earlier (Some e) x.endpoint rest past later)

differ_past : (last : Option ℕ) (ls : List LivesValue) → rise_past last (ends ls) ≡ true → differ ls ≡ true
differ_past last [] rise = refl
differ_past last (x ∷ xs) rise =
    let later : rise_past (Some x.endpoint) (ends xs) ≡ true = second_of (is_past last x.endpoint) (rise_past (Some x.endpoint) (ends xs)) rise in
    both (not (list_any (λ (l : LivesValue). l.endpoint == x.endpoint) xs)) (differ xs) (ap not (none_of x.endpoint xs later)) (differ_past (Some x.endpoint) xs later)

-- so no two are of one endpoint
pub rising_differ : (ls : List LivesValue) → EndpointsRise ls → differ ls ≡ true
rising_differ ls rise = differ_past None ls rise

-- lives of an endpoint at a place
pub record IsHere (ls : List LivesValue) (place e : ℕ) : Type 0 where
  pub lives : LivesValue
  pub at : slice_get ls place ≡ Some lives
  pub of : lives.endpoint ≡ e
  pub within : place < length ls

pub are_here : (ls : List LivesValue) (place e : ℕ) → is_of e (slice_get ls place) ≡ true → IsHere ls place e
are_here ls place e is = go (slice_get ls place) refl is
  where
    go : (o : Option LivesValue) → slice_get ls place ≡ o → is_of e o ≡ true → IsHere ls place e
    go None at is = absurd cc
    go (Some l) at is = record { lives = l; at = at; of = eqb-true l.endpoint e is; within = slice_get_within ls place l at }

-- the lives with a history behind those of its endpoint
pub pushed_there : (ls : List LivesValue) (h : HistoryValue) (place : ℕ) (new : List LivesValue) → place ≡ count_before ls (own h) → is_of (own h) (slice_get ls place) ≡ true → IsPushed ls place h new → new ≡ with_life ls h
pushed_there ls h place new is of pushed =
    let at : slice_get ls (count_before ls (own h)) ≡ Some pushed.lives = sym (ap (slice_get ls) is) ∙ pushed.at in
    let mine : (pushed.lives.endpoint == own h) ≡ true = sym (ap (is_of (own h)) pushed.at) ∙ of in
    pushed.set ∙ ap (λ n. set ls n (then_life pushed.lives h)) is ∙ with_there h ls pushed.lives at mine

pub inserted_there : (ls : List LivesValue) (h : HistoryValue) (place : ℕ) → place ≡ count_before ls (own h) → is_of (own h) (slice_get ls place) ≡ false → insert ls place (lone_life h) ≡ with_life ls h
inserted_there ls h place is none =
    ap (λ n. insert ls n (lone_life h)) is ∙ with_gap h ls (sym (ap (λ n. is_of (own h) (slice_get ls n)) is) ∙ none)

-- after an attempt to add one
pub rise_either : {T E : Type 0} (r : Result T E) (ls new : List LivesValue) (h : HistoryValue) → EndpointsRise ls → OnOk r (new ≡ with_life ls h) → OnErr r (new ≡ ls) → EndpointsRise new
rise_either (Ok v) ls new h rise ok err = subst EndpointsRise (sym ok) (still_rise h ls rise)
rise_either (Err e) ls new h rise ok err = subst EndpointsRise (sym err) rise
