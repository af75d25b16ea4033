-- Turns, one by one.
use Rattle.std.proofs.Common.{◌≡◌, ◌⊎◌, ℕ, suc, ◌+◌, ◌≤◌, Bool, true, false, cond, List, [], ◌∷◌, ◌++◌, length, Option, Some, None, refl, sym, ap, ◌∙◌, subst, eqb-true, eq-eqb, inl, inr, arith}
use Rattle.std.specs.Prelude.{◌==◌, nat_le}
use Rattle.std.specs.List.{AllByRecursion}
use Rattle.std.proofs.lemmas.List.{append-nil, append_assoc}
use Rattle.std.proofs.lemmas.Option.{same_Some}
use Rattle.cg_audit.specs.Items.{RunItem, LivesValue, items_at}
use Rattle.cg_audit.specs.OneRun.{items_by, EachWasSent}
use Rattle.cg_audit.specs.Turns.{can_go, ready, lesser, next, rest, without_next, first, heads, count_left}
use Rattle.cg_audit.proofs.ItemLemmas.{IsIn, IsOf, all_last, named_at, going_was_sent, items_both, sent_more}

-- ---- the item that goes next

-- the item is the next one left of an endpoint, and can go
pub record IsNext (es : List ℕ) (left : ℕ → List RunItem) (gone : List RunItem) (i : RunItem) : Type 0 where
  pub endpoint : ℕ
  pub among : IsIn endpoint es
  pub more : List RunItem
  pub here : left endpoint ≡ i ∷ more
  pub goes : can_go gone i.handled ≡ true

one_of : (x y : Option RunItem) (i : RunItem) → lesser x y ≡ Some i → (x ≡ Some i) ⊎ (y ≡ Some i)
one_of None y i e = inr e
one_of (Some x) None i e = inl e
one_of (Some x) (Some y) i e = by (nat_le x.endpoint y.endpoint) e
  where
    by : (b : Bool) → cond b (Some x) (Some y) ≡ Some i → (Some x ≡ Some i) ⊎ (Some y ≡ Some i)
    by true e = inl e
    by false e = inr e

neither : (x y : Option RunItem) → lesser x y ≡ None → (x ≡ None) × (y ≡ None)
neither None y e = (refl, e)
neither (Some x) None e = absurd cc
neither (Some x) (Some y) e = by (nat_le x.endpoint y.endpoint) e
  where
    by : (b : Bool) → cond b (Some x) (Some y) ≡ None → (Some x ≡ None) × (Some y ≡ None)
    by true e = absurd cc
    by false e = absurd cc

module _ (left : ℕ → List RunItem) (gone : List RunItem) where
  ready_is : (is : List RunItem) (i : RunItem) → ready gone is ≡ Some i → (more : List RunItem) × (is ≡ i ∷ more) × (can_go gone i.handled ≡ true)
  ready_is [] i e = absurd cc
  ready_is (j ∷ js) i e = by (can_go gone j.handled) refl e
    where
      by : (b : Bool) → can_go gone j.handled ≡ b → cond b (Some j) None ≡ Some i → (more : List RunItem) × (j ∷ js ≡ i ∷ more) × (can_go gone i.handled ≡ true)
      by true can e = let same = same_Some j i e in (js, ap (λ k. k ∷ js) same, subst (λ (k : RunItem). can_go gone k.handled ≡ true) same can)
      by false can e = absurd cc

  pub next_is : (es : List ℕ) (i : RunItem) → next es left gone ≡ Some i → IsNext es left gone i
  next_is [] i e = absurd cc
  next_is (x ∷ es) i e = by (one_of (ready gone (left x)) (next es left gone) i e) (next_is es i)
    where
      by : (ready gone (left x) ≡ Some i) ⊎ (next es left gone ≡ Some i) → (next es left gone ≡ Some i → IsNext es left gone i) → IsNext (x ∷ es) left gone i
      by (inl here) onward = let r = ready_is (left x) i here in record { endpoint = x; among = inl refl; more = r.0; here = r.1; goes = r.2 }
      by (inr there) onward = let n = onward there in record { endpoint = n.endpoint; among = inr n.among; more = n.more; here = n.here; goes = n.goes }

  abbrev pub CanNotGo : RunItem → Type 0
  CanNotGo i = can_go gone i.handled ≡ false

  stays : (is : List RunItem) → ready gone is ≡ None → AllByRecursion CanNotGo (first is)
  stays [] e = tt
  stays (i ∷ is) e = by (can_go gone i.handled) refl e
    where
      by : (b : Bool) → can_go gone i.handled ≡ b → cond b (Some i) None ≡ None → AllByRecursion CanNotGo (i ∷ [])
      by true can e = absurd cc
      by false can e = (can, tt)

  before : (is : List RunItem) (others : List RunItem) → AllByRecursion CanNotGo (first is) → AllByRecursion CanNotGo others → AllByRecursion CanNotGo (first is ++ others)
  before [] others a b = b
  before (i ∷ is) others a b = (a.0, b)

  -- if no item goes, no next item can
  pub heads_stay : (es : List ℕ) → next es left gone ≡ None → AllByRecursion CanNotGo (heads es left)
  heads_stay [] e = tt
  heads_stay (x ∷ es) e = let n = neither (ready gone (left x)) (next es left gone) e in before (left x) (heads es left) (stays (left x) n.0) (heads_stay es n.1)

-- ---- the next items

module _ (left : ℕ → List RunItem) where
  tail_empty : (is others : List RunItem) → first is ++ others ≡ [] → (is ≡ []) × (others ≡ [])
  tail_empty [] others e = (refl, e)
  tail_empty (i ∷ is) others e = absurd cc

  pub none_left : (es : List ℕ) → heads es left ≡ [] → (e : ℕ) → IsIn e es → left e ≡ []
  none_left [] none e nowhere = elim nowhere [ ]
  none_left (x ∷ es) none e (inl here) = subst (λ y. left y ≡ []) here (tail_empty (left x) (heads es left) none).0
  none_left (x ∷ es) none e (inr there) = none_left es (tail_empty (left x) (heads es left) none).1 e there

  -- the next item that is left of an endpoint is one of the next items
  pub head_of : (P : RunItem → Type 0) (es : List ℕ) → AllByRecursion P (heads es left) → (e : ℕ) → IsIn e es → (i : RunItem) (more : List RunItem) → left e ≡ i ∷ more → P i
  head_of P [] all e nowhere i more is = elim nowhere [ ]
  head_of P (x ∷ es) all e (inl here) i more is = (subst (λ js. AllByRecursion P (first js ++ heads es left)) (ap left here ∙ is) all).0
  head_of P (x ∷ es) all e (inr there) i more is = head_of P es (all_last P (first (left x)) (heads es left) all) e there i more is

  pub nobody_left : (es : List ℕ) → count_left es left ≤ 0 → heads es left ≡ []
  nobody_left [] few = refl
  nobody_left (x ∷ es) few = by (left x) few (nobody_left es)
    where
      by : (is : List RunItem) → length is + count_left es left ≤ 0 → (count_left es left ≤ 0 → heads es left ≡ []) → first is ++ heads es left ≡ []
      by [] few more = let fewer : count_left es left ≤ 0 = omega (arith, few) in more fewer
      by (i ∷ is) few more = absurd (omega (arith, few))

  rest_shorter : (b : Bool) (is : List RunItem) → length (cond b (rest is) is) ≤ length is
  rest_shorter true [] = omega arith
  rest_shorter true (i ∷ is) = omega arith
  rest_shorter false is = omega arith

  count_rest : (es : List ℕ) (e : ℕ) → count_left es (without_next left e) ≤ count_left es left
  count_rest [] e = omega arith
  count_rest (x ∷ es) e = let here = rest_shorter (x == e) (left x) in let there = count_rest es e in omega (arith, here, there)

  pub count_less : (es : List ℕ) (e : ℕ) (i : RunItem) (more : List RunItem) → left e ≡ i ∷ more → IsIn e es → suc (count_left es (without_next left e)) ≤ count_left es left
  count_less [] e i more is nowhere = elim nowhere [ ]
  count_less (x ∷ es) e i more is (inl here) =
      let at : without_next left e x ≡ more = rw (eq-eqb x e here) (ap rest (ap left here ∙ is)) in
      let long : length (without_next left e x) ≡ length more = ap length at in
      let was : length (left x) ≡ suc (length more) = ap length (ap left here ∙ is) in
      let there = count_rest es e in
      omega (arith, long, was, there)
  count_less (x ∷ es) e i more is (inr in_es) = let here = rest_shorter (x == e) (left x) in let there = count_less es e i more is in_es in omega (arith, here, there)

-- ---- the invariant of the turns

-- these items have gone, in an order as a run has it, and the others are left
pub record IsAtTurn (lives : List LivesValue) (left : ℕ → List RunItem) (gone : List RunItem) : Type 0 where
  pub parted : (e : ℕ) → items_by e gone ++ left e ≡ items_at lives e
  pub sent : EachWasSent [] gone

module _ (lives : List LivesValue) (left : ℕ → List RunItem) (gone : List RunItem) (at : IsAtTurn lives left gone) where
  -- the items left of an endpoint are of it
  pub left_named : (e : ℕ) → AllByRecursion (IsOf e) (left e)
  left_named e = all_last (IsOf e) (items_by e gone) (left e) (subst (AllByRecursion (IsOf e)) (sym (at.parted e)) (named_at lives e))

  module _ (es : List ℕ) (i : RunItem) (n : IsNext es left gone i) where
    pub named_so : i.endpoint ≡ n.endpoint
    named_so = (subst (AllByRecursion (IsOf n.endpoint)) n.here (left_named n.endpoint)).0

    here_left : left i.endpoint ≡ i ∷ n.more
    here_left = ap left named_so ∙ n.here

    goes_over : (e : ℕ) (b : Bool) → (e == i.endpoint) ≡ b → (c : Bool) → (i.endpoint == e) ≡ c
        → (items_by e gone ++ cond c (i ∷ []) []) ++ cond b (rest (left e)) (left e) ≡ items_at lives e
    goes_over e true is c back =
        let same = eqb-true e i.endpoint is in
        let held : left e ≡ i ∷ n.more = ap left same ∙ here_left in
        let yes : c ≡ true = sym back ∙ eq-eqb i.endpoint e (sym same) in
        rw (yes, held) (append_assoc (items_by e gone) (i ∷ []) n.more) ∙ ap (λ l. items_by e gone ++ l) (sym held) ∙ at.parted e
    goes_over e false is true back = let same = eqb-true i.endpoint e back in let no : (e == i.endpoint) ≡ true = eq-eqb e i.endpoint (sym same) in absurd cc
    goes_over e false is false back = rw (append-nil (items_by e gone)) (at.parted e)

    pub after_one : IsAtTurn lives (without_next left i.endpoint) (gone ++ i ∷ [])
    after_one = record {
      parted = λ e. ap (λ l. l ++ without_next left i.endpoint e) (items_both e gone (i ∷ [])) ∙ goes_over e (e == i.endpoint) refl (i.endpoint == e) refl;
      sent = sent_more [] gone i at.sent (going_was_sent gone i.handled n.goes);
    }
