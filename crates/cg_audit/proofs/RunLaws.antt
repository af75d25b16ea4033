-- Turns find one run exactly if there is one.
use Rattle.std.proofs.Common.{◌≡◌, ◌⊎◌, ℕ, zero, suc, ◌≤◌, Bool, true, false, cond, List, [], ◌∷◌, ◌++◌, Option, Some, None, refl, sym, ap, ◌∙◌, subst, eqb-true, eq-eqb, inl, inr, arith}
use Rattle.std.specs.Prelude.{◌==◌}
use Rattle.std.specs.List.{AllByRecursion, Contains}
use Rattle.std.proofs.lemmas.List.{append-nil, append_assoc, append_cancel_left}
use Rattle.std.proofs.lemmas.List.Elements.{Contains-append_left, Contains-append_right, Contains-append_cases}
use Rattle.cg_messages.specs.declared.message.Message.{Message}
use Rattle.cg_audit.specs.Items.{RunItem, LivesValue, items_at}
use Rattle.cg_audit.specs.OneRun.{messages_of, items_by, WasSent, EachWasSent, GenerationsRise, IsOneRun}
use Rattle.cg_audit.specs.Turns.{Found, Order, Stuck, can_go, next, without_next, first, heads, found, after_turn, turns, count_left, endpoints_of}
use Rattle.cg_audit.specs.Laws.{OrdersAreRuns, StuckLivesAreNoRun, HeadsCanNotGo, AreStuck}
use Rattle.cg_audit.proofs.ItemLemmas.{IsIn, lives_or_none, sent_can_go, messages_both, items_both}
use Rattle.cg_audit.proofs.TurnLemmas.{next_is, heads_stay, none_left, head_of, nobody_left, count_less, IsAtTurn, named_so, after_one}

abbrev in_order : Found → List RunItem
in_order (Order order) = order
in_order (Stuck left) = left

-- ---- an order that turns find

end_is : (hs gone order : List RunItem) → found hs gone ≡ Order order → (hs ≡ []) × (gone ≡ order)
end_is [] gone order e = (refl, ap in_order e)
end_is (h ∷ hs) gone order e = absurd cc

stuck_is : (hs gone left : List RunItem) → found hs gone ≡ Stuck left → hs ≡ left
stuck_is [] gone left e = absurd cc
stuck_is (h ∷ hs) gone left e = ap in_order e

some_head : (hs gone : List RunItem) → found hs gone ≡ Stuck [] → ⊥
some_head [] gone e = absurd cc
some_head (h ∷ hs) gone e = absurd cc

module _ (lives : List LivesValue) where
  abbrev es : List ℕ
  es = endpoints_of lives

  -- if no item is left of any endpoint that has lives, none is left at all
  all_gone : (left : ℕ → List RunItem) (gone : List RunItem) → IsAtTurn lives left gone → heads es left ≡ [] → (e : ℕ) → left e ≡ []
  all_gone left gone at none e = by (lives_or_none lives e)
    where
      second_empty : (xs ys : List RunItem) → xs ++ ys ≡ [] → ys ≡ []
      second_empty [] ys q = q
      second_empty (x ∷ xs) ys q = absurd cc

      by : IsIn e es ⊎ (items_at lives e ≡ []) → left e ≡ []
      by (inl there) = none_left left es none e there
      by (inr nothing) = second_empty (items_by e gone) (left e) (at.parted e ∙ nothing)

  ended : (left : ℕ → List RunItem) (gone order : List RunItem) → GenerationsRise lives → IsAtTurn lives left gone → found (heads es left) gone ≡ Order order → IsOneRun lives order
  ended left gone order rise at e =
      let end = end_is (heads es left) gone order e in
      let empty = all_gone left gone at end.0 in
      record {
        items = λ x. ap (items_by x) (sym end.1) ∙ sym (append-nil (items_by x gone)) ∙ ap (λ l. items_by x gone ++ l) (sym (empty x)) ∙ at.parted x;
        sent = subst (EachWasSent []) end.1 at.sent;
        rise = rise;
      }

  ordered : (n : ℕ) (left : ℕ → List RunItem) (gone order : List RunItem) → GenerationsRise lives → IsAtTurn lives left gone → turns n es left gone ≡ Order order → IsOneRun lives order
  ordered zero left gone order rise at e = ended left gone order rise at e
  ordered (suc n) left gone order rise at e = by (next es left gone) refl e (λ l g. ordered n l g order rise)
    where
      by : (o : Option RunItem) → next es left gone ≡ o
          → after_turn o (found (heads es left) gone) (λ (i : RunItem). turns n es (without_next left i.endpoint) (gone ++ i ∷ [])) ≡ Order order
          → ((l : ℕ → List RunItem) (g : List RunItem) → IsAtTurn lives l g → turns n es l g ≡ Order order → IsOneRun lives order) → IsOneRun lives order
      by None is e onward = ended left gone order rise at e
      by (Some i) is e onward = onward (without_next left i.endpoint) (gone ++ i ∷ []) (after_one lives left gone at es i (next_is left gone es i is)) e

  -- ---- stuck turns

  stuck_at : (left : ℕ → List RunItem) (gone stuck : List RunItem) → IsAtTurn lives left gone → next es left gone ≡ None → found (heads es left) gone ≡ Stuck stuck → AreStuck lives stuck
  stuck_at left gone stuck at nobody e =
      let same = stuck_is (heads es left) gone stuck e in
      record {
        gone = gone;
        left = left;
        parted = at.parted;
        sent = at.sent;
        some = λ none. some_head (heads es left) gone (e ∙ ap Stuck none);
        heads = sym same;
        stay = subst (AllByRecursion (λ (i : RunItem). can_go gone i.handled ≡ false)) same (heads_stay left gone es nobody);
      }

  not_stuck : (left : ℕ → List RunItem) (gone stuck : List RunItem) → heads es left ≡ [] → found (heads es left) gone ≡ Stuck stuck → AreStuck lives stuck
  not_stuck left gone stuck none e = let found_all = ap (λ hs. found hs gone) (sym none) ∙ e in absurd cc

  stuck : (n : ℕ) (left : ℕ → List RunItem) (gone left_over : List RunItem) → IsAtTurn lives left gone → count_left es left ≤ n → turns n es left gone ≡ Stuck left_over → AreStuck lives left_over
  stuck zero left gone left_over at few e = not_stuck left gone left_over (nobody_left left es few) e
  stuck (suc n) left gone left_over at few e = by (next es left gone) refl e (λ l g. stuck n l g left_over)
    where
      by : (o : Option RunItem) → next es left gone ≡ o
          → after_turn o (found (heads es left) gone) (λ (i : RunItem). turns n es (without_next left i.endpoint) (gone ++ i ∷ [])) ≡ Stuck left_over
          → ((l : ℕ → List RunItem) (g : List RunItem) → IsAtTurn lives l g → count_left es l ≤ n → turns n es l g ≡ Stuck left_over → AreStuck lives left_over) → AreStuck lives left_over
      by None is e onward = stuck_at left gone left_over at is e
      by (Some i) is e onward =
          let nx = next_is left gone es i is in
          let same = named_so lives left gone at es i nx in
          let there : IsIn i.endpoint es = subst (λ x. IsIn x es) (sym same) nx.among in
          let here : left i.endpoint ≡ i ∷ nx.more = ap left same ∙ nx.here in
          let less = count_less left es i.endpoint i nx.more here there in
          let few_then : count_left es (without_next left i.endpoint) ≤ n = omega (arith, few, less) in
          onward (without_next left i.endpoint) (gone ++ i ∷ []) (after_one lives left gone at es i nx) few_then e

-- ---- if turns are stuck, no order is one run

module _ (t : RunItem) where
  -- an item of an endpoint among these sent its message
  among_sent : (xs : List RunItem) (e : ℕ) (ys zs : List RunItem) → items_by e xs ≡ ys ++ t ∷ zs → (m : Message) → Contains (messages_of (t ∷ [])) m → Contains (messages_of xs) m
  among_sent [] e [] zs is m c = absurd cc
  among_sent [] e (y ∷ ys) zs is m c = absurd cc
  among_sent (x ∷ xs) e ys zs is m c = by (x.endpoint == e) ys is (λ vs. among_sent xs e vs zs)
    where
      more : Contains (messages_of xs) m → Contains (messages_of (x ∷ xs)) m
      more there = subst (λ ms. Contains ms m) (sym (messages_both (x ∷ []) xs)) (Contains-append_right (messages_of (x ∷ [])) (messages_of xs) m there)

      here : x ≡ t → Contains (messages_of (x ∷ xs)) m
      here same = subst (λ ms. Contains ms m) (sym (messages_both (x ∷ []) xs)) (Contains-append_left (messages_of (x ∷ [])) (messages_of xs) m (subst (λ (y : RunItem). Contains (messages_of (y ∷ [])) m) (sym same) c))

      by : (b : Bool) (us : List RunItem) → cond b (x ∷ items_by e xs) (items_by e xs) ≡ us ++ t ∷ zs
          → ((vs : List RunItem) → items_by e xs ≡ vs ++ t ∷ zs → (m : Message) → Contains (messages_of (t ∷ [])) m → Contains (messages_of xs) m) → Contains (messages_of (x ∷ xs)) m
      by true [] is onward = let same : x ≡ t = cc in here same
      by true (u ∷ us) is onward = let then : items_by e xs ≡ us ++ t ∷ zs = cc in more (onward us then m c)
      by false us is onward = more (onward us is m c)

module _ (lives : List LivesValue) (stuck : List RunItem) (s : AreStuck lives stuck) where
  -- all items of these are among those gone, and they sent no more than those
  record Within (front : List RunItem) : Type 0 where
    behind : (e : ℕ) → (more : List RunItem) × (items_by e s.gone ≡ items_by e front ++ more)
    heard : (m : Message) → Contains (messages_of front) m → Contains (messages_of s.gone) m

  sent_within : (front : List RunItem) (m : Option Message) → Within front → WasSent front m → WasSent s.gone m
  sent_within front None w was = tt
  sent_within front (Some m) w was = w.heard m was

  -- the next item left of an endpoint can't go
  left_stays : (t : RunItem) (more : List RunItem) → s.left t.endpoint ≡ t ∷ more → can_go s.gone t.handled ≡ false
  left_stays t more is = by (lives_or_none lives t.endpoint)
    where
      by : IsIn t.endpoint (endpoints_of lives) ⊎ (items_at lives t.endpoint ≡ []) → can_go s.gone t.handled ≡ false
      by (inl there) = head_of s.left (λ (i : RunItem). can_go s.gone i.handled ≡ false) (endpoints_of lives) (subst (AllByRecursion (λ (i : RunItem). can_go s.gone i.handled ≡ false)) s.heads s.stay) t.endpoint there t more is
      by (inr nothing) = absurd (never (items_by t.endpoint s.gone) (ap (λ l. items_by t.endpoint s.gone ++ l) (sym is) ∙ s.parted t.endpoint ∙ nothing))
        where
          never : (xs : List RunItem) → xs ++ t ∷ more ≡ [] → ⊥
          never [] q = absurd cc
          never (x ∷ xs) q = absurd cc

  step : (front behind : List RunItem) (t : RunItem) (w : Within front) (rest : List RunItem) → items_by t.endpoint s.gone ≡ items_by t.endpoint front ++ t ∷ rest → Within (front ++ t ∷ [])
  step front behind t w rest is = record {
    behind = λ e. by e (t.endpoint == e) refl;
    heard = λ m c. new m (Contains-append_cases (messages_of front) (messages_of (t ∷ [])) m (subst (λ ms. Contains ms m) (messages_both front (t ∷ [])) c));
  }
    where
      by : (e : ℕ) (b : Bool) → (t.endpoint == e) ≡ b → (more : List RunItem) × (items_by e s.gone ≡ items_by e (front ++ t ∷ []) ++ more)
      by e true same =
          let at = eqb-true t.endpoint e same in
          (rest, subst (λ x. items_by x s.gone ≡ items_by x front ++ t ∷ rest) at is ∙ sym (ap (λ l. l ++ rest) (items_both e front (t ∷ []) ∙ ap (λ c. items_by e front ++ cond c (t ∷ []) []) same) ∙ append_assoc (items_by e front) (t ∷ []) rest))
      by e false other = let before = w.behind e in
          (before.0, before.1 ∙ sym (ap (λ l. l ++ before.0) (items_both e front (t ∷ []) ∙ ap (λ c. items_by e front ++ cond c (t ∷ []) []) other ∙ append-nil (items_by e front))))

      new : (m : Message) → Contains (messages_of front) m ⊎ Contains (messages_of (t ∷ [])) m → Contains (messages_of s.gone) m
      new m (inl old) = w.heard m old
      new m (inr one) = among_sent t s.gone t.endpoint (items_by t.endpoint front) rest is m one

  walk : (front behind : List RunItem) → Within front → ((e : ℕ) → items_by e front ++ items_by e behind ≡ items_at lives e) → EachWasSent front behind → (e : ℕ) → s.left e ≡ []
  walk front [] w all was e =
      let b = w.behind e in
      second_empty b.0 (s.left e) (sym (append_cancel_left (items_by e front) [] (b.0 ++ s.left e) (all e ∙ sym (s.parted e) ∙ ap (λ l. l ++ s.left e) b.1 ∙ append_assoc (items_by e front) b.0 (s.left e))))
    where
      second_empty : (xs ys : List RunItem) → xs ++ ys ≡ [] → ys ≡ []
      second_empty [] ys q = q
      second_empty (x ∷ xs) ys q = absurd cc
  walk front (t ∷ behind) w all was e =
      let b = w.behind t.endpoint in
      let here : (t.endpoint == t.endpoint) ≡ true = eq-eqb t.endpoint t.endpoint refl in
      let now : t ∷ items_by t.endpoint behind ≡ b.0 ++ s.left t.endpoint =
      append_cancel_left (items_by t.endpoint front) (t ∷ items_by t.endpoint behind) (b.0 ++ s.left t.endpoint)
      (ap (λ c. items_by t.endpoint front ++ cond c (t ∷ items_by t.endpoint behind) (items_by t.endpoint behind)) (sym here) ∙ all t.endpoint ∙ sym (s.parted t.endpoint) ∙ ap (λ l. l ++ s.left t.endpoint) b.1 ∙ append_assoc (items_by t.endpoint front) b.0 (s.left t.endpoint)) in
      by b.0 b.1 now (λ v. walk (front ++ t ∷ []) behind v onward was.1) e
    where
      onward : (x : ℕ) → items_by x (front ++ t ∷ []) ++ items_by x behind ≡ items_at lives x
      onward x = ap (λ l. l ++ items_by x behind) (items_both x front (t ∷ [])) ∙ append_assoc (items_by x front) (items_by x (t ∷ [])) (items_by x behind) ∙ ap (λ l. items_by x front ++ l) (sym (items_both x (t ∷ []) behind)) ∙ all x

      by : (rest : List RunItem) → items_by t.endpoint s.gone ≡ items_by t.endpoint front ++ rest → t ∷ items_by t.endpoint behind ≡ rest ++ s.left t.endpoint → (Within (front ++ t ∷ []) → (x : ℕ) → s.left x ≡ []) → (x : ℕ) → s.left x ≡ []
      by [] is now then =
          let no = left_stays t (items_by t.endpoint behind) (sym now) in
          let yes = sent_can_go s.gone t.handled (sent_within front t.handled w was.0) in
          absurd cc
      by (r ∷ rest) is now then =
          let same : r ≡ t = cc in
          then (step front behind t w rest (is ∙ ap (λ x. items_by t.endpoint front ++ x ∷ rest) same))

-- ---- the laws

begin : (lives : List LivesValue) → IsAtTurn lives (items_at lives) []
begin lives = record { parted = λ e. refl; sent = tt }

pub orders_are_runs : OrdersAreRuns
orders_are_runs lives order rise e = ordered lives (count_left (endpoints_of lives) (items_at lives)) (items_at lives) [] order rise (begin lives) e

pub heads_can_not_go : HeadsCanNotGo
heads_can_not_go lives stuck_heads e =
    stuck lives (count_left (endpoints_of lives) (items_at lives)) (items_at lives) [] stuck_heads (begin lives) (omega arith) e

pub stuck_lives_are_no_run : StuckLivesAreNoRun
stuck_lives_are_no_run lives stuck_heads order e run =
    let s = heads_can_not_go lives stuck_heads e in
    let empty = walk lives stuck_heads s [] order (record { behind = λ x. (items_by x s.gone, refl); heard = λ m c. nothing m c }) run.items run.sent in
    absurd (s.some (s.heads ∙ none_next (endpoints_of lives) s.left empty))
  where
    nothing : {X : Type 0} (m : Message) → Contains [] m → X
    nothing m c = let none = c.1 in absurd (omega (arith, none))

    none_next : (es : List ℕ) (left : ℕ → List RunItem) → ((e : ℕ) → left e ≡ []) → heads es left ≡ []
    none_next [] left empty = refl
    none_next (x ∷ es) left empty = ap (λ l. first l ++ heads es left) (empty x) ∙ none_next es left empty
