-- The items that are left of a run whose lives are cut.
use Rattle.std.proofs.Common.{◌≡◌, inl, inr, ℕ, suc, ◌+◌, ◌<◌, ◌≤◌, Bool, true, false, cond, List, [], ◌∷◌, ◌++◌, length, map, Option, Some, None, refl, sym, ap, ◌∙◌, subst, arith, append-nil, nat_lt}
use Rattle.std.specs.Prelude.{⊤, ◌==◌, ◌&&◌, ◌||◌, nat_le}
use Rattle.std.specs.List.{AllByRecursion, filter}
use Rattle.std.proofs.lemmas.List.Elements.{filter-append}
use Rattle.std.proofs.lemmas.Bool.{ltb-true}
use Rattle.std.proofs.lemmas.Bool.Decides.{nat_tests}
use Rattle.cg_types.specs.Rising.{is_past, rise_past, Rises}
use Rattle.cg_types.proofs.RisingLemmas.{both, first_of, second_of, rise_earlier}
use Rattle.cg_table.specs.Own.{own_entry}
use Rattle.cg_core.specs.Values.{NodeValue}
use Rattle.cg_history.specs.declared.item.Item.{Item}
use Rattle.cg_history.specs.History.{HistoryValue}
use Rattle.cg_journal.specs.Laws.{Continues}
use Rattle.cg_audit.specs.Items.{RunItem, LivesValue, generation_of, start_item, item_of, items_from, items_of_life, items_of_lives, items_at}
use Rattle.cg_audit.specs.OneRun.{EachWasSent, GenerationsRise}
use Rattle.cg_audit.proofs.ItemLemmas.{IsOf, named_at, all_both}
use Rattle.cg_cut.specs.Cutting.{AreCutLives, AreCut, lives_at, has_item, is_left, EachSenderIsLeft}
use Rattle.cg_cut.specs.Laws.{CutRunsAreRuns}

-- ---- filters

module _ {X : Type 0} where
  filter_all : (p : X → Bool) (xs : List X) → AllByRecursion (λ x. p x ≡ true) xs → filter p xs ≡ xs
  filter_all p [] all = refl
  filter_all p (x ∷ xs) all = rw all.0 (ap (λ (l : List X). x ∷ l) (filter_all p xs all.1))

  filter_none : (p : X → Bool) (xs : List X) → AllByRecursion (λ x. p x ≡ false) xs → filter p xs ≡ []
  filter_none p [] none = refl
  filter_none p (x ∷ xs) none = rw none.0 (filter_none p xs none.1)

  filter_same : (p q : X → Bool) (xs : List X) → AllByRecursion (λ x. p x ≡ q x) xs → filter p xs ≡ filter q xs
  filter_same p q [] all = refl
  filter_same p q (x ∷ xs) all = rw all.0 (ap (λ (l : List X). cond (q x) (x ∷ l) l) (filter_same p q xs all.1))

  filter_turned : (p q : X → Bool) (xs : List X) → filter p (filter q xs) ≡ filter q (filter p xs)
  filter_turned p q [] = refl
  filter_turned p q (x ∷ xs) = by (p x) (q x) refl refl (filter_turned p q xs)
    where
      by : (a b : Bool) → p x ≡ a → q x ≡ b → filter p (filter q xs) ≡ filter q (filter p xs) → filter p (cond b (x ∷ filter q xs) (filter q xs)) ≡ filter q (cond a (x ∷ filter p xs) (filter p xs))
      by true true a b more = rw (a, b) (ap (λ (l : List X). x ∷ l) more)
      by true false a b more = rw b more
      by false true a b more = rw a more
      by false false a b more = more

  all_of : (P Q : X → Type 0) (xs : List X) → ((x : X) → P x → Q x) → AllByRecursion P xs → AllByRecursion Q xs
  all_of P Q [] f all = tt
  all_of P Q (x ∷ xs) f all = (f x all.0, all_of P Q xs f all.1)

-- ---- generations

-- Each of these lives has a greater generation.
abbrev AllPast : ℕ → List HistoryValue → Type 0
AllPast g hs = AllByRecursion (λ h. g < generation_of h) hs

past_of_rise : (g : ℕ) (hs : List HistoryValue) → rise_past (Some g) (map generation_of hs) ≡ true → AllPast g hs
past_of_rise g [] rise = tt
past_of_rise g (h ∷ hs) rise =
    let here = first_of (nat_lt g (generation_of h)) (rise_past (Some (generation_of h)) (map generation_of hs)) rise in
    let rest = second_of (nat_lt g (generation_of h)) (rise_past (Some (generation_of h)) (map generation_of hs)) rise in
    (ltb-true g (generation_of h) here, past_of_rise g hs (rise_earlier (Some g) (generation_of h) (map generation_of hs) here rest))

-- a cut life is of the same generation
same_generation : (g h : HistoryValue) → Continues g h → generation_of h ≡ generation_of g
same_generation g h c = ap (λ (n : NodeValue). (own_entry n.table).generation) c.base

past_cut : (n : ℕ) (hs gs : List HistoryValue) → AllPast n hs → AreCutLives hs gs → AllPast n gs
past_cut n hs [] all cut = tt
past_cut n [] (g ∷ gs) all cut = absurd cut
past_cut n (h ∷ hs) (g ∷ gs) all (inl (one, cut)) = (subst (λ k. n < k) (same_generation g h one) all.0, past_cut n hs gs all.1 cut)
past_cut n (h ∷ hs) (g ∷ gs) all (inr cut) = past_cut n hs (g ∷ gs) all.1 cut

rise_cut : (last : Option ℕ) (hs gs : List HistoryValue) → rise_past last (map generation_of hs) ≡ true → AreCutLives hs gs → rise_past last (map generation_of gs) ≡ true
rise_cut last hs [] rise cut = refl
rise_cut last [] (g ∷ gs) rise cut = absurd cut
rise_cut last (h ∷ hs) (g ∷ gs) rise (inl (one, cut)) =
    let here = first_of (is_past last (generation_of h)) (rise_past (Some (generation_of h)) (map generation_of hs)) rise in
    let rest = second_of (is_past last (generation_of h)) (rise_past (Some (generation_of h)) (map generation_of hs)) rise in
    subst (λ (k : ℕ). (is_past last k && rise_past (Some k) (map generation_of gs)) ≡ true) (same_generation g h one) (both _ _ here (rise_cut (Some (generation_of h)) hs gs rest cut))
rise_cut last (h ∷ hs) (g ∷ gs) rise (inr cut) =
    let here = first_of (is_past last (generation_of h)) (rise_past (Some (generation_of h)) (map generation_of hs)) rise in
    let rest = second_of (is_past last (generation_of h)) (rise_past (Some (generation_of h)) (map generation_of hs)) rise in
    rise_cut last hs (g ∷ gs) (rise_earlier last (generation_of h) (map generation_of hs) here rest) cut

generations_rise : (lives cut : List LivesValue) → GenerationsRise lives → AreCut lives cut → GenerationsRise cut
generations_rise [] [] rise are = tt
generations_rise [] (c ∷ cs) rise are = absurd are
generations_rise (l ∷ ls) [] rise are = absurd are
generations_rise (l ∷ ls) (c ∷ cs) rise are = (rise_cut None l.histories c.histories rise.0 are.1, generations_rise ls cs rise.1 are.2)

-- ---- items of lives

differs : (m n : ℕ) → n < m → (m == n) ≡ false
differs m n less = grind (arith, nat_tests)

-- no life past the generation has an item of it
none_of : (n number : ℕ) (gs : List HistoryValue) → AllPast n gs → has_item n number gs ≡ false
none_of n number [] all = refl
none_of n number (g ∷ gs) all = rw (differs (generation_of g) n all.0) (none_of n number gs all.1)

-- an item of a generation, of this number or a later one
abbrev IsFrom : ℕ → ℕ → RunItem → Type 0
IsFrom generation number i = (i.generation ≡ generation) × (number ≤ i.number)

abbrev IsUpTo : ℕ → ℕ → RunItem → Type 0
IsUpTo generation number i = (i.generation ≡ generation) × (i.number ≤ number)

from_number : (e g n m : ℕ) (rs : List Item) → m ≤ n → AllByRecursion (IsFrom g m) (items_from e g n rs)
from_number e g n m [] less = tt
from_number e g n m (r ∷ rs) less = ((refl, less), from_number e g (suc n) m rs (omega (arith, less)))

up_to_number : (e g n m : ℕ) (rs : List Item) → n + length rs ≤ m + 1 → AllByRecursion (IsUpTo g m) (items_from e g n rs)
up_to_number e g n m [] less = tt
up_to_number e g n m (r ∷ rs) less = ((refl, omega (arith, less)), up_to_number e g (suc n) m rs (omega (arith, less)))

-- the items of some records, and of those behind
items_joined : (e g n : ℕ) (rs qs : List Item) → items_from e g n (rs ++ qs) ≡ items_from e g n rs ++ items_from e g (n + length rs) qs
items_joined e g n [] qs = let same : n ≡ n + 0 = omega arith in ap (λ (k : ℕ). items_from e g k qs) same
items_joined e g n (r ∷ rs) qs =
    let same : suc n + length rs ≡ n + suc (length rs) = omega arith in
    ap (λ (l : List RunItem). item_of e g n r ∷ l) (items_joined e g (suc n) rs qs ∙ ap (λ (k : ℕ). items_from e g (suc n) rs ++ items_from e g k qs) same)

-- the items of an endpoint's lives past a generation
abbrev IsPast : ℕ → RunItem → Type 0
IsPast n i = n < i.generation

past_from : (e n g k : ℕ) (rs : List Item) → n < g → AllByRecursion (IsPast n) (items_from e g k rs)
past_from e n g k [] less = tt
past_from e n g k (r ∷ rs) less = (less, past_from e n g (suc k) rs less)

past_items : (e n : ℕ) (hs : List HistoryValue) → AllPast n hs → AllByRecursion (IsPast n) (items_of_lives e hs)
past_items e n [] all = tt
past_items e n (h ∷ hs) all =
    all_both (IsPast n) (items_of_life e h) (items_of_lives e hs) (all.0, past_from e n (generation_of h) 1 h.records all.0) (past_items e n hs all.1)

-- `true` if the item is one of these lives
abbrev left_in : List HistoryValue → RunItem → Bool
left_in gs i = has_item i.generation i.number gs

is_there : (b : Bool) → (b || false) ≡ b
is_there true = refl
is_there false = refl

at_most : (n m : ℕ) → n ≤ m → nat_le n m ≡ true
at_most n m le = grind (arith, nat_tests)

more_than : (n m : ℕ) → m < n → nat_le n m ≡ false
more_than n m less = grind (arith, nat_tests)

itself : (n : ℕ) → (n == n) ≡ true
itself n = grind (arith, nat_tests)

module _ (g : HistoryValue) (gs : List HistoryValue) (later : AllPast (generation_of g) gs) where
  -- an item of the first of these lives
  of_first : (i : RunItem) → i.generation ≡ generation_of g → left_in (g ∷ gs) i ≡ nat_le i.number (length g.records)
  of_first i of =
      ap (λ (k : ℕ). has_item k i.number (g ∷ gs)) of
      ∙ rw (itself (generation_of g), none_of (generation_of g) i.number gs later) (is_there (nat_le i.number (length g.records)))

  -- an item of the others
  of_later : (i : RunItem) → generation_of g < i.generation → left_in (g ∷ gs) i ≡ left_in gs i
  of_later i past = rw (apart (generation_of g) i.generation past) refl
    where
      apart : (m n : ℕ) → m < n → (m == n) ≡ false
      apart m n less = grind (arith, nat_tests)

  -- of a life that was cut, the items of the records that it has are left
  first_left : (e : ℕ) (h : HistoryValue) → Continues g h → filter (left_in (g ∷ gs)) (items_of_life e h) ≡ items_of_life e g
  first_left e h one =
      let G = generation_of g in
      let P = left_in (g ∷ gs) in
      let G_is : generation_of h ≡ G = same_generation g h one in
      let front = start_item e G ∷ items_from e G 1 g.records in
      let behind = items_from e G (1 + length g.records) one.more in
      let split : items_of_life e h ≡ front ++ behind =
      ap (λ (k : ℕ). start_item e k ∷ items_from e k 1 h.records) G_is
      ∙ ap (λ (l : List Item). start_item e G ∷ items_from e G 1 l) one.records
      ∙ ap (λ (l : List RunItem). start_item e G ∷ l) (items_joined e G 1 g.records one.more) in
      let kept : (i : RunItem) → IsUpTo G (length g.records) i → P i ≡ true =
      λ i of. of_first i of.0 ∙ at_most i.number (length g.records) of.1 in
      let gone : (i : RunItem) → IsFrom G (1 + length g.records) i → P i ≡ false =
      λ i of. of_first i of.0 ∙ more_than i.number (length g.records) (let less = of.1 in omega (arith, less)) in
      let all_kept : AllByRecursion (λ i. P i ≡ true) front =
      all_of (IsUpTo G (length g.records)) (λ i. P i ≡ true) front kept ((refl, omega arith), up_to_number e G 1 (length g.records) g.records (omega arith)) in
      let all_gone : AllByRecursion (λ i. P i ≡ false) behind =
      all_of (IsFrom G (1 + length g.records)) (λ i. P i ≡ false) behind gone (from_number e G (1 + length g.records) (1 + length g.records) one.more (omega arith)) in
      ap (filter P) split ∙ filter-append P front behind
      ∙ ap (λ (l : List RunItem). l ++ filter P behind) (filter_all P front all_kept)
      ∙ ap (λ (l : List RunItem). front ++ l) (filter_none P behind all_gone) ∙ append-nil front

-- the items that are left of an endpoint's lives
lives_left : (e : ℕ) (last : Option ℕ) (hs gs : List HistoryValue) → rise_past last (map generation_of hs) ≡ true → AreCutLives hs gs
    → filter (left_in gs) (items_of_lives e hs) ≡ items_of_lives e gs
lives_left e last hs [] rise cut = filter_none (left_in []) (items_of_lives e hs) (all_of (λ _. ⊤) (λ i. left_in [] i ≡ false) (items_of_lives e hs) (λ _ _. refl) (every (items_of_lives e hs)))
  where
    every : (xs : List RunItem) → AllByRecursion (λ _. ⊤) xs
    every [] = tt
    every (x ∷ xs) = (tt, every xs)
lives_left e last [] (g ∷ gs) rise cut = absurd cut
lives_left e last (h ∷ hs) (g ∷ gs) rise (inl (one, cut)) =
    let G = generation_of h in
    let rest = second_of (is_past last G) (rise_past (Some G) (map generation_of hs)) rise in
    let past = past_of_rise G hs rest in
    let G_is : G ≡ generation_of g = same_generation g h one in
    let later : AllPast (generation_of g) gs = subst (λ k. AllPast k gs) G_is (past_cut G hs gs past cut) in
    let P = left_in (g ∷ gs) in
    let others : filter P (items_of_lives e hs) ≡ filter (left_in gs) (items_of_lives e hs) =
    filter_same P (left_in gs) (items_of_lives e hs)
    (all_of (IsPast G) (λ i. P i ≡ left_in gs i) (items_of_lives e hs) (λ i less. of_later g gs later i (subst (λ k. k < i.generation) G_is less)) (past_items e G hs past)) in
    filter-append P (items_of_life e h) (items_of_lives e hs)
    ∙ ap (λ (l : List RunItem). l ++ filter P (items_of_lives e hs)) (first_left g gs later e h one)
    ∙ ap (λ (l : List RunItem). items_of_life e g ++ l) (others ∙ lives_left e (Some G) hs gs rest cut)
lives_left e last (h ∷ hs) (g ∷ gs) rise (inr cut) =
    let G = generation_of h in
    let rest = second_of (is_past last G) (rise_past (Some G) (map generation_of hs)) rise in
    let past = past_cut G hs (g ∷ gs) (past_of_rise G hs rest) cut in
    let P = left_in (g ∷ gs) in
    let none : (i : RunItem) → i.generation ≡ G → P i ≡ false =
    λ i of. ap (λ (k : ℕ). has_item k i.number (g ∷ gs)) of ∙ none_of G i.number (g ∷ gs) past in
    let gone : AllByRecursion (λ i. P i ≡ false) (items_of_life e h) =
    all_of (IsFrom G 0) (λ i. P i ≡ false) (items_of_life e h) (λ i of. none i of.0) ((refl, omega arith), from_number e G 1 0 h.records (omega arith)) in
    filter-append P (items_of_life e h) (items_of_lives e hs)
    ∙ ap (λ (l : List RunItem). l ++ filter P (items_of_lives e hs)) (filter_none P (items_of_life e h) gone)
    ∙ lives_left e (Some G) hs (g ∷ gs) rest cut

-- ---- items of endpoints

items_there : (lives : List LivesValue) (e : ℕ) → items_at lives e ≡ items_of_lives e (lives_at lives e)
items_there [] e = refl
items_there (l ∷ ls) e = by (l.endpoint == e) (items_there ls e)
  where
    by : (b : Bool) → items_at ls e ≡ items_of_lives e (lives_at ls e)
        → cond b (items_of_lives e l.histories) (items_at ls e) ≡ items_of_lives e (cond b l.histories (lives_at ls e))
    by true more = refl
    by false more = more

cut_there : (lives cut : List LivesValue) (e : ℕ) → AreCut lives cut → AreCutLives (lives_at lives e) (lives_at cut e)
cut_there [] [] e are = tt
cut_there [] (c ∷ cs) e are = absurd are
cut_there (l ∷ ls) [] e are = absurd are
cut_there (l ∷ ls) (c ∷ cs) e are =
    subst (λ (k : ℕ). AreCutLives (cond (l.endpoint == e) l.histories (lives_at ls e)) (cond (k == e) c.histories (lives_at cs e))) (sym are.0)
    (by (l.endpoint == e) (cut_there ls cs e are.2))
  where
    by : (b : Bool) → AreCutLives (lives_at ls e) (lives_at cs e) → AreCutLives (cond b l.histories (lives_at ls e)) (cond b c.histories (lives_at cs e))
    by true more = are.1
    by false more = more

rise_there : (lives : List LivesValue) (e : ℕ) → GenerationsRise lives → Rises (map generation_of (lives_at lives e))
rise_there [] e rise = refl
rise_there (l ∷ ls) e rise = by (l.endpoint == e) (rise_there ls e rise.1)
  where
    by : (b : Bool) → Rises (map generation_of (lives_at ls e)) → Rises (map generation_of (cond b l.histories (lives_at ls e)))
    by true more = rise.0
    by false more = more

items_left : (lives cut : List LivesValue) (e : ℕ) → GenerationsRise lives → AreCut lives cut → filter (is_left cut) (items_at lives e) ≡ items_at cut e
items_left lives cut e rise are =
    filter_same (is_left cut) (left_in (lives_at cut e)) (items_at lives e)
    (all_of (IsOf e) (λ i. is_left cut i ≡ left_in (lives_at cut e) i) (items_at lives e) (λ i of. ap (λ (k : ℕ). has_item i.generation i.number (lives_at cut k)) of) (named_at lives e))
    ∙ ap (filter (left_in (lives_at cut e))) (items_there lives e)
    ∙ lives_left e None (lives_at lives e) (lives_at cut e) (rise_there lives e rise) (cut_there lives cut e are)
    ∙ sym (items_there cut e)

-- ---- messages

sent_left : (left : RunItem → Bool) (before is : List RunItem) → EachSenderIsLeft left before is → EachWasSent (filter left before) (filter left is)
sent_left left before [] each = tt
sent_left left before (i ∷ is) each = by (left i) refl (sent_left left (before ++ i ∷ []) is each.1)
  where
    by : (b : Bool) → left i ≡ b → EachWasSent (filter left (before ++ i ∷ [])) (filter left is) → EachWasSent (filter left before) (cond b (i ∷ filter left is) (filter left is))
    by true is_it more =
        let one : filter left (before ++ i ∷ []) ≡ filter left before ++ i ∷ [] = filter-append left before (i ∷ []) ∙ rw is_it refl in
        (each.0 is_it, subst (λ (l : List RunItem). EachWasSent l (filter left is)) one more)
    by false is_it more =
        let one : filter left (before ++ i ∷ []) ≡ filter left before = filter-append left before (i ∷ []) ∙ rw is_it (append-nil (filter left before)) in
        subst (λ (l : List RunItem). EachWasSent l (filter left is)) one more

pub cut_runs_are_runs : CutRunsAreRuns
cut_runs_are_runs lives cut order run are senders = record {
  items = λ e.
      filter_turned (λ (i : RunItem). i.endpoint == e) (is_left cut) order ∙ ap (filter (is_left cut)) (run.items e) ∙ items_left lives cut e run.rise are;
  sent = sent_left (is_left cut) [] order senders;
  rise = generations_rise lives cut run.rise are;
}
