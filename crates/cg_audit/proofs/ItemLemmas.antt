-- The items of endpoints, and the endpoints that have items.
use Rattle.std.proofs.Common.{◌≡◌, ◌⊎◌, ℕ, suc, Bool, true, false, cond, List, [], ◌∷◌, ◌++◌, Option, Some, None, refl, sym, subst, eqb-true, inl, inr, arith}
use Rattle.std.specs.Prelude.{◌==◌, ◌||◌}
use Rattle.std.specs.List.{AllByRecursion, Contains}
use Rattle.std.proofs.lemmas.List.{append-nil, append_assoc}
use Rattle.std.proofs.lemmas.List.Elements.{Contains-append_left, Contains-append_right, Contains-append_cases, Contains-push, Contains-push_cases, filter-append, filter_map-append}
use Rattle.cg_types.specs.Equality.{same_by, same_by-Decides}
use Rattle.cg_messages.specs.declared.message.Message.{Message}
use Rattle.cg_messages.specs.MessageCode.{message_code}
use Rattle.cg_history.specs.declared.item.Item.{Item}
use Rattle.cg_history.specs.History.{HistoryValue}
use Rattle.cg_audit.specs.Items.{RunItem, LivesValue, generation_of, items_from, items_of_life, items_of_lives, items_at}
use Rattle.cg_audit.specs.OneRun.{messages_of, items_by, WasSent, EachWasSent}
use Rattle.cg_audit.specs.Turns.{is_among, can_go, endpoints_of}

-- ---- lists

pub all_both : {X : Type 0} (P : X → Type 0) (xs ys : List X) → AllByRecursion P xs → AllByRecursion P ys → AllByRecursion P (xs ++ ys)
all_both P [] ys a b = b
all_both P (x ∷ xs) ys a b = (a.0, all_both P xs ys a.1 b)

pub all_last : {X : Type 0} (P : X → Type 0) (xs ys : List X) → AllByRecursion P (xs ++ ys) → AllByRecursion P ys
all_last P [] ys a = a
all_last P (x ∷ xs) ys a = all_last P xs ys a.1

abbrev pub IsIn : ℕ → List ℕ → Type 0
IsIn e [] = ⊥
IsIn e (x ∷ xs) = (x ≡ e) ⊎ IsIn e xs

-- ---- the items of an endpoint are of that endpoint

abbrev pub IsOf : ℕ → RunItem → Type 0
IsOf e i = i.endpoint ≡ e

named_from : (e g n : ℕ) (rs : List Item) → AllByRecursion (IsOf e) (items_from e g n rs)
named_from e g n [] = tt
named_from e g n (r ∷ rs) = (refl, named_from e g (suc n) rs)

named_lives : (e : ℕ) (hs : List HistoryValue) → AllByRecursion (IsOf e) (items_of_lives e hs)
named_lives e [] = tt
named_lives e (h ∷ hs) = all_both (IsOf e) (items_of_life e h) (items_of_lives e hs) (refl, named_from e (generation_of h) 1 h.records) (named_lives e hs)

pub named_at : (ls : List LivesValue) (e : ℕ) → AllByRecursion (IsOf e) (items_at ls e)
named_at [] e = tt
named_at (l ∷ ls) e = by (l.endpoint == e) (named_at ls e)
  where
    by : (b : Bool) → AllByRecursion (IsOf e) (items_at ls e) → AllByRecursion (IsOf e) (cond b (items_of_lives e l.histories) (items_at ls e))
    by true more = named_lives e l.histories
    by false more = more

-- an endpoint has lives, or no items
pub lives_or_none : (ls : List LivesValue) (e : ℕ) → IsIn e (endpoints_of ls) ⊎ (items_at ls e ≡ [])
lives_or_none [] e = inr refl
lives_or_none (l ∷ ls) e = by (l.endpoint == e) refl (lives_or_none ls e)
  where
    by : (b : Bool) → (l.endpoint == e) ≡ b → IsIn e (endpoints_of ls) ⊎ (items_at ls e ≡ []) → IsIn e (endpoints_of (l ∷ ls)) ⊎ (cond b (items_of_lives e l.histories) (items_at ls e) ≡ [])
    by true is more = inl (inl (eqb-true l.endpoint e is))
    by false is (inl there) = inl (inr there)
    by false is (inr none) = inr none

-- ---- messages

first_among : (x : Message) (xs : List Message) → Contains (x ∷ xs) x
first_among x xs = Contains-append_left (x ∷ []) xs x (Contains-push [] x)

pub among_is_in : (xs : List Message) (m : Message) → is_among xs m ≡ true → Contains xs m
among_is_in [] m e = absurd cc
among_is_in (x ∷ xs) m e = by (same_by message_code x m) refl e (among_is_in xs m)
  where
    by : (b : Bool) → same_by message_code x m ≡ b → (b || is_among xs m) ≡ true → (is_among xs m ≡ true → Contains xs m) → Contains (x ∷ xs) m
    by true is e more = subst (Contains (x ∷ xs)) ((same_by-Decides message_code x m).0 is) (first_among x xs)
    by false is e more = Contains-append_right (x ∷ []) xs m (more e)

nothing_in : (m : Message) → Contains [] m → ⊥
nothing_in m c = let none = c.1 in absurd (omega (arith, none))

pub in_is_among : (xs : List Message) (m : Message) → Contains xs m → is_among xs m ≡ true
in_is_among [] m c = absurd (nothing_in m c)
in_is_among (x ∷ xs) m c = by (Contains-append_cases (x ∷ []) xs m c) (in_is_among xs m)
  where
    here : x ≡ m → is_among (x ∷ xs) m ≡ true
    here e = rw ((same_by-Decides message_code x m).1 e) refl

    there : (b : Bool) → is_among xs m ≡ true → (b || is_among xs m) ≡ true
    there true e = refl
    there false e = e

    one : Contains [] m ⊎ (x ≡ m) → is_among (x ∷ xs) m ≡ true
    one (inl none) = absurd (nothing_in m none)
    one (inr e) = here e

    by : Contains (x ∷ []) m ⊎ Contains xs m → (Contains xs m → is_among xs m ≡ true) → is_among (x ∷ xs) m ≡ true
    by (inl c) more = one (Contains-push_cases [] x m c)
    by (inr c) more = there (same_by message_code x m) (more c)

pub going_was_sent : (gone : List RunItem) (m : Option Message) → can_go gone m ≡ true → WasSent gone m
going_was_sent gone None e = tt
going_was_sent gone (Some m) e = among_is_in (messages_of gone) m e

pub sent_can_go : (gone : List RunItem) (m : Option Message) → WasSent gone m → can_go gone m ≡ true
sent_can_go gone None s = refl
sent_can_go gone (Some m) s = in_is_among (messages_of gone) m s

pub messages_both : (xs ys : List RunItem) → messages_of (xs ++ ys) ≡ messages_of xs ++ messages_of ys
messages_both xs ys = filter_map-append (λ (i : RunItem). i.sent) xs ys

pub items_both : (e : ℕ) (xs ys : List RunItem) → items_by e (xs ++ ys) ≡ items_by e xs ++ items_by e ys
items_both e xs ys = filter-append (λ (i : RunItem). i.endpoint == e) xs ys

-- one more item, which handles a message that was sent
pub sent_more : (before xs : List RunItem) (i : RunItem) → EachWasSent before xs → WasSent (before ++ xs) i.handled → EachWasSent before (xs ++ i ∷ [])
sent_more before [] i all one = (subst (λ l. WasSent l i.handled) (append-nil before) one, tt)
sent_more before (x ∷ xs) i all one =
    (all.0, sent_more (before ++ x ∷ []) xs i all.1 (subst (λ l. WasSent l i.handled) (sym (append_assoc before (x ∷ []) xs)) one))
