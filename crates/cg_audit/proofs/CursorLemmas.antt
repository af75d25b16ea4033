-- Items left of lives, from a cursor on.
use Rattle.std.proofs.Common.{◌≡◌, ℕ, zero, suc, ◌+◌, ◌-◌, ◌≤◌, ◌<◌, List, [], ◌∷◌, ◌++◌, length, map, drop, take, get_or, Option, Some, None, refl, sym, ap, ◌∙◌, subst, arith, slice_get}
use Rattle.std.specs.Option.{option_map, option_to_list, option_and_then}
use Rattle.std.proofs.lemmas.Option.{slice_get-get_or, slice_get_past}
use Rattle.cg_history.specs.declared.item.Item.{Item}
use Rattle.cg_history.specs.History.{HistoryValue}
use Rattle.cg_audit.specs.Items.{RunItem, LivesValue, generation_of, start_item, item_of, items_from, items_of_life, items_of_lives}
use Rattle.cg_audit.specs.Turns as turns
use Rattle.cg_audit.specs.declared.cursor.Cursor.{Cursor}
use Rattle.cg_audit.specs.Track.{Track}
use Rattle.cg_audit.specs.Tracks.{IsHere, first_cursors, item_here, left_at, left_from, track_at, track_of, tracks}
use Rattle.cg_audit.proofs.PlaceLemmas.{drop_at, drop_past}

-- ---- the items of one life

length_items : (e g n : ℕ) (rs : List Item) → length (items_from e g n rs) ≡ length rs
length_items e g n [] = refl
length_items e g n (r ∷ rs) = ap suc (length_items e g (suc n) rs)

item_at : (e g n : ℕ) (rs : List Item) (k : ℕ) → slice_get (items_from e g n rs) k ≡ option_map (item_of e g (n + k)) (slice_get rs k)
item_at e g n [] k = refl
item_at e g n (r ∷ rs) zero = let same : n ≡ n + 0 = omega arith in ap (λ m. Some (item_of e g m r)) same
item_at e g n (r ∷ rs) (suc k) = let same : suc n + k ≡ n + suc k = omega arith in item_at e g (suc n) rs k ∙ ap (λ m. option_map (item_of e g m) (slice_get rs k)) same

pub item_in_life : (e : ℕ) (h : HistoryValue) (number : ℕ) → (number ≡ 0 → ⊥)
    → slice_get (items_of_life e h) number ≡ option_map (item_of e (generation_of h) number) (slice_get h.records (number - 1))
item_in_life e h zero some = absurd (some refl)
item_in_life e h (suc k) some =
    let number : 1 + k ≡ suc k = omega arith in
    let place : k ≡ suc k - 1 = omega arith in
    item_at e (generation_of h) 1 h.records k
    ∙ ap (λ m. option_map (item_of e (generation_of h) m) (slice_get h.records k)) number
    ∙ ap (λ j. option_map (item_of e (generation_of h) (suc k)) (slice_get h.records j)) place

-- ---- items left

left_zero : (e : ℕ) (hs : List HistoryValue) → left_from e hs 0 ≡ items_of_lives e hs
left_zero e [] = refl
left_zero e (h ∷ hs) = refl

pub left_none : (e : ℕ) (hs : List HistoryValue) (c : Cursor) → slice_get hs c.life ≡ None → left_at e hs c ≡ []
left_none e hs c none = ap (λ l. left_from e l c.number) (drop_past hs c.life none)

-- if a life has no item of the number, the next life begins
pub left_past : (e : ℕ) (hs : List HistoryValue) (c : Cursor) (h : HistoryValue) → slice_get hs c.life ≡ Some h → length h.records < c.number
    → left_at e hs (record { life = c.life + 1; number = 0 }) ≡ left_at e hs c
left_past e hs c h at past =
    let one : c.life + 1 ≡ suc c.life = omega arith in
    let long : suc (length (items_from e (generation_of h) 1 h.records)) ≤ c.number = omega (arith, length_items e (generation_of h) 1 h.records, past) in
    left_zero e (drop (c.life + 1) hs) ∙ ap (λ k. items_of_lives e (drop k hs)) one
    ∙ ap (λ l. l ++ items_of_lives e (drop (suc c.life) hs)) (sym (drop_past (items_of_life e h) c.number (slice_get_past (items_of_life e h) c.number long)))
    ∙ ap (λ l. left_from e l c.number) (sym (drop_at hs c.life h at))

-- the life has an item of the number, which is the next one
pub record HasItem (e : ℕ) (hs : List HistoryValue) (c : Cursor) (h : HistoryValue) : Type 0 where
  pub item : RunItem
  pub at : slice_get (items_of_life e h) c.number ≡ Some item
  pub left : left_at e hs c ≡ item ∷ left_at e hs (record { life = c.life; number = c.number + 1 })

pub has_item : (e : ℕ) (hs : List HistoryValue) (c : Cursor) (h : HistoryValue) → slice_get hs c.life ≡ Some h → c.number ≤ length h.records → HasItem e hs c h
has_item e hs c h at few =
    let items : List RunItem = items_of_life e h in
    let more : List RunItem = items_of_lives e (drop (suc c.life) hs) in
    let one : suc c.number ≡ c.number + 1 = omega arith in
    let long : c.number < length items = omega (arith, length_items e (generation_of h) 1 h.records, few) in
    let item : RunItem = get_or items c.number (start_item e (generation_of h)) in
    let there : slice_get items c.number ≡ Some item = slice_get-get_or items c.number (start_item e (generation_of h)) long in
    record {
      item = item;
      at = there;
      left = ap (λ l. left_from e l c.number) (drop_at hs c.life h at)
          ∙ ap (λ l. l ++ more) (drop_at items c.number item there)
          ∙ ap (λ n. item ∷ (drop n items ++ more)) one
          ∙ ap (λ l. item ∷ left_from e l (c.number + 1)) (sym (drop_at hs c.life h at));
    }

pub first_here : (e : ℕ) (hs : List HistoryValue) (c : Cursor) → IsHere hs c → option_to_list (item_here e hs c) ≡ turns.first (left_at e hs c)
first_here e hs c here = by (slice_get hs c.life) refl
  where
    by : (o : Option HistoryValue) → slice_get hs c.life ≡ o → option_to_list (item_here e hs c) ≡ turns.first (left_at e hs c)
    by None is =
        ap (λ o. option_to_list (option_and_then (λ (h : HistoryValue). slice_get (items_of_life e h) c.number) o)) is
        ∙ ap turns.first (sym (left_none e hs c is))
    by (Some h) is =
        let one = has_item e hs c h is (here h is) in
        ap (λ o. option_to_list (option_and_then (λ (k : HistoryValue). slice_get (items_of_life e k) c.number) o)) is
        ∙ ap option_to_list one.at ∙ ap turns.first (sym one.left)

-- ---- all tracks

pub tracks_at_start : (ls : List LivesValue) → tracks ls (first_cursors ls) ≡ map track_of ls
tracks_at_start [] = refl
tracks_at_start (l ∷ ls) =
    ap (λ is. record { endpoint = l.endpoint; left = is } ∷ tracks ls (first_cursors ls)) (left_zero l.endpoint l.histories)
    ∙ ap (λ ts. track_of l ∷ ts) (tracks_at_start ls)

pub cursors_more : (ls : List LivesValue) (k : ℕ) → k < length ls → first_cursors (take (suc k) ls) ≡ first_cursors (take k ls) ++ record { life = 0; number = 0 } ∷ []
cursors_more [] k few = absurd (omega (arith, few))
cursors_more (l ∷ ls) zero few = refl
cursors_more (l ∷ ls) (suc k) few = let fewer : k < length ls = omega (arith, few) in ap (λ cs. record { life = 0; number = 0 } ∷ cs) (cursors_more ls k fewer)
