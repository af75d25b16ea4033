-- The gaps that a window keeps, and shows after one more arrival.
use Rattle.std.proofs.Common.{◌≡◌, ℕ, zero, suc, ◌+◌, ◌-◌, ◌*◌, ◌≤◌, min, Bool, true, false, cond, List, [], ◌∷◌, ◌++◌, length, drop, take, sum, Option, Some, None, All, refl, sym, ap, arith, length-append, append_assoc, ◌∙◌}
use Rattle.std.specs.Prelude.{filter}
use Rattle.std.proofs.lemmas.List.{append-nil, drop-append-le, drop-drop, length-drop}
use Rattle.std.proofs.lemmas.List.Elements.{filter-append, All-nil, All-cons, All-drop, All-append}
use Rattle.std.proofs.lemmas.List.Sums.{sum_by-le, sum_by-cons, sum_by-append, sum_by-take-drop}
use Rattle.std.proofs.lemmas.Nat.{mul-le}
use Rattle.circular_buffer.specs.Buffer.{keep_last}
use Rattle.cg_silence.specs.declared.limits.TheConstants.{WINDOW_LIMIT, GAP_LIMIT}
use Rattle.cg_silence.specs.declared.tail.TheConstants.{TAIL_ROOM, RECENT_ROOM}
use Rattle.cg_silence.specs.Values.{SilenceValue, IsSilence, Shown, WindowValue, IsWindow, IsPast, IsSharedWindow}
use Rattle.cg_silence.specs.Silence.{gap, latest, greatest_arrival, gaps_of, is_recorded, window_of_all, after_arrival, Shows}

-- the last of a list's last, with others after them
keep_last-front : (n : ℕ) (xs ys : List ℕ) → keep_last n (keep_last n xs ++ ys) ≡ keep_last n (xs ++ ys)
keep_last-front n xs ys =
    let k = length xs - n in
    rw (length-append xs ys, ← drop-append-le k xs ys (omega arith), drop-drop, length-drop, length-append) (ap (λ (m : ℕ). drop m (xs ++ ys)) (omega arith))

keep_last-push : (n : ℕ) (xs : List ℕ) (x : ℕ) → keep_last n (keep_last n xs ++ x ∷ []) ≡ keep_last n (xs ++ x ∷ [])
keep_last-push n xs x = keep_last-front n xs (x ∷ [])

gaps_of-push : (s : SilenceValue) (before : Option ℕ) (arrivals : List ℕ) (now : ℕ) → gaps_of s before (arrivals ++ now ∷ []) ≡ gaps_of s before arrivals ++ gap s (greatest_arrival before arrivals) now ∷ []
gaps_of-push s before [] now = refl
gaps_of-push s before (a ∷ arrivals) now = ap (λ (gs : List ℕ). gap s before a ∷ gs) (gaps_of-push s (Some (latest before a)) arrivals now)

greatest_arrival-push : (before : Option ℕ) (arrivals : List ℕ) (now : ℕ) → greatest_arrival before (arrivals ++ now ∷ []) ≡ Some (latest (greatest_arrival before arrivals) now)
greatest_arrival-push before [] now = refl
greatest_arrival-push before (a ∷ arrivals) now = greatest_arrival-push (Some (latest before a)) arrivals now

abbrev one_where : Bool → ℕ → List ℕ
one_where b g = cond b (g ∷ []) []

recorded-push : (b : Bool) (n : ℕ) (xs : List ℕ) (g : ℕ) → keep_last n (xs ++ one_where b g) ≡ cond b (keep_last n (keep_last n xs ++ g ∷ [])) (keep_last n xs)
recorded-push true n xs g = sym (keep_last-push n xs g)
recorded-push false n xs g = ap (keep_last n) (append-nil xs)

-- one more arrival, by the definition
pub shown-push : (s : SilenceValue) (arrivals : List ℕ) (now : ℕ) → window_of_all s (arrivals ++ now ∷ []) ≡ after_arrival s (Some (window_of_all s arrivals)) now
shown-push s arrivals now =
    rw (gaps_of-push s None arrivals now, greatest_arrival-push None arrivals now, filter-append (is_recorded s) (gaps_of s None arrivals) (gap s (greatest_arrival None arrivals) now ∷ []))
    (ap (λ (gaps : List ℕ). let w : Shown = record { gaps = gaps; last = Some (latest (greatest_arrival None arrivals) now) } in w) (recorded-push (is_recorded s (gap s (greatest_arrival None arrivals) now)) s.window (filter (is_recorded s) (gaps_of s None arrivals)) (gap s (greatest_arrival None arrivals) now)))

-- a window that has heard of one more arrival shows it too
pub Shows-heard : (w v : WindowValue) (now : ℕ) → v ≡ record w { shown = after_arrival w.silence (Some w.shown) now } → (arrivals : List ℕ) → Shows w arrivals → Shows v (arrivals ++ now ∷ [])
Shows-heard w v now step arrivals is = rw step (rw is (sym (shown-push w.silence arrivals now)))

-- The sum of a few gaps is far below 2 ^ 64.
few_summed : (s : SilenceValue) (most : ℕ) (gaps : List ℕ) → IsSilence s → length gaps ≤ most → All (λ g. g ≤ s.max_gap) gaps → sum gaps ≤ most * GAP_LIMIT
few_summed s most gaps settings few small =
    let each = sum_by-le (λ x. x) s.max_gap gaps small in
    let within = mul-le (length gaps) s.max_gap most GAP_LIMIT few settings.max_within in
    omega (arith, each, within)

pub total-kept : (s : SilenceValue) (gaps : List ℕ) (capacity total : ℕ) → IsWindow s gaps capacity total → total ≤ WINDOW_LIMIT * GAP_LIMIT
total-kept s gaps capacity total w = rw w.summed (few_summed s WINDOW_LIMIT gaps w.settings (let most = w.settings.few_gaps in let few = w.few in omega arith) w.small)

few_kept : (n : ℕ) (xs : List ℕ) → length (keep_last n xs) ≤ n
few_kept n xs = rw (length-drop (length xs - n) xs) (omega arith)

small_kept : (most n : ℕ) (xs : List ℕ) → All (λ g. g ≤ most) xs → All (λ g. g ≤ most) (keep_last n xs)
small_kept most n xs small = All-drop (λ g. g ≤ most) (length xs - n) xs small

small_more : (most : ℕ) (xs : List ℕ) (g : ℕ) → All (λ x. x ≤ most) xs → g ≤ most → All (λ x. x ≤ most) (xs ++ g ∷ [])
small_more most xs g small here = All-append (λ x. x ≤ most) xs (g ∷ []) small (All-cons (λ x. x ≤ most) g [] here (All-nil (λ x. x ≤ most)))

pub few_past : (s : SilenceValue) (past tail : List ℕ) (total : ℕ) → IsSharedWindow s past tail total → length past ≤ WINDOW_LIMIT
few_past s past tail total w = let few = w.few in let most = w.settings.few_gaps in omega arith

pub total-shared : (s : SilenceValue) (past tail : List ℕ) (total : ℕ) → IsSharedWindow s past tail total → length tail ≤ TAIL_ROOM → total ≤ (WINDOW_LIMIT + TAIL_ROOM) * GAP_LIMIT
total-shared s past tail total w short =
    let few = few_past s past tail total w in
    rw w.summed (few_summed s (WINDOW_LIMIT + TAIL_ROOM) (past ++ tail) w.settings (omega (arith, length-append past tail)) w.small)

-- a ring with one more gap is the one that a window keeps
pub keeps_gap : (s : SilenceValue) (gaps : List ℕ) (capacity total : ℕ) (g : ℕ) → IsWindow s gaps capacity total → g ≤ s.max_gap → IsWindow s (keep_last capacity (gaps ++ g ∷ [])) capacity (sum (keep_last capacity (gaps ++ g ∷ [])))
keeps_gap s gaps capacity total g w small = record {
  settings = w.settings;
  room = w.room;
  few = let kept = few_kept capacity (gaps ++ g ∷ []) in let r = w.room in omega arith;
  small = small_kept s.max_gap capacity (gaps ++ g ∷ []) (small_more s.max_gap gaps g w.small small);
  summed = refl;
}

-- two lists with some of the first left out, or all of it and some of the second
pub drop_of_two : (past tail : List ℕ) (from : ℕ) → drop (min from (length past)) past ++ drop (from - min from (length past)) tail ≡ drop from (past ++ tail)
drop_of_two [] tail from =
    let none : min from 0 ≡ 0 = omega arith in
    let all : from - min from 0 ≡ from = omega arith in
    rw (all, none) refl
drop_of_two (x ∷ past) tail zero =
    let none : min 0 (suc (length past)) ≡ 0 = omega arith in
    rw none refl
drop_of_two (x ∷ past) tail (suc from) =
    let first : min (suc from) (suc (length past)) ≡ suc (min from (length past)) = omega arith in
    let rest : suc from - suc (min from (length past)) ≡ from - min from (length past) = omega arith in
    rw (first, rest) (drop_of_two past tail from)

-- the last of two lists, of which the second may begin later
keep_last-back : (n : ℕ) (xs ys : List ℕ) → keep_last n (xs ++ keep_last n ys) ≡ keep_last n (xs ++ ys)
keep_last-back n xs ys =
    let k = length ys - n in
    let short = length xs + length (drop k ys) - n in
    let long = length xs + length ys - n in
    let same : min short (length xs) ≡ min long (length xs) = omega (arith, length-drop k ys) in
    let rest : k + (short - min short (length xs)) ≡ long - min long (length xs) = omega (arith, length-drop k ys) in
    rw (length-append xs ys, length-append xs (drop k ys), ← drop_of_two xs ys long, ← drop_of_two xs (drop k ys) short, drop-drop, rest, same) refl

-- a list's last, where it has room for all
keep_last_within : (n room : ℕ) (xs : List ℕ) → length xs ≤ room → keep_last (min n room) xs ≡ keep_last n xs
keep_last_within n room xs fits = ap (λ (k : ℕ). drop k xs) (omega arith)

-- shared gaps with a tail behind the recent ones, or with all in the long list
pub recent_more : (n : ℕ) (long recent tail : List ℕ) → IsPast n long recent → length tail ≤ TAIL_ROOM
    → keep_last n (long ++ keep_last (min n RECENT_ROOM) (recent ++ tail)) ≡ keep_last n (keep_last n (long ++ recent) ++ tail)
recent_more n long recent tail p short =
    let fits : length (recent ++ tail) ≤ RECENT_ROOM = let room = p.room in omega (arith, length-append recent tail) in
    rw (keep_last_within n RECENT_ROOM (recent ++ tail) fits, keep_last-back n long (recent ++ tail), ← append_assoc long recent tail) (sym (keep_last-front n (long ++ recent) tail))

pub all_joined : (n : ℕ) (long recent tail : List ℕ) → IsPast n long recent → length tail ≤ TAIL_ROOM
    → keep_last n (keep_last n (long ++ keep_last (min n RECENT_ROOM) (recent ++ tail)) ++ []) ≡ keep_last n (keep_last n (long ++ recent) ++ tail)
all_joined n long recent tail p short =
    let more = long ++ keep_last (min n RECENT_ROOM) (recent ++ tail) in
    rw (keep_last-front n more [], append-nil more) (recent_more n long recent tail p short)

-- the first of two lists
take_of_two : (k : ℕ) (xs ys : List ℕ) → take k xs ++ take (k - length xs) ys ≡ take k (xs ++ ys)
take_of_two zero [] ys = refl
take_of_two (suc k) [] ys =
    let all : suc k - 0 ≡ suc k = omega arith in
    rw all refl
take_of_two zero (x ∷ xs) ys =
    let none : 0 - suc (length xs) ≡ 0 = omega arith in
    rw none refl
take_of_two (suc k) (x ∷ xs) ys =
    let rest : suc k - suc (length xs) ≡ k - length xs = omega arith in
    rw rest (ap (λ (zs : List ℕ). x ∷ zs) (take_of_two k xs ys))

sum_of_two : (k : ℕ) (xs ys : List ℕ) → sum (take k xs) + sum (take (k - length xs) ys) ≡ sum (take k (xs ++ ys))
sum_of_two k xs ys = rw (← take_of_two k xs ys) (sym (sum_by-append (λ x. x) (take k xs) (take (k - length xs) ys)))

-- the sum of the first of three lists
pub sum_of_three : (k : ℕ) (xs ys zs : List ℕ) → sum (take k xs) + sum (take (k - length xs) ys) + sum (take (k - length xs - length ys) zs) ≡ sum (take k ((xs ++ ys) ++ zs))
sum_of_three k xs ys zs =
    let rest : k - length xs - length ys ≡ k - length (xs ++ ys) = omega (arith, length-append xs ys) in
    rw (rest, sum_of_two k xs ys) (sum_of_two k (xs ++ ys) zs)

-- the sum of the last of three lists, which together are xs
pub sum_kept : (n total left skipped : ℕ) (long recent tail xs : List ℕ) → (long ++ recent) ++ tail ≡ xs → left ≡ length long + length recent + length tail - n
    → skipped ≡ sum (take left ((long ++ recent) ++ tail)) → total ≡ sum xs → total - skipped ≡ sum (keep_last n xs)
sum_kept n total left skipped long recent tail xs is count first all =
    let at : length xs - n ≡ left = omega (arith, ap (λ (ys : List ℕ). length ys) is, length-append (long ++ recent) tail, length-append long recent) in
    let parted : sum (take left xs) + sum (drop left xs) ≡ sum xs = sum_by-take-drop (λ x. x) xs left in
    let those : skipped ≡ sum (take left xs) = first ∙ ap (λ (ys : List ℕ). sum (take left ys)) is in
    rw at (omega arith)

-- it is far below 2 ^ 64
pub small_sum : (s : SilenceValue) (past tail : List ℕ) (total : ℕ) → IsSharedWindow s past tail total → sum (keep_last s.window (past ++ tail)) ≤ WINDOW_LIMIT * GAP_LIMIT
small_sum s past tail total w =
    let few : length (keep_last s.window (past ++ tail)) ≤ WINDOW_LIMIT = let most = w.settings.few_gaps in omega (arith, few_kept s.window (past ++ tail)) in
    few_summed s WINDOW_LIMIT (keep_last s.window (past ++ tail)) w.settings few (small_kept s.max_gap s.window (past ++ tail) w.small)

-- a shared window with one more gap behind the last few, or with all gaps in one list and this one behind them
pub shared_more : (s : SilenceValue) (past tail : List ℕ) (total g : ℕ) → IsSharedWindow s past tail total → g ≤ s.max_gap → IsSharedWindow s past (tail ++ g ∷ []) (total + g)
shared_more s past tail total g w small = record {
  settings = w.settings;
  few = w.few;
  small = rw (← append_assoc past tail (g ∷ [])) (small_more s.max_gap (past ++ tail) g w.small small);
  summed = rw (← append_assoc past tail (g ∷ []), w.summed) (omega (arith, sum_by-append (λ x. x) (past ++ tail) (g ∷ []), sum_by-cons (λ x. x) g []));
}

pub shared_joined : (s : SilenceValue) (past tail : List ℕ) (total g kept : ℕ) → IsSharedWindow s past tail total → g ≤ s.max_gap → kept ≡ sum (keep_last s.window (past ++ tail)) → IsSharedWindow s (keep_last s.window (past ++ tail)) (g ∷ []) (kept + g)
shared_joined s past tail total g kept w small is = record {
  settings = w.settings;
  few = few_kept s.window (past ++ tail);
  small = small_more s.max_gap (keep_last s.window (past ++ tail)) g (small_kept s.max_gap s.window (past ++ tail) w.small) small;
  summed = rw is (omega (arith, sum_by-append (λ x. x) (keep_last s.window (past ++ tail)) (g ∷ []), sum_by-cons (λ x. x) g []));
}

-- the gaps that it then shows
pub shown_more : (n : ℕ) (past tail : List ℕ) (g : ℕ) → keep_last n (past ++ (tail ++ g ∷ [])) ≡ keep_last n (keep_last n (past ++ tail) ++ g ∷ [])
shown_more n past tail g = rw (← append_assoc past tail (g ∷ [])) (sym (keep_last-push n (past ++ tail) g))
