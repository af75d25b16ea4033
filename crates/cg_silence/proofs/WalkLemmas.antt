-- Walks over windows and outcomes: over chunks one after the other, and as changes put in a map.
use Rattle.std.proofs.Common.{◌≡◌, ℕ, ◌+◌, ◌<◌, ◌≤◌, Bool, true, false, cond, List, [], ◌∷◌, ◌++◌, length, drop, get_or, set, append_assoc, Option, Some, None, Result, Ok, Err, OnOk, refl, sym, ap, ◌∙◌, arith, nat_lt}
use Rattle.std.specs.Prelude.{◌||◌}
use Rattle.std.specs.List.{filter_map, cons_option, AllByRecursion}
use Rattle.std.specs.Option.{option_map}
use Rattle.std.specs.Ordering.{nat_cmp, eq_by_cmp}
use Rattle.std.specs.FinMap.{FinMap, get, from_sorted}
use Rattle.std.specs.FinMap.Entries.{find}
use Rattle.std.proofs.lemmas.Bool.{ltb-true, ltb-false, lt-ltb, le-ltb}
use Rattle.std.proofs.lemmas.List.{drop_more}
use Rattle.std.proofs.Math.Seq.{set-append_seam}
use Rattle.cg_types.specs.Rising.{is_past, rise_past, Rises}
use Rattle.cg_types.proofs.RisingLemmas.{first_of, second_of, rise_earlier, past_trans, other_key, get_rising}
use Rattle.cg_types.specs.Rows.{keys_of, before, after, walk}
use Rattle.cg_types.proofs.PutLemmas.{UpTo}
use Rattle.cg_messages.specs.Members.{endpoints_of_outcomes}
use Rattle.cg_messages.specs.declared.outcome.Outcome.{Outcome}
use Rattle.cg_silence.specs.Values.{SilenceValue, WindowValue}
use Rattle.cg_silence.specs.Silence.{after_arrival}
use Rattle.cg_silence.specs.Windows.{was_taken, any_taken, shown_in, AllJudge, WindowsValue, window_after, arrival}
use Rattle.cg_silence.specs.Walking.{heard_from, walk_heard, last_key, last_from, ArePart}
use Rattle.cg_silence.proofs.HeardLemmas.{get-shown_in}
use Rattle.cg_silence.proofs.ChunkLemmas.{Rows, find_behind, find_within, reach_first}

-- ---- around an endpoint, in two parts one behind the other

before_behind : (last k : ℕ) (c d : Rows) → UpTo last c → last < k → before k (c ++ d) ≡ c ++ before k d
before_behind last k [] d up lt = refl
before_behind last k (r ∷ rs) d up lt = let less : nat_lt r.0 k ≡ true = lt-ltb r.0 k (omega (arith, up.0, lt)) in rw less (ap (λ (xs : Rows). r ∷ xs) (before_behind last k rs d up.1 lt))

after_behind : (last k : ℕ) (c d : Rows) → UpTo last c → last < k → after k (c ++ d) ≡ after k d
after_behind last k [] d up lt = refl
after_behind last k (r ∷ rs) d up lt = let less : nat_lt k r.0 ≡ false = le-ltb k r.0 (omega (arith, up.0, lt)) in rw less (after_behind last k rs d up.1 lt)

none_before : (last k : ℕ) (d : Rows) → rise_past (Some last) (keys_of d) ≡ true → k ≤ last → before k d ≡ []
none_before last k [] h le = refl
none_before last k (r ∷ rs) h le =
    let lt = first_of (nat_lt last r.0) (rise_past (Some r.0) (keys_of rs)) h in
    let rest = second_of (nat_lt last r.0) (rise_past (Some r.0) (keys_of rs)) h in
    let over : last < r.0 = ltb-true last r.0 lt in
    let past : nat_lt r.0 k ≡ false = le-ltb r.0 k (omega (arith, over, le)) in
    rw past (none_before last k rs (rise_earlier (Some last) r.0 (keys_of rs) lt rest) le)

each_after : (last k : ℕ) (d : Rows) → rise_past (Some last) (keys_of d) ≡ true → k ≤ last → after k d ≡ d
each_after last k [] h le = refl
each_after last k (r ∷ rs) h le =
    let lt = first_of (nat_lt last r.0) (rise_past (Some r.0) (keys_of rs)) h in
    let rest = second_of (nat_lt last r.0) (rise_past (Some r.0) (keys_of rs)) h in
    let over : last < r.0 = ltb-true last r.0 lt in
    let past : nat_lt k r.0 ≡ true = lt-ltb k r.0 (omega (arith, over, le)) in
    rw past (ap (λ (xs : Rows). r ∷ xs) (each_after last k rs (rise_earlier (Some last) r.0 (keys_of rs) lt rest) le))

before_within : (last k : ℕ) (c d : Rows) → rise_past (Some last) (keys_of d) ≡ true → k ≤ last → before k (c ++ d) ≡ before k c
before_within last k [] d h le = none_before last k d h le
before_within last k (r ∷ rs) d h le = ap (λ (xs : Rows). cond (nat_lt r.0 k) (r ∷ xs) xs) (before_within last k rs d h le)

put_behind : (b : Bool) (r : ℕ × WindowValue) (xs d : Rows) → cond b (r ∷ (xs ++ d)) (xs ++ d) ≡ cond b (r ∷ xs) xs ++ d
put_behind true r xs d = refl
put_behind false r xs d = refl

after_within : (last k : ℕ) (c d : Rows) → rise_past (Some last) (keys_of d) ≡ true → k ≤ last → after k (c ++ d) ≡ after k c ++ d
after_within last k [] d h le = each_after last k d h le
after_within last k (r ∷ rs) d h le = ap (λ (xs : Rows). cond (nat_lt k r.0) (r ∷ xs) xs) (after_within last k rs d h le) ∙ put_behind (nat_lt k r.0) r (after k rs) d

up_to_after : (last k : ℕ) (c : Rows) → UpTo last c → UpTo last (after k c)
up_to_after last k [] up = tt
up_to_after last k (r ∷ rs) up = elim (nat_lt k r.0) as (λ b. UpTo last (cond b (r ∷ after k rs) (after k rs))) [
  | true ↦ (up.0, up_to_after last k rs up.1)
  | false ↦ up_to_after last k rs up.1
]

-- a key past another is found behind it
find-after : (e k : ℕ) (rows : Rows) → e < k → find nat_cmp k (after e rows) ≡ find nat_cmp k rows
find-after e k [] lt = refl
find-after e k (r ∷ rs) lt = elim (nat_lt e r.0) as (λ b. nat_lt e r.0 ≡ b → find nat_cmp k (cond b (r ∷ after e rs) (after e rs)) ≡ find nat_cmp k (r ∷ rs)) [
  | true ↦ λ b. ap (λ (o : Option WindowValue). cond (eq_by_cmp nat_cmp k r.0) (Some r.1) o) (find-after e k rs lt)
  | false ↦ λ b.
      let le : r.0 ≤ e = ltb-false e r.0 b in
      let other = other_key r.0 k (lt-ltb r.0 k (omega (arith, le, lt))) in
      rw other (find-after e k rs lt)
] refl

module _ (s : SilenceValue) (now : ℕ) where
  abbrev Walk : List Outcome → Rows → Rows
  Walk os rows = walk_heard s now os rows

  -- what an outcome makes of the rows, if its delta was taken or not
  abbrev Step : Bool → Outcome → List Outcome → Rows → Rows
  Step b o os rows = cond b (before o.endpoint rows ++ (o.endpoint, heard_from s now (find nat_cmp o.endpoint rows)) ∷ Walk os (after o.endpoint rows)) (Walk os rows)

  -- ---- chunk by chunk

  walk_behind : (last : ℕ) (c d : Rows) (os : List Outcome) → UpTo last c → rise_past (Some last) (endpoints_of_outcomes os) ≡ true → Walk os (c ++ d) ≡ c ++ Walk os d
  walk_behind last c d [] up h = refl
  walk_behind last c d (o ∷ os) up h =
      let lt = first_of (nat_lt last o.endpoint) (rise_past (Some o.endpoint) (endpoints_of_outcomes os)) h in
      let rest = second_of (nat_lt last o.endpoint) (rise_past (Some o.endpoint) (endpoints_of_outcomes os)) h in
      let over : last < o.endpoint = ltb-true last o.endpoint lt in
      elim (was_taken o.took) as (λ b. Step b o os (c ++ d) ≡ c ++ Step b o os d) [
        | true ↦
            rw (before_behind last o.endpoint c d up over, find_behind last o.endpoint c d up over, after_behind last o.endpoint c d up over)
            (append_assoc c (before o.endpoint d) ((o.endpoint, heard_from s now (find nat_cmp o.endpoint d)) ∷ Walk os (after o.endpoint d)))
        | false ↦ walk_behind last c d os up (rise_earlier (Some last) o.endpoint (endpoints_of_outcomes os) lt rest)
      ]

  walk_parted : (last : ℕ) (mine later : List Outcome) (c d : Rows) → UpTo last c → rise_past (Some last) (keys_of d) ≡ true → AllByRecursion (λ (o : Outcome). o.endpoint ≤ last) mine → rise_past (Some last) (endpoints_of_outcomes later) ≡ true
      → Walk (mine ++ later) (c ++ d) ≡ Walk mine c ++ Walk later d
  walk_parted last [] later c d up back each h = walk_behind last c d later up h
  walk_parted last (o ∷ os) later c d up back each h =
      elim (was_taken o.took) as (λ b. Step b o (os ++ later) (c ++ d) ≡ Step b o os c ++ Walk later d) [
        | true ↦
            let e = o.endpoint in
            let row : ℕ × WindowValue = (e, heard_from s now (find nat_cmp e c)) in
            rw (before_within last e c d back each.0, find_within last e c d back each.0, after_within last e c d back each.0, walk_parted last os later (after e c) d (up_to_after last e c up) back each.1 h)
            (sym (append_assoc (before e c) (row ∷ Walk os (after e c)) (Walk later d)))
        | false ↦ walk_parted last os later c d up back each.1 h
      ]

  -- a walk over a chunk with its outcomes, and then over the chunks behind it with the others
  pub walk_part : (c d : Rows) (all mine later : List Outcome) → Rises (keys_of (c ++ d)) → ArePart (last_key c) all mine later → Walk all (c ++ d) ≡ Walk mine c ++ Walk later d
  walk_part [] d all mine later h part =
      let same : later ≡ all = sym (ap (λ (os : List Outcome). os ++ later) part.parted) ∙ part.whole in
      ap (λ (os : List Outcome). Walk os d) (sym same) ∙ ap (λ (os : List Outcome). Walk os [] ++ Walk later d) (sym part.parted)
  walk_part (r ∷ rs) d all mine later h part =
      let reached = reach_first r rs d h in
      ap (λ (os : List Outcome). Walk os ((r ∷ rs) ++ d)) (sym part.whole) ∙ walk_parted (last_from r.0 rs) mine later (r ∷ rs) d reached.0 reached.1 part.parted.0 part.parted.1

  -- ---- outcome by outcome

  none_stays : (b : Bool) (o : Outcome) (os : List Outcome) (rows : Rows) → b ≡ false → Step b o os rows ≡ Walk os rows
  none_stays true o os rows not_taken = absurd cc
  none_stays false o os rows not_taken = refl

  pub walk_none : (os : List Outcome) (rows : Rows) → any_taken os ≡ false → Walk os rows ≡ rows
  walk_none [] rows none = refl
  walk_none (o ∷ os) rows none = elim (was_taken o.took) as (λ b. (b || any_taken os) ≡ false → Step b o os rows ≡ rows) [
    | true ↦ λ e. absurd cc
    | false ↦ λ e. walk_none os rows e
  ] none

  pub heard_skip : (os : List Outcome) (i : ℕ) (o : Outcome) (rest : Rows) → i < length os → o ≡ get_or os i o → was_taken o.took ≡ false → Walk (drop (i + 1) os) rest ≡ Walk (drop i os) rest
  heard_skip os i o rest lt is not_taken =
      let here : drop i os ≡ o ∷ drop (i + 1) os = drop_more os i o lt ∙ ap (λ (x : Outcome). x ∷ drop (i + 1) os) (sym is) in
      sym (ap (λ (xs : List Outcome). Walk xs rest) here ∙ none_stays (was_taken o.took) o (drop (i + 1) os) rest not_taken)

  taken_goes : (b : Bool) (o : Outcome) (os : List Outcome) (rows : Rows) → b ≡ true → Step b o os rows ≡ before o.endpoint rows ++ (o.endpoint, heard_from s now (find nat_cmp o.endpoint rows)) ∷ Walk os (after o.endpoint rows)
  taken_goes true o os rows taken = refl
  taken_goes false o os rows taken = absurd cc

  pub heard_step : (made rest front back : Rows) (os : List Outcome) (i : ℕ) (o : Outcome) (held : Option WindowValue) → i < length os → o ≡ get_or os i o → was_taken o.took ≡ true
      → front ≡ before o.endpoint rest → held ≡ find nat_cmp o.endpoint rest → back ≡ after o.endpoint rest
      → ((made ++ front) ++ (o.endpoint, heard_from s now held) ∷ []) ++ Walk (drop (i + 1) os) back ≡ made ++ Walk (drop i os) rest
  heard_step made rest front back os i o held lt is taken in_front has behind =
      let here : drop i os ≡ o ∷ drop (i + 1) os = drop_more os i o lt ∙ ap (λ (x : Outcome). x ∷ drop (i + 1) os) (sym is) in
      let whole : Walk (drop i os) rest ≡ before o.endpoint rest ++ (o.endpoint, heard_from s now (find nat_cmp o.endpoint rest)) ∷ Walk (drop (i + 1) os) (after o.endpoint rest) = ap (λ (xs : List Outcome). Walk xs rest) here ∙ taken_goes (was_taken o.took) o (drop (i + 1) os) rest taken in
      rw (in_front, has, behind, whole)
      (append_assoc (made ++ before o.endpoint rest) ((o.endpoint, heard_from s now (find nat_cmp o.endpoint rest)) ∷ []) (Walk (drop (i + 1) os) (after o.endpoint rest))
      ∙ append_assoc made (before o.endpoint rest) ((o.endpoint, heard_from s now (find nat_cmp o.endpoint rest)) ∷ Walk (drop (i + 1) os) (after o.endpoint rest)))

  -- ---- as changes put in a map

  module _ (w : WindowsValue) where
    -- past an endpoint an arrival makes of these windows what it makes of w
    abbrev HeardPast : Option ℕ → Rows → Type 0
    HeardPast last rows = (k : ℕ) → is_past last k ≡ true → heard_from s now (find nat_cmp k rows) ≡ window_after w now k

    still_heard : (e : ℕ) (last : Option ℕ) (rows : Rows) → is_past last e ≡ true → HeardPast last rows → HeardPast (Some e) (after e rows)
    still_heard e last rows here same k past =
        let over : e < k = ltb-true e k past in
        ap (heard_from s now) (find-after e k rows over) ∙ same k (past_trans last e k here over)

    walk_is : (last : Option ℕ) (os : List Outcome) (rows : Rows) → rise_past last (endpoints_of_outcomes os) ≡ true → HeardPast last rows → Walk os rows ≡ walk (filter_map (arrival w now) os) rows
    walk_is last [] rows h same = refl
    walk_is last (o ∷ os) rows h same =
        let e = o.endpoint in
        let here = first_of (is_past last e) (rise_past (Some e) (endpoints_of_outcomes os)) h in
        let rest = second_of (is_past last e) (rise_past (Some e) (endpoints_of_outcomes os)) h in
        elim (was_taken o.took) as (λ b. Step b o os rows ≡ walk (cons_option (cond b (Some (e, window_after w now e)) None) (filter_map (arrival w now) os)) rows) [
          | true ↦ rw (same e here, walk_is (Some e) os (after e rows) rest (still_heard e last rows here same)) refl
          | false ↦ walk_is last os rows (rise_earlier last e (endpoints_of_outcomes os) here rest) same
        ]

  heard_of : (o : Option WindowValue) (k : ℕ) → ((v : WindowValue) → o ≡ Some v → v.silence ≡ s) → heard_from s now o ≡ record { silence = s; shown = after_arrival s (option_map (λ w. w.shown) o) now }
  heard_of None k judge = refl
  heard_of (Some v) k judge = let same = judge v refl in λ i. record { silence = same i; shown = after_arrival (same i) (Some v.shown) now }

  -- the walk over the rows of a map puts each arrival
  pub walk_puts : (rows : Rows) (m : FinMap nat_cmp WindowValue) (os : List Outcome) → Rises (keys_of rows) → from_sorted {R = nat_cmp} rows ≡ m → AllJudge s m → Rises (endpoints_of_outcomes os)
      → Walk os rows ≡ walk (filter_map (arrival (record { silence = s; shown = shown_in m }) now) os) rows
  walk_puts rows m os valid seen judge rise =
      let w : WindowsValue = record { silence = s; shown = shown_in m } in
      walk_is w None os rows rise (λ k p.
      let found : get m k ≡ find nat_cmp k rows = ap (λ (n : FinMap nat_cmp WindowValue). get n k) (sym seen) ∙ get_rising rows k valid in
      let shows = sym (get-shown_in m k) in
      ap (heard_from s now) (sym found) ∙ heard_of (get m k) k (λ v is. judge.same k v is) ∙ (λ i. record { silence = s; shown = after_arrival s (shows i) now }))

-- the last window, after one more arrival there
pub last_heard : {A E : Type 0} (r : Result A E) (silence : SilenceValue) (now : ℕ) (rows pushed : List (ℕ × WindowValue)) (last k e : ℕ) (v w x after : WindowValue)
    → pushed ≡ rows ++ (e, w) ∷ [] → last ≡ length rows → ◌≡◌ {A = ℕ × WindowValue} (k, v) (e, w) → OnOk r (after ≡ heard_from silence now (Some v)) → heard_from silence now (Some w) ≡ x
    → OnOk r (set pushed last (k, after) ≡ rows ++ (e, x) ∷ [])
last_heard (Ok y) silence now rows pushed last k e v w x after is at same step found =
    (λ i. set (is i) (at i) ((same i).0, after))
    ∙ set-append_seam rows (e, w) [] (e, after)
    ∙ ap (λ (a : WindowValue). rows ++ (e, a) ∷ []) (step ∙ (λ i. heard_from silence now (Some (same i).1)) ∙ found)
last_heard (Err y) silence now rows pushed last k e v w x after is at same step found = tt
