-- Windows, and the gaps and arrivals that they show.
use Rattle.std.proofs.Common.{◌≡◌, ℕ, Bool, true, false, cond, List, [], ◌∷◌, map, Option, Some, None, refl, sym, ap, subst, ◌∙◌}
use Rattle.std.specs.List.{filter_map, cons_option}
use Rattle.std.specs.Option.{option_map}
use Rattle.std.specs.Ordering.{nat_cmp, eq_by_cmp}
use Rattle.std.specs.Cmp.{nat_cmp_total}
use Rattle.std.specs.FinMap.{FinMap, get, insert, empty, entries, entries_sorted, get-entries, get-insert, get-empty, same_map, nat_cmp-IsAntisymmetric}
use Rattle.cg_types.specs.Rising.{is_past, rise_past, Rises}
use Rattle.cg_types.proofs.RisingLemmas.{rise_sorted, rise_mapped, get_rising, first_of, second_of}
use Rattle.cg_types.specs.Rows.{keys_of}
use Rattle.cg_types.specs.Map.{put_each}
use Rattle.cg_types.proofs.PastLemmas.{AgreePast, still_agree, agree_later}
use Rattle.cg_entry.proofs.KeyLemmas.{find-map}
use Rattle.cg_messages.specs.declared.outcome.Outcome.{Outcome}
use Rattle.cg_messages.specs.Members.{endpoints_of_outcomes}
use Rattle.cg_silence.specs.Values.{SilenceValue, Shown, WindowValue}
use Rattle.cg_silence.specs.Silence.{after_arrival, verdict}
use Rattle.cg_silence.specs.declared.verdict.Verdict.{Verdict}
use Rattle.cg_silence.specs.declared.verdict.Verdict.TheVariants.{Unheard}
use Rattle.cg_silence.specs.Windows.{Heard, was_taken, with_arrival, arrivals, shown_in, AllJudge, WindowsValue, window_after, arrival, verdict_by, last_arrival}

abbrev Kept : Type 0
Kept = FinMap nat_cmp WindowValue

mapped_keys : (es : List (ℕ × WindowValue)) → keys_of (map (λ w. (w.0, w.1.shown)) es) ≡ keys_of es
mapped_keys [] = refl
mapped_keys (e ∷ es) = ap (λ (ks : List ℕ). e.0 ∷ ks) (mapped_keys es)

pub get-shown_in : (m : Kept) (q : ℕ) → get (shown_in m) q ≡ option_map (λ w. w.shown) (get m q)
get-shown_in m q =
    let es = map (λ (w : ℕ × WindowValue). (w.0, w.1.shown)) (entries m) in
    let rise : Rises (keys_of es) = rw (mapped_keys (entries m)) (rise_sorted (entries m) (entries_sorted m)) in
    get_rising es q rise ∙ find-map (λ (w : WindowValue). w.shown) q (entries m) ∙ ap (option_map (λ (w : WindowValue). w.shown)) (sym (get-entries m q))

same_heard : (m n : Heard) → ((q : ℕ) → get m q ≡ get n q) → m ≡ n
same_heard m n same = same_map nat_cmp_total nat_cmp-IsAntisymmetric m n same

pub shown-empty : shown_in empty ≡ empty
shown-empty = same_heard (shown_in empty) empty (λ q. get-shown_in empty q ∙ ap (option_map (λ (w : WindowValue). w.shown)) (get-empty nat_cmp q) ∙ sym (get-empty nat_cmp q))

shown_by : (b : Bool) (w : WindowValue) (o : Option WindowValue) → option_map (λ w. w.shown) (cond b (Some w) o) ≡ cond b (Some w.shown) (option_map (λ w. w.shown) o)
shown_by true w o = refl
shown_by false w o = refl

shown-insert : (m : Kept) (k : ℕ) (w : WindowValue) → shown_in (insert m k w) ≡ insert (shown_in m) k w.shown
shown-insert m k w = same_heard (shown_in (insert m k w)) (insert (shown_in m) k w.shown) (λ q.
    get-shown_in (insert m k w) q ∙ ap (option_map (λ (w : WindowValue). w.shown)) (get-insert nat_cmp_total m k w q) ∙ shown_by (eq_by_cmp nat_cmp q k) w (get m q)
    ∙ ap (cond (eq_by_cmp nat_cmp q k) (Some w.shown)) (sym (get-shown_in m q)) ∙ sym (get-insert nat_cmp_total (shown_in m) k w.shown q))

-- ---- all judge by the same settings

pub none_judge : (s : SilenceValue) → AllJudge s empty
none_judge s = record { same = λ q w is. absurd (let none = get-empty {X = WindowValue} nat_cmp q in cc) }

judge_by : (s : SilenceValue) (b : Bool) (w v : WindowValue) (o : Option WindowValue) → w.silence ≡ s → (o ≡ Some v → v.silence ≡ s) → cond b (Some w) o ≡ Some v → v.silence ≡ s
judge_by s true w v o here rest is = let same : w ≡ v = cc in ap (λ (w : WindowValue). w.silence) (sym same) ∙ here
judge_by s false w v o here rest is = rest is

judge-insert : (s : SilenceValue) (m : Kept) (k : ℕ) (w : WindowValue) → AllJudge s m → w.silence ≡ s → AllJudge s (insert m k w)
judge-insert s m k w all here = record {
  same = λ q v is. judge_by s (eq_by_cmp nat_cmp q k) w v (get m q) here (all.same q v) (sym (get-insert nat_cmp_total m k w q) ∙ is);
}

-- ---- the arrivals of a message

-- Outcomes applied to these windows one after the other change them as each outcome changes w.
record AreHeardAtOnce (w : WindowsValue) (now : ℕ) (m : Kept) (os : List Outcome) : Type 0 where
  shown : shown_in (put_each (filter_map (arrival w now) os) m) ≡ arrivals w.silence now (shown_in m) os
  judge : AllJudge w.silence (put_each (filter_map (arrival w now) os) m)

module _ (w : WindowsValue) (now : ℕ) where
  -- past an endpoint the windows show what w shows
  abbrev ShownPast : Option ℕ → Kept → Type 0
  ShownPast last m = AgreePast w.shown last (shown_in m)

  still_shown : (m : Kept) (e : ℕ) (v : WindowValue) → ShownPast (Some e) m → ShownPast (Some e) (insert m e v)
  still_shown m e v same = rw (shown-insert m e v) (still_agree w.shown (shown_in m) e v.shown same)

  AreHeardWith : Kept → Outcome → List Outcome → Bool → Type 0
  AreHeardWith m o os b =
      (shown_in (put_each (cons_option (cond b (Some (o.endpoint, window_after w now o.endpoint)) None) (filter_map (arrival w now) os)) m) ≡ arrivals w.silence now (cond b (with_arrival w.silence now (shown_in m) o.endpoint) (shown_in m)) os)
      × AllJudge w.silence (put_each (cons_option (cond b (Some (o.endpoint, window_after w now o.endpoint)) None) (filter_map (arrival w now) os)) m)

  step : (m : Kept) (o : Outcome) (os : List Outcome) (b : Bool) → ShownPast (Some o.endpoint) m → get (shown_in m) o.endpoint ≡ get w.shown o.endpoint → AllJudge w.silence m
      → ((n : Kept) → ShownPast (Some o.endpoint) n → AllJudge w.silence n → AreHeardAtOnce w now n os) → AreHeardWith m o os b
  unfolding AreHeardWith
  step m o os true same here judge rest =
      let v = window_after w now o.endpoint in
      let r = rest (insert m o.endpoint v) (still_shown m o.endpoint v same) (judge-insert w.silence m o.endpoint v judge refl) in
      let one : shown_in (insert m o.endpoint v) ≡ with_arrival w.silence now (shown_in m) o.endpoint = shown-insert m o.endpoint v ∙ ap (λ (h : Option Shown). insert (shown_in m) o.endpoint (after_arrival w.silence h now)) (sym here) in
      (r.shown ∙ ap (λ (h : Heard). arrivals w.silence now h os) one, r.judge)
  step m o os false same here judge rest = let r = rest m same judge in (r.shown, r.judge)

  heard_past : (m : Kept) (last : Option ℕ) (os : List Outcome) → rise_past last (endpoints_of_outcomes os) ≡ true → ShownPast last m → AllJudge w.silence m → AreHeardAtOnce w now m os
  unfolding AreHeardWith
  heard_past m last [] h same judge = record { shown = refl; judge = judge }
  heard_past m last (o ∷ os) h same judge =
      let here = first_of (is_past last o.endpoint) (rise_past (Some o.endpoint) (endpoints_of_outcomes os)) h in
      let rest = second_of (is_past last o.endpoint) (rise_past (Some o.endpoint) (endpoints_of_outcomes os)) h in
      let s = step m o os (was_taken o.took) (agree_later w.shown (shown_in m) last o.endpoint here same) (same o.endpoint here) judge (λ n agree all. heard_past n (Some o.endpoint) os rest agree all) in
      record { shown = s.0; judge = s.1 }

  -- the arrivals of endpoints that rise, heard one after the other, change the windows as all of them change the first
  -- ones
  pub heard_at_once : (m : Kept) (os : List Outcome) → shown_in m ≡ w.shown → AllJudge w.silence m → Rises (endpoints_of_outcomes os)
      → (shown_in (put_each (filter_map (arrival w now) os) m) ≡ arrivals w.silence now w.shown os) × AllJudge w.silence (put_each (filter_map (arrival w now) os) m)
  heard_at_once m os is judge rise =
      let r = heard_past m None os rise (λ k p. ap (λ (h : Heard). get h k) is) judge in
      (r.shown ∙ ap (λ (h : Heard). arrivals w.silence now h os) is, r.judge)

  row_key_by : (b : Bool) (e : ℕ) (v : WindowValue) (r : ℕ × WindowValue) → cond b (Some (e, v)) None ≡ Some r → r.0 ≡ e
  row_key_by true e v r is = let same : (e, v) ≡ r = cc in ap (λ (r : ℕ × WindowValue). r.0) (sym same)
  row_key_by false e v r is = absurd cc

  -- the rows that they change rise, as they do
  pub arrivals_rise : (os : List Outcome) → Rises (endpoints_of_outcomes os) → Rises (keys_of (filter_map (arrival w now) os))
  arrivals_rise os rise = rise_mapped (arrival w now) (λ o. o.endpoint) (λ r. r.0) (λ o r is. row_key_by (was_taken o.took) o.endpoint (window_after w now o.endpoint) r is) None os rise

-- ---- verdicts

module _ (w : WindowsValue) (s : SilenceValue) (m : Kept) (is : ◌≡◌ {A = WindowsValue} (record { silence = s; shown = shown_in m }) w) (endpoint now : ℕ) where
  abbrev VerdictIs : Verdict → WindowsValue → Type 0
  VerdictIs v w = v ≡ verdict_by w.silence (get w.shown endpoint) now

  -- an endpoint's window, of those that are kept, gives the verdict
  pub verdict_held : AllJudge s m → (v : WindowValue) → Some v ≡ get m endpoint → VerdictIs (verdict v.silence v.shown now) w
  verdict_held all v here =
      let shows : Some v.shown ≡ get (shown_in m) endpoint = ap (option_map (λ (w : WindowValue). w.shown)) here ∙ sym (get-shown_in m endpoint) in
      subst (VerdictIs (verdict v.silence v.shown now)) is (ap (λ (t : SilenceValue). verdict t v.shown now) (all.same endpoint v (sym here)) ∙ ap (λ (o : Option Shown). verdict_by s o now) shows)

  pub verdict_none : None ≡ get m endpoint → VerdictIs Unheard w
  verdict_none here =
      let shows : None ≡ get (shown_in m) endpoint = ap (option_map (λ (w : WindowValue). w.shown)) here ∙ sym (get-shown_in m endpoint) in
      subst (VerdictIs Unheard) is (ap (λ (o : Option Shown). verdict_by s o now) shows)

-- ---- last arrivals

module _ (w : WindowsValue) (s : SilenceValue) (m : Kept) (is : ◌≡◌ {A = WindowsValue} (record { silence = s; shown = shown_in m }) w) (endpoint : ℕ) where
  abbrev LastIs : Option ℕ → WindowsValue → Type 0
  LastIs last w = last ≡ last_arrival (get w.shown endpoint)

  -- an endpoint's window, of those that are kept, gives its last arrival
  pub last_held : (v : WindowValue) → Some v ≡ get m endpoint → LastIs v.shown.last w
  last_held v here =
      let shows : Some v.shown ≡ get (shown_in m) endpoint = ap (option_map (λ (w : WindowValue). w.shown)) here ∙ sym (get-shown_in m endpoint) in
      subst (LastIs v.shown.last) is (ap last_arrival shows)

  pub last_none : None ≡ get m endpoint → LastIs None w
  last_none here =
      let shows : None ≡ get (shown_in m) endpoint = ap (option_map (λ (w : WindowValue). w.shown)) here ∙ sym (get-shown_in m endpoint) in
      subst (LastIs None) is (ap last_arrival shows)

-- ---- windows in the form that the code has them

module _ (w : WindowsValue) (s : SilenceValue) (m : Kept) (is : ◌≡◌ {A = WindowsValue} (record { silence = s; shown = shown_in m }) w) where
  judges : s ≡ w.silence
  judges = ap (λ (w : WindowsValue). w.silence) is

  module _ (all : AllJudge s m) (now : ℕ) (os : List Outcome) (rise : Rises (endpoints_of_outcomes os)) where
    together : (shown_in (put_each (filter_map (arrival w now) os) m) ≡ arrivals w.silence now w.shown os) × AllJudge w.silence (put_each (filter_map (arrival w now) os) m)
    together = heard_at_once w now m os (ap (λ (w : WindowsValue). w.shown) is) (subst (λ (t : SilenceValue). AllJudge t m) judges all) rise

    pub after_judge : AllJudge s (put_each (filter_map (arrival w now) os) m)
    after_judge = subst (λ (t : SilenceValue). AllJudge t (put_each (filter_map (arrival w now) os) m)) (sym judges) together.1

    pub after_shows : ◌≡◌ {A = WindowsValue} (record { silence = s; shown = shown_in (put_each (filter_map (arrival w now) os) m) }) (record { silence = w.silence; shown = arrivals w.silence now w.shown os })
    after_shows = λ i. record { silence = judges i; shown = together.0 i }

-- ---- in the form that the chunks give

abbrev pub seen_in : SilenceValue → Kept → WindowsValue
seen_in s m = record { silence = s; shown = shown_in m }

abbrev HeardAll : ℕ → List Outcome → WindowsValue → WindowsValue
HeardAll now os w = record { silence = w.silence; shown = arrivals w.silence now w.shown os }

module _ (s : SilenceValue) (m : Kept) (all : AllJudge s m) (now : ℕ) (os : List Outcome) (rise : Rises (endpoints_of_outcomes os)) where
  pub heard_judge : AllJudge s (put_each (filter_map (arrival (seen_in s m) now) os) m)
  heard_judge = after_judge (seen_in s m) s m refl all now os rise

  pub heard_shows : (w : WindowsValue) → seen_in s m ≡ w → seen_in s (put_each (filter_map (arrival (seen_in s m) now) os) m) ≡ HeardAll now os w
  heard_shows w is = after_shows (seen_in s m) s m refl all now os rise ∙ ap (HeardAll now os) is
