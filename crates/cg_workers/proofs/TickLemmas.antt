-- Turns, one after the other, and the receipts and rounds that they make.
use Rattle.std.proofs.Common.{◌≡◌, ◌+◌, ◌<◌, ◌≤◌, ℕ, zero, suc, List, [], ◌∷◌, ◌++◌, length, refl, sym, ap, ◌∙◌, subst, append_assoc, length-append, arith}
use Rattle.std.specs.Prelude.{Option, Some, None}
use Rattle.std.proofs.lemmas.List.{append-nil}
use Rattle.std.specs.List.{All}
use Rattle.std.proofs.lemmas.List.Elements.{All-nil, All-cons, All-push, All-head, All-tail}
use Rattle.rand_core.specs.Stream.{Stream}
use Rattle.cg_types.specs.declared.fault.Fault.{Fault}
use Rattle.cg_core.specs.declared.event.Event.{Event}
use Rattle.cg_core.specs.declared.reply.Reply.{Reply}
use Rattle.cg_history.specs.declared.item.Receipt.{Receipt}
use Rattle.cg_workers.specs.declared.ends.Putting.{Putting}
use Rattle.cg_workers.specs.Ends.{put_by}
use Rattle.cg_workers.specs.Words.{four_of, words_of_ticks}
use Rattle.cg_workers.specs.declared.ticked.Stop.{Stop}
use Rattle.cg_workers.specs.declared.ticked.Stop.TheVariants as stop
use Rattle.cg_workers.specs.declared.ticked.Ticked.{Ticked}
use Rattle.cg_workers.specs.declared.ticking.Turn.{Turn}
use Rattle.cg_workers.specs.declared.ticking.Turn.TheVariants as turn
use Rattle.cg_workers.specs.Ticks.{IsTick, round_in, words_in, IsPassedOn, MayGoOn, stopped_turn, refusals, HasTicked, IsTurn, AreTurns, HasTurned, Ticks}
use Rattle.cg_workers.specs.TickLaws.{rounds_in, words_of, MakesRounds}

-- ---- words

-- the rest of a stream after a number of ticks
abbrev pub left_after : ℕ → Stream → Stream
left_after zero s = s
left_after (suc n) s = left_after n (four_of s).1

one_more : (n : ℕ) → n + 1 ≡ suc n
one_more n = omega arith

left_next : (n : ℕ) (s : Stream) → left_after (suc n) s ≡ (four_of (left_after n s)).1
left_next zero s = refl
left_next (suc n) s = left_next n (four_of s).1

words_next : (n : ℕ) (s : Stream) → words_of_ticks (suc n) s ≡ words_of_ticks n s ++ (four_of (left_after n s)).0
unfolding words_of_ticks
words_next zero s = append-nil (four_of s).0
words_next (suc n) s = ap (λ ws. (four_of s).0 ++ ws) (words_next n (four_of s).1) ∙ sym (append_assoc (four_of s).0 (words_of_ticks n (four_of s).1) (four_of (left_after n (four_of s).1)).0)

words_first : (n : ℕ) (s : Stream) → words_of_ticks (suc n) s ≡ (four_of s).0 ++ words_of_ticks n (four_of s).1
unfolding words_of_ticks
words_first n s = refl

left_more : (n : ℕ) (s left next : Stream) → left ≡ left_after n s → next ≡ (four_of left).1 → next ≡ left_after (n + 1) s
left_more n s left next so is =
    is ∙ ap (λ (t : Stream). (four_of t).1) so ∙ sym (left_next n s) ∙ ap (λ m. left_after m s) (sym (one_more n))

no_words : (s : Stream) → [] ≡ words_of_ticks 0 s
unfolding words_of_ticks
no_words s = refl

words-push : (qs : List Receipt) (q : Receipt) → words_of (qs ++ q ∷ []) ≡ words_of qs ++ words_in q.event
words-push [] q = append-nil (words_in q.event)
words-push (p ∷ ps) q = ap (λ ws. words_in p.event ++ ws) (words-push ps q) ∙ sym (append_assoc (words_in p.event) (words_of ps) (words_in q.event))

words_with_last : (turns : List Turn) (qs : List Receipt) (q : Receipt) (s : Stream) → words_of qs ≡ words_of_ticks (length qs) s → length qs ≡ length turns
    → words_in q.event ≡ (four_of (left_after (length turns) s)).0 → words_of (qs ++ q ∷ []) ≡ words_of_ticks (length (qs ++ q ∷ [])) s
words_with_last turns qs q s are long its =
    let longer : suc (length qs) ≡ length (qs ++ q ∷ []) = omega (arith, length-append qs (q ∷ [])) in
    words-push qs q ∙ ap (λ ws. ws ++ words_in q.event) are
    ∙ ap (λ ws. words_of_ticks (length qs) s ++ ws) (its ∙ ap (λ m. (four_of (left_after m s)).0) (sym long))
    ∙ sym (words_next (length qs) s) ∙ ap (λ m. words_of_ticks m s) longer

-- ---- refusals

refusals-push : (ts : List Turn) (x : Turn) → refusals (ts ++ x ∷ []) ≡ refusals ts + refusals (x ∷ [])
refusals-push [] x = omega arith
refusals-push (turn.Refused ∷ ts) x = omega (arith, refusals-push ts x)
refusals-push (turn.Put ∷ ts) x = refusals-push ts x
refusals-push (turn.Stopped why ∷ ts) x = refusals-push ts x

at_most_one : (x : Turn) → refusals (x ∷ []) ≤ 1
at_most_one turn.Refused = omega arith
at_most_one turn.Put = omega arith
at_most_one (turn.Stopped why) = omega arith

module _ {S : Type 0} (receipts_of : S → List Receipt) (does : S → Event → Reply → S → Type 0) (refuses : S → Event → Fault → Type 0) (shows : ℕ → Type 0) where
  -- ---- all turns so far

  turn_more : (ts : List Turn) (x : Turn) (words : Stream) (s u t : S × Putting) → AreTurns receipts_of does refuses shows ts words s u
      → IsTurn receipts_of does refuses shows (four_of (left_after (length ts) words)).0 x u t → AreTurns receipts_of does refuses shows (ts ++ x ∷ []) words s t
  turn_more [] x words s u t are is = (t, subst (λ (v : S × Putting). IsTurn receipts_of does refuses shows (four_of words).0 x v t) are is, refl)
  turn_more (y ∷ ys) x words s u t are is = (are.0, are.1, turn_more ys x (four_of words).1 are.0 u t are.2 is)

  module _ (words : Stream) (s : S × Putting) where
    -- `n` turns were made, and none stopped
    pub record SoFar (n refused : ℕ) (left : Stream) (t : S × Putting) : Type 0 where
      pub turns : List Turn
      pub go_on : All MayGoOn turns
      pub made : AreTurns receipts_of does refuses shows turns words s t
      pub long : length turns ≡ n
      pub count : refused ≡ refusals turns
      pub few : refused ≤ n
      pub left_is : left ≡ left_after n words

    pub none_so_far : SoFar 0 0 words s
    none_so_far = record { turns = []; go_on = All-nil MayGoOn; made = refl; long = refl; count = refl; few = omega arith; left_is = refl }

    module _ (n refused : ℕ) (left : Stream) (u : S × Putting) (so : SoFar n refused left u) (x : Turn) (t : S × Putting) (is : IsTurn receipts_of does refuses shows (four_of left).0 x u t) where
      its_words : (four_of left).0 ≡ (four_of (left_after (length so.turns) words)).0
      its_words = ap (λ (w : Stream). (four_of w).0) (so.left_is ∙ ap (λ m. left_after m words) (sym so.long))

      made_more : AreTurns receipts_of does refuses shows (so.turns ++ x ∷ []) words s t
      made_more = turn_more so.turns x words s u t so.made (subst (λ ws. IsTurn receipts_of does refuses shows ws x u t) its_words is)

      longer : length (so.turns ++ x ∷ []) ≡ n + 1
      longer = omega (arith, so.long, length-append so.turns (x ∷ []))

      pub more_so_far : MayGoOn x → (next : Stream) → next ≡ (four_of left).1 → (more : ℕ) → more ≡ refused + refusals (x ∷ []) → SoFar (n + 1) more next t
      more_so_far goes next is_next more counts = record {
        turns = so.turns ++ x ∷ [];
        go_on = All-push MayGoOn so.turns x so.go_on goes;
        made = made_more;
        long = longer;
        count = counts ∙ ap (λ m. m + refusals (x ∷ [])) so.count ∙ sym (refusals-push so.turns x);
        few = omega (arith, so.few, counts, at_most_one x);
        left_is = left_more n words left next so.left_is is_next;
      }

    pub stopped_here : (n refused : ℕ) (left : Stream) (u : S × Putting) → SoFar n refused left u → (why : Stop) (t : S × Putting) → IsTurn receipts_of does refuses shows (four_of left).0 (turn.Stopped why) u t
        → (rounds : ℕ) → n < rounds → HasTurned receipts_of does refuses shows rounds words (record { refused = refused; stopped = Some why }) s t
    stopped_here n refused left u so why t is rounds fewer = record {
      earlier = so.turns;
      go_on = so.go_on;
      made = made_more n refused left u so (turn.Stopped why) t is;
      most = omega (arith, fewer, longer n refused left u so (turn.Stopped why) t is);
      whole = λ not. absurd cc;
      refused = so.count;
    }

    pub all_done : (n refused : ℕ) (left : Stream) (t : S × Putting) → SoFar n refused left t → (rounds : ℕ) → n ≡ rounds → HasTurned receipts_of does refuses shows rounds words (record { refused = refused; stopped = None }) s t
    all_done n refused left t so rounds all =
        let same : so.turns ++ [] ≡ so.turns = append-nil so.turns in
        let long : length (so.turns ++ []) ≡ length so.turns = ap length same in
        record {
          earlier = so.turns;
          go_on = so.go_on;
          made = subst (λ (ts : List Turn). AreTurns receipts_of does refuses shows ts words s t) (sym same) so.made;
          most = omega (arith, long, so.long, all);
          whole = λ _. so.long ∙ all;
          refused = so.count;
        }

  -- ---- the receipts and the rounds

  -- turns of which none stopped made these receipts, whose rounds were put in
  record Went (turns : List Turn) (words : Stream) (s t : S × Putting) : Type 0 where
    passed : List Receipt
    receipts : receipts_of t.0 ≡ receipts_of s.0 ++ passed
    ticks : All (IsTick shows) passed
    put : put_by t.1 ≡ put_by s.1 ++ rounds_in passed
    count : refusals turns + length passed ≡ length turns
    drawn : refusals turns ≡ 0 → words_of passed ≡ words_of_ticks (length passed) words

  went_refused : (turns : List Turn) (words : Stream) (s u t : S × Putting) → (u.0 ≡ s.0) × (u.1 ≡ s.1) → Went turns (four_of words).1 u t → Went (turn.Refused ∷ turns) words s t
  went_refused turns words s u t same x = record {
    passed = x.passed;
    receipts = x.receipts ∙ ap (λ (v : S). receipts_of v ++ x.passed) same.0;
    ticks = x.ticks;
    put = x.put ∙ ap (λ (p : Putting). put_by p ++ rounds_in x.passed) same.1;
    count = omega (arith, x.count);
    drawn = λ none. absurd (omega (arith, none));
  }

  went_put : (turns : List Turn) (words : Stream) (s u t : S × Putting) (q : Receipt) → HasTicked receipts_of does refuses shows (four_of words).0 q s.0 u.0 → put_by u.1 ≡ put_by s.1 ++ round_in q
      → Went turns (four_of words).1 u t → Went (turn.Put ∷ turns) words s t
  went_put turns words s u t q more put x = record {
    passed = q ∷ x.passed;
    receipts = x.receipts ∙ ap (λ (qs : List Receipt). qs ++ x.passed) more.receipts ∙ append_assoc (receipts_of s.0) (q ∷ []) x.passed;
    ticks = All-cons (IsTick shows) q x.passed more.tick x.ticks;
    put = x.put ∙ ap (λ rs. rs ++ rounds_in x.passed) put ∙ append_assoc (put_by s.1) (round_in q) (rounds_in x.passed);
    count = omega (arith, x.count);
    drawn = λ none. ap (λ ws. ws ++ words_of x.passed) more.words ∙ ap (λ ws. (four_of words).0 ++ ws) (x.drawn none) ∙ sym (words_first (length x.passed) words);
  }

  went : (turns : List Turn) (words : Stream) (s t : S × Putting) → All MayGoOn turns → AreTurns receipts_of does refuses shows turns words s t → Went turns words s t
  went [] words s t go are = record {
    passed = [];
    receipts = ap (λ (v : S × Putting). receipts_of v.0) are ∙ sym (append-nil (receipts_of s.0));
    ticks = All-nil (IsTick shows);
    put = ap (λ (v : S × Putting). put_by v.1) are ∙ sym (append-nil (put_by s.1));
    count = omega arith;
    drawn = λ none. no_words words;
  }
  went (turn.Refused ∷ turns) words s t go are =
      went_refused turns words s are.0 t are.1.same (went turns (four_of words).1 are.0 t (All-tail MayGoOn turn.Refused turns go) are.2)
  went (turn.Put ∷ turns) words s t go are =
      let one = are.1 in
      went_put turns words s are.0 t one.0 one.1 one.2.0 (went turns (four_of words).1 are.0 t (All-tail MayGoOn turn.Put turns go) are.2)
  went (turn.Stopped why ∷ turns) words s t go are = absurd (All-head MayGoOn (turn.Stopped why) turns go)

  -- the state before the last turn
  before_last : (ts : List Turn) (x : Turn) (words : Stream) (s t : S × Putting) → AreTurns receipts_of does refuses shows (ts ++ x ∷ []) words s t
      → (u : S × Putting) × AreTurns receipts_of does refuses shows ts words s u × IsTurn receipts_of does refuses shows (four_of (left_after (length ts) words)).0 x u t
  before_last [] x words s t are = (s, refl, subst (λ (v : S × Putting). IsTurn receipts_of does refuses shows (four_of words).0 x s v) (sym are.2) are.1)
  before_last (y ∷ ys) x words s t are =
      let rest = before_last ys x (four_of words).1 are.0 t are.2 in
      (rest.0, (are.0, are.1, rest.1), rest.2)

  -- a ticker that stopped has one receipt more, whose round was not put in
  stopped_put : (why : Stop) (q : Receipt) (before after : Putting) → IsPassedOn q (turn.Stopped why) before after → put_by after ≡ put_by before
  stopped_put stop.NoMemory q before after is = ap put_by is
  stopped_put stop.HandedBack q before after is = is.0

  made_rounds : (stopped : Option Stop) (refused rounds : ℕ) (words : Stream) (s t : S × Putting) (there : Putting) (earlier : List Turn) → All MayGoOn earlier
      → AreTurns receipts_of does refuses shows (earlier ++ stopped_turn stopped) words s (t.0, there) → length (earlier ++ stopped_turn stopped) ≤ rounds → (stopped ≡ None → length earlier ≡ rounds)
      → refused ≡ refusals earlier → put_by t.1 ≡ put_by there → MakesRounds receipts_of shows rounds words (record { refused = refused; stopped = stopped }) s t
  made_rounds None refused rounds words s t there earlier go made most whole count put =
      let x = went earlier words s (t.0, there) go (subst (λ (ts : List Turn). AreTurns receipts_of does refuses shows ts words s (t.0, there)) (append-nil earlier) made) in
      let same : x.passed ++ [] ≡ x.passed = append-nil x.passed in
      let long : length (x.passed ++ []) ≡ length x.passed = ap length same in
      let all : length earlier ≡ rounds = whole refl in
      record {
        passed = x.passed;
        rest = [];
        receipts = x.receipts ∙ ap (λ qs. receipts_of s.0 ++ qs) (sym same);
        ticks = subst (All (IsTick shows)) (sym same) x.ticks;
        put = put ∙ x.put;
        stopped = refl;
        most = omega (arith, long, x.count, count, all);
        whole = λ _. omega (arith, long, x.count, count, all);
        drawn = λ none. ap words_of same ∙ x.drawn (sym count ∙ none) ∙ ap (λ m. words_of_ticks m words) (sym long);
      }
  made_rounds (Some why) refused rounds words s t there earlier go made most whole count put =
      let last = before_last earlier (turn.Stopped why) words s (t.0, there) made in
      let u = last.0 in
      let x = went earlier words s u go last.1 in
      let q = last.2.0 in
      let more = last.2.1 in
      let long = length-append x.passed (q ∷ []) in
      record {
        passed = x.passed;
        rest = q ∷ [];
        receipts = more.receipts ∙ ap (λ qs. qs ++ q ∷ []) x.receipts ∙ append_assoc (receipts_of s.0) x.passed (q ∷ []);
        ticks = All-push (IsTick shows) x.passed q x.ticks more.tick;
        put = put ∙ stopped_put why q u.1 there last.2.2 ∙ x.put;
        stopped = refl;
        most = omega (arith, long, x.count, count, most, length-append earlier (turn.Stopped why ∷ []));
        whole = λ not. absurd cc;
        drawn = λ none. words_with_last earlier x.passed q words (x.drawn (sym count ∙ none)) (omega (arith, x.count, sym count, none)) more.words;
      }

  pub ticks_make : (rounds : ℕ) (words : Stream) (left : Ticked) (s t : S × Putting) → Ticks receipts_of does refuses shows rounds words left s t → MakesRounds receipts_of shows rounds words left s t
  ticks_make rounds words left s t x =
      let y = x.turned in
      made_rounds left.stopped left.refused rounds words s t x.there y.earlier y.go_on y.made y.most y.whole y.refused x.put
