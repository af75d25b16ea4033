-- Turns over lives and cursors.
use Rattle.std.proofs.Common.{◌≡◌, ◌⊎◌, ℕ, true, zero, suc, ◌+◌, ◌≤◌, ◌<◌, List, [], ◌∷◌, ◌++◌, length, map, take, Option, Some, None, refl, sym, ap, ◌∙◌, subst, arith, slice_get}
use Rattle.std.specs.Prelude.{Result, Ok, Err}
use Rattle.std.specs.Option.{option_to_list}
use Rattle.std.proofs.Math.ListN.{set, length-set}
use Rattle.std.proofs.lemmas.List.{append-nil, append_assoc, length-map, map-append}
use Rattle.std.proofs.lemmas.Option.{slice_get_within}
use Rattle.cg_messages.specs.declared.message.Message.{Message}
use Rattle.cg_audit.specs.Index.{HaveTheSame}
use Rattle.cg_audit.specs.Items.{RunItem, LivesValue}
use Rattle.cg_audit.specs.OneRun.{messages_of}
use Rattle.cg_audit.specs.Turns as turns
use Rattle.cg_audit.specs.declared.cursor.Cursor.{Cursor}
use Rattle.cg_audit.specs.declared.item.LifeItem.{LifeItem}
use Rattle.cg_audit.specs.Audit.{life_item}
use Rattle.cg_audit.specs.Lives.{differ}
use Rattle.cg_audit.specs.Track.{Track}
use Rattle.cg_audit.specs.Tracks.{AreFirst, IsFirstAt, IsNext, advanced, are_distinct, endpoints_in, first_cursors, found_of, heads_left, next_item, track_at, track_of, tracks}
use Rattle.cg_audit.proofs.CursorLemmas.{tracks_at_start}
use Rattle.cg_audit.proofs.TrackLemmas.{count_in, count_after, named_first}
use Rattle.cg_audit.proofs.NextLemmas.{chosen_within, differ_distinct, endpoints_of_tracks, length_tracks, named_tracks, set_track, track_there}
use Rattle.cg_audit.proofs.StateLemmas.{IsAtTurn, at_start, after_turn, at_end, no_heads, some_heads}

-- ---- the heads, place by place

pub heads_more : (ts : List Track) (k : ℕ) (t : Track) → slice_get ts k ≡ Some t → heads_left (take (suc k) ts) ≡ heads_left (take k ts) ++ turns.first t.left
heads_more [] k t at = absurd cc
heads_more (x ∷ ts) zero t at = let same : x ≡ t = cc in append-nil (turns.first x.left) ∙ ap (λ (y : Track). turns.first y.left) same
heads_more (x ∷ ts) (suc k) t at = ap (λ is. turns.first x.left ++ is) (heads_more ts k t at) ∙ sym (append_assoc (turns.first x.left) (heads_left (take k ts)) (turns.first t.left))

-- ---- one turn

sent_by : (i : RunItem) → option_to_list i.sent ≡ messages_of (i ∷ [])
sent_by i = by i.sent refl
  where
    by : (o : Option Message) → i.sent ≡ o → option_to_list i.sent ≡ messages_of (i ∷ [])
    by None is = rw is refl
    by (Some m) is = rw is refl

pub start_over_lives : (ls : List LivesValue) → differ ls ≡ true → IsAtTurn (map track_of ls) (tracks ls (first_cursors ls)) [] []
start_over_lives ls distinct =
    let same : length (first_cursors ls) ≡ length ls = length-map ls (λ (l : LivesValue). record { life = 0; number = 0 }) in
    let all = tracks_at_start ls in
    let es : endpoints_in (map track_of ls) ≡ turns.endpoints_of ls = ap endpoints_in (sym all) ∙ endpoints_of_tracks ls (first_cursors ls) same in
    let apart : are_distinct (endpoints_in (map track_of ls)) ≡ true = ap are_distinct es ∙ sym (differ_distinct ls) ∙ distinct in
    subst (λ ts. IsAtTurn (map track_of ls) ts [] []) (sym all) (at_start (map track_of ls) apart)

module _ (ls : List LivesValue) (cs : List Cursor) (same : length cs ≡ length ls) (start : List Track) (sent : List Message) (order : List LifeItem) (at : IsAtTurn start (tracks ls cs) sent order)
    (place : ℕ) (n : IsNext sent (tracks ls cs) (Some place)) (l : LivesValue) (c : Cursor) (here : slice_get ls place ≡ Some l) (there : slice_get cs place ≡ Some c) where
  -- the next item to go is the next one of these lives
  pub record Goes (i : RunItem) : Type 0 where
    pub next : next_item sent (tracks ls cs) ≡ Some i
    pub first : turns.first (track_at l c).left ≡ i ∷ []

  pub goes : (i : RunItem) × Goes i
  goes = by n.item refl n.first
    where
      by : (o : Option RunItem) → n.item ≡ o → AreFirst (tracks ls cs) (Some place) o → (i : RunItem) × Goes i
      by None is first = elim first [ ]
      by (Some i) is first =
          let track : Some first.track ≡ Some (track_at l c) = sym first.at ∙ track_there ls cs place l c here there in
          let one : first.track ≡ track_at l c = cc in
          (i, record { next = n.next ∙ is; first = ap (λ (t : Track). turns.first t.left) (sym one) ∙ first.first })

  pub nothing_first : [] ≡ turns.first (track_at l c).left → ⊥
  nothing_first none = let g = goes in let first = g.1.first in absurd cc

  pub turn_over_lives : (i : RunItem) (then : Cursor) (sent_then : List Message) → i ∷ [] ≡ turns.first (track_at l c).left → track_at l then ≡ advanced (track_at l c)
      → HaveTheSame sent_then (sent ++ option_to_list i.sent) → IsAtTurn start (tracks ls (set cs place then)) sent_then (order ++ life_item i ∷ [])
  turn_over_lives i then sent_then first after sends =
      let g = goes in
      let firsts : g.0 ∷ [] ≡ i ∷ [] = sym g.1.first ∙ sym first in
      let item : g.0 ≡ i = cc in
      let t = track_there ls cs place l c here there in
      let few : place < length cs = slice_get_within cs place c there in
      let named = named_first (tracks ls cs) (named_tracks ls cs) place (track_at l c) i t (sym first) in
      let sends_it = subst (λ ms. HaveTheSame sent_then (sent ++ ms)) (sent_by i) sends in
      let moved : tracks ls (set cs place then) ≡ set (tracks ls cs) place (advanced (track_at l c)) = set_track ls cs place l then here few ∙ ap (set (tracks ls cs) place) after in
      subst (λ ts. IsAtTurn start ts sent_then (order ++ life_item i ∷ [])) (sym moved)
      (after_turn start (tracks ls cs) sent order at i place (track_at l c) sent_then (g.1.next ∙ ap Some item) t (sym first) named sends_it)

  pub fewer_left : (then : Cursor) → track_at l then ≡ advanced (track_at l c) → suc (count_in (tracks ls (set cs place then))) ≡ count_in (tracks ls cs)
  fewer_left then after =
      let g = goes in
      let few : place < length cs = slice_get_within cs place c there in
      ap (λ ts. suc (count_in ts)) (set_track ls cs place l then here few ∙ ap (set (tracks ls cs) place) after)
      ∙ count_after (tracks ls cs) place (track_at l c) g.0 (track_there ls cs place l c here there) g.1.first

-- ---- the heads of lives, place by place

pub heads_next : (ls : List LivesValue) (cs : List Cursor) (k : ℕ) (l : LivesValue) (c : Cursor) → slice_get ls k ≡ Some l → slice_get cs k ≡ Some c → (is : List RunItem) → is ≡ turns.first (track_at l c).left → (before : List LifeItem)
    → before ≡ map life_item (heads_left (take k (tracks ls cs))) → before ++ map life_item is ≡ map life_item (heads_left (take (k + 1) (tracks ls cs)))
heads_next ls cs k l c here there is first before so_far =
    let one : suc k ≡ k + 1 = omega arith in
    ap (λ b. b ++ map life_item is) so_far ∙ ap (λ js. map life_item (heads_left (take k (tracks ls cs))) ++ map life_item js) first
    ∙ sym (map-append life_item (heads_left (take k (tracks ls cs))) (turns.first (track_at l c).left))
    ∙ ap (map life_item) (sym (heads_more (tracks ls cs) k (track_at l c) (track_there ls cs k l c here there)))
    ∙ ap (λ m. map life_item (heads_left (take m (tracks ls cs)))) one

pub place_within : (ls : List LivesValue) (cs : List Cursor) → length cs ≡ length ls → (sent : List Message) (place : ℕ) → IsNext sent (tracks ls cs) (Some place) → place < length ls
place_within ls cs same sent place n =
    let long = length_tracks ls cs same in
    let less = chosen_within (tracks ls cs) (Some place) n.item n.first place refl in
    omega (arith, long, less)

pub start_count : (ls : List LivesValue) (cs : List Cursor) → cs ≡ first_cursors ls → length cs ≡ length ls
start_count ls cs is = ap length is ∙ length-map ls (λ (l : LivesValue). record { life = 0; number = 0 })

pub start_at : (ls : List LivesValue) (cs : List Cursor) → cs ≡ first_cursors ls → differ ls ≡ true → (sent : List Message) → sent ≡ [] → (order : List LifeItem) → order ≡ [] → IsAtTurn (map track_of ls) (tracks ls cs) sent order
start_at ls cs is distinct sent no_sent order no_order =
    subst (λ o. IsAtTurn (map track_of ls) (tracks ls cs) sent o) (sym no_order)
    (subst (λ m. IsAtTurn (map track_of ls) (tracks ls cs) m []) (sym no_sent)
    (subst (λ k. IsAtTurn (map track_of ls) (tracks ls k) [] []) (sym is) (start_over_lives ls distinct)))

-- ---- the end

pub nobody_next : (sent : List Message) (ts : List Track) (o : Option ℕ) → IsNext sent ts o → o ≡ None → next_item sent ts ≡ None
nobody_next sent ts (Some place) n none = absurd cc
nobody_next sent ts None n none = by n.item n.next n.first
  where
    by : (item : Option RunItem) → next_item sent ts ≡ item → AreFirst ts None item → next_item sent ts ≡ None
    by None next first = next
    by (Some i) next first = elim first [ ]

none_of : (xs : List LifeItem) → length xs ≡ 0 → xs ≡ []
none_of [] e = refl
none_of (x ∷ xs) e = absurd (omega (arith, e))

module _ (start ts : List Track) (sent : List Message) (order heads : List LifeItem) (at : IsAtTurn start ts sent order) (nobody : next_item sent ts ≡ None) (named : heads ≡ map life_item (heads_left ts)) where
  pub all_gone : length heads ≡ 0 → (items : List RunItem) × (found_of start ≡ turns.Order items) × (order ≡ map life_item items)
  all_gone none = (at.gone, at_end start ts sent order at nobody ∙ no_heads (heads_left ts) at.gone (sym named ∙ none_of heads none), at.ordered)

  pub some_stuck : (length heads ≡ 0 → ⊥) → (items : List RunItem) × (found_of start ≡ turns.Stuck items) × (heads ≡ map life_item items)
  some_stuck some = (heads_left ts, at_end start ts sent order at nobody ∙ some_heads (heads_left ts) at.gone (λ e. some (ap length (named ∙ e))), named)
