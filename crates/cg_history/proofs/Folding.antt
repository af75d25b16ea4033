-- Records that are folded into the base of a history, and the list of all records beside it.
use Rattle.std.proofs.Common.{◌≡◌, ℕ, zero, suc, ◌+◌, ◌≤◌, Bool, true, false, cond, List, [], ◌∷◌, ◌++◌, length, take, drop, refl, sym, ap, ◌∙◌, subst, Result, Ok, Err, arith, length-append, length-drop, length-take-le, take-add, drop-drop}
use Rattle.std.specs.Prelude.{◌==◌}
use Rattle.std.proofs.lemmas.List.{take-append-le, drop-append-le, append_cancel_left}
use Rattle.cg_types.specs.declared.fault.Fault.{Fault}
use Rattle.cg_types.specs.declared.fault.Fault.TheVariants as faults
use Rattle.cg_types.specs.Answer.{IsRefusal}
use Rattle.cg_core.specs.declared.event.Event.{Event}
use Rattle.cg_core.specs.declared.reply.Reply.{Reply}
use Rattle.cg_core.specs.Values.{NodeValue}
use Rattle.cg_core.specs.Step.{Step, node_step, node_left, after_event}
use Rattle.cg_history.specs.declared.item.Item.{Item}
use Rattle.cg_history.specs.declared.item.Receipt.{Receipt}
use Rattle.cg_history.specs.History.{record_of, HistoryValue, Replays, IsReplayed, IsFoldOf, LAST_NUMBER, count_of, with_record, receipt_of, with_step, apply, node_after, with_folded, unfolded}

-- ---- where records lead

-- a step that is done leads to the node that it leaves
led : (b : NodeValue) (e : Event) (x : NodeValue × Reply) → node_step b e ≡ Ok x → after_event b e ≡ x.0
led b e x is = ap (node_left b) is

-- records lead to the node after them
pub leads_after : (b : NodeValue) (rs : List Item) (n : NodeValue) → Replays b rs n → n ≡ node_after b rs
leads_after b [] n h = sym h
leads_after b (r ∷ rs) n h = leads_after h.0.0 rs n h.3 ∙ ap (λ m. node_after m rs) (sym (led b r.event h.0 h.1))

-- the first k records lead to the node after them
pub replays_taken : (k : ℕ) (b : NodeValue) (rs : List Item) (n : NodeValue) → Replays b rs n → Replays b (take k rs) (node_after b (take k rs))
replays_taken zero b rs n h = refl
replays_taken (suc k) b [] n h = refl
replays_taken (suc k) b (r ∷ rs) n h =
    (h.0, h.1, h.2, subst (λ m. Replays h.0.0 (take k rs) (node_after m (take k rs))) (sym (led b r.event h.0 h.1)) (replays_taken k h.0.0 rs n h.3))

-- the records behind the first k lead on from there
pub replays_behind : (k : ℕ) (b : NodeValue) (rs : List Item) (n : NodeValue) → Replays b rs n → Replays (node_after b (take k rs)) (drop k rs) n
replays_behind zero b rs n h = h
replays_behind (suc k) b [] n h = h
replays_behind (suc k) b (r ∷ rs) n h =
    subst (λ m. Replays (node_after m (take k rs)) (drop k rs) n) (sym (led b r.event h.0 h.1)) (replays_behind k h.0.0 rs n h.3)

-- records that lead on from others
pub replays_joined : (b : NodeValue) (rs : List Item) (m : NodeValue) (qs : List Item) (n : NodeValue) → Replays b rs m → Replays m qs n → Replays b (rs ++ qs) n
replays_joined b [] m qs n h on = subst (λ x. Replays x qs n) (sym h) on
replays_joined b (r ∷ rs) m qs n h on = (h.0, h.1, h.2, replays_joined h.0.0 rs m qs n h.3 on)

pub after_joined : (b : NodeValue) (rs qs : List Item) → node_after b (rs ++ qs) ≡ node_after (node_after b rs) qs
after_joined b [] qs = refl
after_joined b (r ∷ rs) qs = after_joined (after_event b r.event) rs qs

-- ---- folding

-- folding keeps the number of all records
pub count_stays : (k : ℕ) (h : HistoryValue) → k ≤ length h.records → count_of (with_folded k h) ≡ count_of h
count_stays k h le = omega (arith, le, length-drop k h.records)

-- what is left replays
pub folded_replayed : (k : ℕ) (h : HistoryValue) → k ≤ length h.records → IsReplayed h → IsReplayed (with_folded k h)
folded_replayed k h le i = record {
  begun = i.begun;
  front = i.front ++ take k h.records;
  came = replays_joined h.start i.front h.base (take k h.records) (node_after h.base (take k h.records)) i.came (replays_taken k h.base h.records h.node i.replays);
  gone = omega (arith, i.gone, length-append i.front (take k h.records), length-take-le k h.records le);
  replays = replays_behind k h.base h.records h.node i.replays;
  few = subst (λ (c : ℕ). c ≤ LAST_NUMBER) (sym (count_stays k h le)) i.few;
}

-- folding nothing changes nothing
pub folded_none : (h : HistoryValue) → with_folded 0 h ≡ h
folded_none h =
    let same : h.folded + 0 ≡ h.folded = omega arith in
    ap (λ (c : ℕ). record { start = h.start; base = h.base; folded = c; records = h.records; node = h.node }) same

-- folding m records and then n is folding m + n
pub folded_twice : (m n : ℕ) (h : HistoryValue) → with_folded n (with_folded m h) ≡ with_folded (m + n) h
folded_twice m n h =
    let base : node_after (node_after h.base (take m h.records)) (take n (drop m h.records)) ≡ node_after h.base (take (m + n) h.records) =
    sym (ap (node_after h.base) (take-add m n h.records) ∙ after_joined h.base (take m h.records) (take n (drop m h.records))) in
    let folded : h.folded + m + n ≡ h.folded + (m + n) = omega arith in
    λ k. record { start = h.start; base = base k; folded = folded k; records = drop-drop n m h.records k; node = h.node }

-- ---- all records

-- where nothing is folded, the records kept are all
pub fold_of_whole : (h : HistoryValue) → h.folded ≡ 0 → h.base ≡ h.start → IsFoldOf h.records h
fold_of_whole h none begins =
    let few : h.folded ≤ length h.records = omega (arith, none) in
    let whole : h ≡ unfolded h.records h = λ k. record { start = h.start; base = begins k; folded = none k; records = h.records; node = h.node } in
    (few, whole ∙ sym (folded_none (unfolded h.records h)) ∙ ap (λ (n : ℕ). with_folded n (unfolded h.records h)) (sym none))

-- one record more
pub fold_more : (all : List Item) (h : HistoryValue) (n : NodeValue) (r : Item) → IsFoldOf all h → IsFoldOf (all ++ r ∷ []) (with_record h n r)
fold_more all h n r fold =
    let few : h.folded ≤ length (all ++ r ∷ []) = omega (arith, fold.0, length-append all (r ∷ [])) in
    let base : h.base ≡ node_after h.start (take h.folded (all ++ r ∷ [])) =
    ap (λ (x : HistoryValue). x.base) fold.1 ∙ ap (node_after h.start) (sym (take-append-le h.folded all (r ∷ []) fold.0)) in
    let records : h.records ++ r ∷ [] ≡ drop h.folded (all ++ r ∷ []) =
    ap (λ (x : HistoryValue). x.records ++ r ∷ []) fold.1 ∙ sym (drop-append-le h.folded all (r ∷ []) fold.0) in
    let folded : h.folded ≡ 0 + h.folded = omega arith in
    (few, λ k. record { start = h.start; base = base k; folded = folded k; records = records k; node = n })

-- as many as there were
pub all_counted : (all : List Item) (h : HistoryValue) → IsFoldOf all h → count_of h ≡ count_of (unfolded all h)
all_counted all h fold = omega (arith, fold.0, ap (λ (x : HistoryValue). length x.records) fold.1, length-drop h.folded all)

-- a further fold
pub fold_folded : (k : ℕ) (all : List Item) (h : HistoryValue) → k ≤ length h.records → IsFoldOf all h → IsFoldOf all (with_folded k h)
fold_folded k all h le fold =
    let count = all_counted all h fold in
    let few : h.folded + k ≤ length all = omega (arith, le, count) in
    (few, ap (with_folded k) fold.1 ∙ folded_twice h.folded k (unfolded all h))

-- ---- an event, as it is done where all records are kept

same_ok : {A F : Type 0} (x y : A) → (let r : Result A F = Ok x in r) ≡ Ok y → x ≡ y
same_ok x y e = cc

same_first : {A : Type 0} (x y : A) → x ∷ [] ≡ y ∷ [] → x ≡ y
same_first x y e = cc

module _ (all : List Item) (h : HistoryValue) (caller : ℕ) (e : Event) where
  abbrev outcome : HistoryValue → Bool → Step → Result (HistoryValue × Receipt) Fault
  outcome g spent due = cond {A = Result (HistoryValue × Receipt) Fault} spent (Err faults.VersionsSpent) (with_step g caller e due)

  refuse : (fault : Fault) (spent : Bool) (due : Step) → IsRefusal fault (outcome h spent due) → IsRefusal fault (outcome (unfolded all h) spent due)
  refuse fault true due not = not
  refuse fault false (Err other) not = not
  refuse faults.OutOfMemory false (Ok x) not = refl
  refuse fault false (Ok x) not = absurd cc

  -- an event is refused as it is where all records are kept
  pub whole_refused : (fault : Fault) → IsFoldOf all h → IsRefusal fault (apply h caller e) → IsRefusal fault (apply (unfolded all h) caller e)
  whole_refused fault fold not =
      subst (λ (n : ℕ). IsRefusal fault (outcome (unfolded all h) (n == LAST_NUMBER) (node_step h.node e))) (all_counted all h fold) (refuse fault (count_of h == LAST_NUMBER) (node_step h.node e) not)

  module _ (n : NodeValue) (r : Item) (q : Receipt) (fold : IsFoldOf all h) where
    done : (spent : Bool) (due : Step) → outcome h spent due ≡ Ok (with_record h n r, q) → outcome (unfolded all h) spent due ≡ Ok (unfolded (all ++ r ∷ []) (with_record h n r), q)
    done true due is = absurd cc
    done false (Err fault) is = absurd cc
    done false (Ok x) is =
        let same = same_ok {A = HistoryValue × Receipt} (with_record h x.0 (record_of caller e h.node x), receipt_of h caller e x.1) (with_record h n r, q) is in
        let node : x.0 ≡ n = ap (λ (y : HistoryValue × Receipt). y.0.node) same in
        let last : record_of caller e h.node x ≡ r = same_first (record_of caller e h.node x) r (append_cancel_left h.records (record_of caller e h.node x ∷ []) (r ∷ []) (ap (λ (y : HistoryValue × Receipt). y.0.records) same)) in
        let receipt : receipt_of (unfolded all h) caller e x.1 ≡ q =
        ap (λ (c : ℕ). record { caller = caller; number = c + 1; event = e; reply = x.1 }) (sym (all_counted all h fold)) ∙ ap (λ (y : HistoryValue × Receipt). y.1) same in
        λ k. Ok (record { start = h.start; base = h.start; folded = 0; records = all ++ last k ∷ []; node = node k }, receipt k)

    -- an event is done as it is where all records are kept
    pub whole_done : apply h caller e ≡ Ok (with_record h n r, q) → apply (unfolded all h) caller e ≡ Ok (unfolded (all ++ r ∷ []) (with_record h n r), q)
    whole_done is =
        ap (λ (c : ℕ). outcome (unfolded all h) (c == LAST_NUMBER) (node_step h.node e)) (sym (all_counted all h fold)) ∙ done (count_of h == LAST_NUMBER) (node_step h.node e) is
