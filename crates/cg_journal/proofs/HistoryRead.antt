-- The text of a history is read as the history, for caller 0.
use Rattle.std.proofs.Common.{◌≡◌, ℕ, suc, ◌+◌, ◌<◌, ◌≤◌, Bool, List, [], ◌∷◌, ◌++◌, length, map, cond, Option, Some, None, option_map, Ok, Err, refl, sym, ap, subst, ◌∙◌, append_assoc, append-nil, arith, length-append, ne_eqb}
use Rattle.std.specs.List.{AllByRecursion}
use Rattle.cg_types.specs.Numbers.{IsGeneration}
use Rattle.cg_types.specs.declared.fault.Fault.TheVariants.{VersionsSpent}
use Rattle.cg_core.specs.declared.event.Event.{Event}
use Rattle.cg_core.specs.declared.reply.Reply.{Reply}
use Rattle.cg_core.specs.SettingsValues.{SettingsValue}
use Rattle.cg_core.specs.Values.{NodeValue}
use Rattle.cg_core.specs.Step.{Step, node_step, starting_node}
use Rattle.cg_history.specs.declared.item.Item.{Item}
use Rattle.cg_history.specs.History.{record_of, HistoryValue, Replays, LAST_NUMBER, count_of, new_history, with_record, with_step}
use Rattle.cg_history.proofs.Replaying.{base_is_start}
use Rattle.cg_links.specs.Lines.{lines_of}
use Rattle.cg_text.specs.Gives.{readable}
use Rattle.cg_journal.specs.Text.{life_line, event_line, event_lines, joined}
use Rattle.cg_journal.specs.Reading.{history_after, on_line, after_lines, journal_in}
use Rattle.cg_journal.specs.Contents.{IsEvent, MayStart}
use Rattle.cg_journal.specs.Laws.{for_caller_0, WrittenHistoriesAreRead}
use Rattle.cg_journal.proofs.LinesRead.{lines_of-ended}
use Rattle.cg_journal.proofs.EventsRead.{event_words, event_line-ended, event_again, event_words-lack}
use Rattle.cg_journal.proofs.LifeRead.{life_words, life_line-ended, life_again, life_words-lack}

-- ---- lines

abbrev EventsOf : List Item → Type 0
EventsOf records = AllByRecursion (λ r. IsEvent r.event) records

abbrev words_of : List Item → List (List ℕ)
words_of records = map (λ r. event_words r.event) records

events_read : (records : List Item) → EventsOf records → lines_of (joined (event_lines records)) ≡ words_of records
events_read [] all = refl
events_read (r ∷ records) all =
    let words = event_words r.event in
    let rest = joined (event_lines records) in
    ap (λ (line : List ℕ). lines_of (line ++ rest)) (event_line-ended r.event)
    ∙ lines_of-ended words rest (event_words-lack r.event all.0)
    ∙ ap (λ (lines : List (List ℕ)). words ∷ lines) (events_read records all.1)

-- ---- events, for caller 0

applied : (h : HistoryValue) (e : Event) (x : NodeValue × Reply) → node_step h.node e ≡ Ok x → count_of h < LAST_NUMBER
    → history_after h (Some e) ≡ Some (with_record h x.0 (record_of 0 e h.node x))
applied h e x step few =
    ap (λ (b : Bool). option_map (λ p. p.0) (readable (cond b (Err VersionsSpent) (with_step h 0 e (node_step h.node e))))) (ne_eqb (count_of h) LAST_NUMBER (omega (arith, few)))
    ∙ ap (λ (s : Step). option_map (λ p. p.0) (readable (with_step h 0 e s))) step

-- the history after more records, each for caller 0
abbrev after : HistoryValue → List Item → NodeValue → HistoryValue
after h records node = record { start = h.start; base = h.base; folded = h.folded; records = h.records ++ records; node = node }

records_read : (k : ℕ) (h : HistoryValue) (records : List Item) (node : NodeValue) → Replays h.node records node → EventsOf records
    → count_of h + length records ≤ LAST_NUMBER
    → after_lines k (Some h) (words_of records) ≡ Ok (after h (map for_caller_0 records) node)
records_read k h [] node is all few =
    ap (λ (n : NodeValue). Ok (record { start = h.start; base = h.base; folded = h.folded; records = h.records; node = n })) is
    ∙ ap (λ (rs : List Item). Ok (record { start = h.start; base = h.base; folded = h.folded; records = rs; node = node })) (sym (append-nil h.records))
records_read k h (r ∷ records) node is all few =
    let x = is.0 in
    let item = record_of 0 r.event h.node x in
    let g = with_record h x.0 item in
    let same : item ≡ for_caller_0 r = sym (ap for_caller_0 is.2) in
    let go = λ (h : HistoryValue). after_lines (suc k) (Some h) (words_of records) in
    let less : count_of h < LAST_NUMBER = omega (arith, few) in
    let more : count_of g + length records ≤ LAST_NUMBER = omega (arith, few, length-append h.records (item ∷ [])) in
    ap (λ (o : Option Event). on_line k (history_after h o) go) (event_again r.event all.0)
    ∙ ap (λ (o : Option HistoryValue). on_line k o go) (applied h r.event x is.1 less)
    ∙ records_read (suc k) g records node is.3 all.1 more
    ∙ ap (λ (rs : List Item). Ok (record { start = h.start; base = h.base; folded = h.folded; records = rs; node = node }))
    (append_assoc h.records (item ∷ []) (map for_caller_0 records) ∙ ap (λ (i : Item). h.records ++ i ∷ map for_caller_0 records) same)

-- ---- all of it

text_read : (own generation : ℕ) (s : SettingsValue) (records : List Item) → IsGeneration generation → MayStart own s → EventsOf records
    → lines_of (joined (life_line (starting_node own generation s) ∷ event_lines records)) ≡ life_words own generation s ∷ words_of records
text_read own generation s records first is all =
    let rest = joined (event_lines records) in
    ap (λ (line : List ℕ). lines_of (line ++ rest)) (life_line-ended own generation s)
    ∙ lines_of-ended (life_words own generation s) rest (life_words-lack own generation s first is)
    ∙ ap (λ (lines : List (List ℕ)). life_words own generation s ∷ lines) (events_read records all)

history_read : (own generation : ℕ) (s : SettingsValue) (records : List Item) (node : NodeValue) → IsGeneration generation → MayStart own s → EventsOf records
    → length records ≤ LAST_NUMBER → Replays (starting_node own generation s) records node
    → journal_in (joined (life_line (starting_node own generation s) ∷ event_lines records)) ≡ Ok (after (new_history own generation s) (map for_caller_0 records) node)
unfolding journal_in
history_read own generation s records node first is all few replays =
    ap (after_lines 1 None) (text_read own generation s records first is all)
    ∙ ap (λ (o : Option HistoryValue). on_line 1 o (λ h. after_lines 2 (Some h) (words_of records))) (life_again own generation s first is)
    ∙ records_read 2 (new_history own generation s) records node replays all (omega (arith, few))

read_from : (base : NodeValue) (records : List Item) (node : NodeValue) (own generation : ℕ) (s : SettingsValue) → starting_node own generation s ≡ base
    → IsGeneration generation → MayStart own s → EventsOf records → length records ≤ LAST_NUMBER → Replays base records node
    → journal_in (joined (life_line base ∷ event_lines records)) ≡ Ok (record { start = base; base = base; folded = 0; records = map for_caller_0 records; node = node })
read_from base records node own generation s from first is all few replays =
    let P : NodeValue → Type 0 = λ b. Replays b records node → journal_in (joined (life_line b ∷ event_lines records)) ≡ Ok (record { start = b; base = b; folded = 0; records = map for_caller_0 records; node = node }) in
    subst P from (history_read own generation s records node first is all few) replays

same_lines : (records : List Item) → event_lines (map for_caller_0 records) ≡ event_lines records
same_lines [] = refl
same_lines (r ∷ records) = ap (λ (lines : List (List ℕ)). event_line r.event ∷ lines) (same_lines records)

pub histories_read : WrittenHistoriesAreRead
histories_read h is =
    let begun = is.replayed.begun in
    let may : MayStart begun.own begun.settings = subst (λ (n : NodeValue). MayStart n.table.own n.settings) begun.is is.start in
    let began = base_is_start h is.replayed is.whole in
    let few : length h.records ≤ LAST_NUMBER = omega (arith, is.replayed.few, is.whole) in
    record {
      read = read_from h.base h.records h.node begun.own begun.generation begun.settings (sym (began ∙ begun.is)) begun.in_range may is.events few is.replayed.replays
          ∙ ap (λ (n : NodeValue). Ok (record { start = n; base = h.base; folded = 0; records = map for_caller_0 h.records; node = h.node })) began
          ∙ ap (λ (n : ℕ). Ok (record { start = h.start; base = h.base; folded = n; records = map for_caller_0 h.records; node = h.node })) (sym is.whole);
      again = ap (λ (lines : List (List ℕ)). joined (life_line h.base ∷ lines)) (same_lines h.records);
    }
