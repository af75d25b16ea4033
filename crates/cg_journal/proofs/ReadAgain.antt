-- The history read from any journal is writable, and its text is read as the same history.
use Rattle.std.proofs.Common.{◌≡◌, ℕ, suc, List, [], ◌∷◌, map, Option, Some, None, option_map, Ok, Err, Result, IfSome, refl, sym, ap, subst, ◌∙◌}
use Rattle.std.specs.List.{AllByRecursion}
use Rattle.cg_types.specs.declared.fault.Fault.{Fault}
use Rattle.cg_core.specs.declared.event.Event.{Event}
use Rattle.cg_history.specs.declared.item.Item.{Item}
use Rattle.cg_history.specs.declared.item.Receipt.{Receipt}
use Rattle.cg_history.specs.History.{HistoryValue, apply}
use Rattle.cg_links.specs.Lines.{lines_of}
use Rattle.cg_text.specs.Gives.{readable}
use Rattle.cg_journal.specs.Reading.{life_in, event_in, history_after, on_line, after_lines, journal_in}
use Rattle.cg_journal.specs.Contents.{IsEvent, IsWritable}
use Rattle.cg_journal.specs.Laws.{for_caller_0, uncalled, ReadHistoriesAreReadAgain}
use Rattle.cg_journal.proofs.OfLines.{of_its_lines}
use Rattle.cg_journal.proofs.HistoryRead.{histories_read}
use Rattle.cg_journal.proofs.EventsHeld.{event_held}
use Rattle.cg_journal.proofs.LifeHeld.{life_held}
use Rattle.cg_journal.proofs.Writable.{writable_histories_go_on}

applied_by : (h : HistoryValue) (e : Event) (r : Result (HistoryValue × Receipt) Fault) → apply h 0 e ≡ r → IsWritable h → IsEvent e
    → IfSome (option_map (λ x. x.0) (readable r)) IsWritable
applied_by h e (Ok x) done life event = writable_histories_go_on.goes_on h 0 e x.0 x.1 life event done
applied_by h e (Err fault) done life event = tt

life_after : (h : HistoryValue) (o : Option Event) → IsWritable h → IfSome o IsEvent → IfSome (history_after h o) IsWritable
life_after h None life event = tt
life_after h (Some e) life event = applied_by h e (apply h 0 e) refl life event

on : (n : ℕ) (o : Option HistoryValue) (go : HistoryValue → Result HistoryValue ℕ) (k : HistoryValue) → IfSome o IsWritable
    → ((g : HistoryValue) → IsWritable g → go g ≡ Ok k → IsWritable k) → on_line n o go ≡ Ok k → IsWritable k
on n None go k life next e = absurd cc
on n (Some g) go k life next e = next g life e

lives_after : (n : ℕ) (h k : HistoryValue) (lines : List (List ℕ)) → IsWritable h → after_lines n (Some h) lines ≡ Ok k → IsWritable k
lives_after n h k [] life e = let same : h ≡ k = cc in subst IsWritable same life
lives_after n h k (line ∷ lines) life e =
    on n (history_after h (event_in line)) (λ g. after_lines (suc n) (Some g) lines) k (life_after h (event_in line) life (event_held line))
    (λ g is. lives_after (suc n) g k lines is) e

life_of_lines : (lines : List (List ℕ)) (k : HistoryValue) → after_lines 1 None lines ≡ Ok k → IsWritable k
life_of_lines [] k e = absurd cc
life_of_lines (line ∷ lines) k e = on 1 (life_in line) (λ g. after_lines 2 (Some g) lines) k (life_held line) (λ g is. lives_after 2 g k lines is) e

life_of : (text : List ℕ) (h : HistoryValue) → journal_in text ≡ Ok h → IsWritable h
unfolding journal_in
life_of text h e = life_of_lines (lines_of text) h e

same_records : (records : List Item) → AllByRecursion (λ r. r.caller ≡ 0) records → map for_caller_0 records ≡ records
same_records [] all = refl
same_records (r ∷ records) all =
    let one : for_caller_0 r ≡ r = ap (λ (c : ℕ). record { caller = c; event = r.event; reply = r.reply; puts = r.puts }) (sym all.0) in
    ap (λ (i : Item). i ∷ map for_caller_0 records) one ∙ ap (λ (rs : List Item). r ∷ rs) (same_records records all.1)

pub read_again : ReadHistoriesAreReadAgain
read_again text h e =
    let life = life_of text h e in
    let same : uncalled h ≡ h = ap (λ (rs : List Item). record { start = h.start; base = h.base; folded = h.folded; records = rs; node = h.node }) (same_records h.records (of_its_lines text h e).callers) in
    record { writable = life; again = (histories_read h life).read ∙ ap (λ (g : HistoryValue). Ok g) same }
