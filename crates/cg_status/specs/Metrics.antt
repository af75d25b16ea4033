-- Metrics, in the text format of Prometheus.
use Rattle.std.specs.Prelude.{ℕ, List, ◌++◌, codes, decimal, bytes_eq, count_by}
use Rattle.std.specs.List.{flat_map}
use Rattle.cg_silence.specs.Verdict.{verdict_name}
use Rattle.cg_status.specs.declared.status.Seen.{Seen}
use Rattle.cg_status.specs.declared.status.Counters.{Counters}
use Rattle.cg_status.specs.declared.status.Status.{Status}

-- the purpose of a metric, its kind, and its value
unfoldable pub help_line : List ℕ → List ℕ → List ℕ
help_line name help = codes "# HELP cg_" ++ (name ++ (codes " " ++ (help ++ codes "\n")))

unfoldable pub kind_line : List ℕ → List ℕ → List ℕ
kind_line name kind = codes "# TYPE cg_" ++ (name ++ (codes " " ++ (kind ++ codes "\n")))

unfoldable pub value_line : List ℕ → ℕ → List ℕ
value_line name value = codes "cg_" ++ (name ++ (codes " " ++ (decimal value ++ codes "\n")))

unfoldable pub head_lines : List ℕ → List ℕ → List ℕ → List ℕ
head_lines name kind help = help_line name help ++ kind_line name kind

unfoldable pub counter_lines : List ℕ → List ℕ → ℕ → List ℕ
counter_lines name help count = head_lines name (codes "counter") help ++ value_line name count

unfoldable pub exchange_lines : Counters → List ℕ
exchange_lines c =
    counter_lines (codes "rounds_total") (codes "Rounds begun.") c.rounds
    ++ (counter_lines (codes "exchanges_begun_total") (codes "Exchanges begun.") c.begun
    ++ counter_lines (codes "exchanges_answered_total") (codes "Exchanges answered.") c.answered)

unfoldable pub byte_lines : Counters → List ℕ
byte_lines c =
    counter_lines (codes "read_bytes_total") (codes "Bytes read of peers.") c.bytes_in
    ++ counter_lines (codes "written_bytes_total") (codes "Bytes written to peers.") c.bytes_out

unfoldable pub record_lines : Counters → List ℕ
record_lines c =
    counter_lines (codes "records_total") (codes "Records made.") c.records
    ++ counter_lines (codes "records_folded_total") (codes "Records folded.") c.folded

unfoldable pub delta_lines : Counters → List ℕ
delta_lines c =
    counter_lines (codes "deltas_taken_total") (codes "Deltas taken.") c.taken
    ++ (counter_lines (codes "deltas_old_total") (codes "Deltas that were old.") c.old
    ++ (counter_lines (codes "deltas_gap_total") (codes "Deltas with a gap before them.") c.gap
    ++ counter_lines (codes "deltas_own_total") (codes "Deltas about the node itself.") c.own))

-- the exchanges that broke by a fault
unfoldable pub broken_line : ℕ × ℕ → List ℕ
broken_line b =
    codes "cg_exchanges_broken_total{fault=\"" ++ (decimal b.0 ++ (codes "\"} " ++ (decimal b.1 ++ codes "\n")))

unfoldable pub broken_lines : List (ℕ × ℕ) → List ℕ
broken_lines broken =
    head_lines (codes "exchanges_broken_total") (codes "counter") (codes "Exchanges broken, by fault number.")
    ++ flat_map broken_line broken

-- the number of endpoints whose verdict has this name
abbrev pub count_of : List ℕ → List Seen → ℕ
count_of name seen = count_by (λ s. bytes_eq (verdict_name s.verdict) name) seen

unfoldable pub verdict_line : List ℕ → List Seen → List ℕ
verdict_line name seen =
    codes "cg_endpoints{verdict=\"" ++ (name ++ (codes "\"} " ++ (decimal (count_of name seen) ++ codes "\n")))

unfoldable pub verdict_lines : List Seen → List ℕ
verdict_lines seen =
    head_lines (codes "endpoints") (codes "gauge") (codes "Other endpoints, by verdict.")
    ++ (verdict_line (codes "Alive") seen ++ (verdict_line (codes "Silent") seen ++ verdict_line (codes "Unheard") seen))

unfoldable pub left_lines : ℕ → List ℕ
left_lines left =
    head_lines (codes "versions_left") (codes "gauge") (codes "Versions that the node may still give.")
    ++ value_line (codes "versions_left") left

-- the metrics of a status
unfoldable pub metrics : Status → List ℕ
metrics s =
    exchange_lines s.counters ++ (broken_lines s.broken.items ++ (byte_lines s.counters ++ (delta_lines s.counters
    ++ (record_lines s.counters ++ (verdict_lines s.seen.items ++ left_lines s.versions_left)))))
