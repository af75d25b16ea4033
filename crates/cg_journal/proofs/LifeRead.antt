-- The first line written of a history is read as its start.
use Rattle.std.proofs.Common.{◌≡◌, ℕ, ◌≤◌, zero, suc, Bool, true, false, cond, not, List, [], ◌∷◌, ◌++◌, length, Option, Some, None, Ok, Err, Result, refl, sym, ap, ◌∙◌, append_assoc, append-nil, arith, decimal, le-leb, ne_eqb, eq-eqb}
use Rattle.std.specs.Prelude.{◌==◌, nat_le, nat_lt, codes}
use Rattle.std.specs.Char.{is_ascii_digit}
use Rattle.std.specs.Int.{is_in_range}
use Rattle.std.specs.List.{flat_map, AllByRecursion}
use Rattle.std.specs.Cmp.{nat_cmp_total, eq_by_cmp_equiv}
use Rattle.std.specs.FinMap.{empty, get-insert}
use Rattle.std.proofs.lemmas.Bool.{le-ltb}
use Rattle.cg_types.specs.declared.fault.Fault.{Fault}
use Rattle.cg_types.specs.declared.fault.Fault.TheVariants.{TooLong, BadText}
use Rattle.cg_types.specs.declared.limits.TheConstants.{PARTITIONER, NAME_LIMIT}
use Rattle.cg_types.specs.EndpointText.{endpoint_text}
use Rattle.cg_types.specs.Numbers.{IsEndpoint, IsGeneration}
use Rattle.cg_types.specs.OptionSteps.{◌>>=◌}
use Rattle.cg_types.specs.Rising.{rise_past}
use Rattle.cg_types.specs.Text.{ClusterValue, IsClusterName, cluster_of, plain}
use Rattle.cg_types.specs.Words.{cut_at, generation_in}
use Rattle.cg_types.proofs.EndpointLaws.{endpoint_in-text}
use Rattle.cg_types.proofs.RisingLemmas.{both}
use Rattle.cg_types.proofs.WordLemmas.{number_of-decimal}
use Rattle.cg_entry.specs.Entry.{starting_entry}
use Rattle.cg_table.specs.Own.{own_entry}
use Rattle.cg_table.specs.Table.{lone_table}
use Rattle.cg_table.specs.Values.{Entries}
use Rattle.cg_silence.specs.declared.fault.SilenceFault.{SilenceFault}
use Rattle.cg_silence.specs.declared.fault.SilenceFault.TheVariants as silence_fault
use Rattle.cg_silence.specs.declared.limits.TheConstants.{WINDOW_LIMIT, GAP_LIMIT, THRESHOLD_LIMIT}
use Rattle.cg_silence.specs.Values.{SilenceValue, IsSilence, silence_of}
use Rattle.cg_silence.specs.Settings.{settings_or_fault as silence_or_fault}
use Rattle.cg_core.specs.declared.fault.SettingsFault.{SettingsFault}
use Rattle.cg_core.specs.declared.fault.SettingsFault.TheVariants as settings_fault
use Rattle.cg_core.specs.declared.limits.TheConstants.{SEED_LIMIT}
use Rattle.cg_core.specs.Settings.{settings_or_fault}
use Rattle.cg_core.specs.Step.{starting_node}
use Rattle.cg_core.specs.SettingsValues.{SettingsValue, IsSettings, settings_of_parts}
use Rattle.cg_history.specs.History.{new_history}
use Rattle.cg_text.specs.Gives.{readable}
use Rattle.cg_text.specs.Words.{endpoint_before, endpoints_by, endpoints_in}
use Rattle.cg_journal.specs.Text.{silence_text, further_seed, seeds_text, settings_text, life_line}
use Rattle.cg_journal.specs.Reading.{generation_before, setting_before, silence_before, seeds_in, settings_in, life_behind, life_of_parts, life_in}
use Rattle.cg_journal.specs.Contents.{MayStart}
use Rattle.cg_journal.proofs.WordsRead.{lacks, lacks-append, lacks-number, lacks-decimal, lacks-endpoint, lacks-plain, cut_at-word, cut_at-none, is_no_dash, generation_in-decimal}
use Rattle.cg_journal.proofs.LinesRead.{ended}

-- ---- words

endpoint_before-word : (e : ℕ) (rest : List ℕ) → IsEndpoint e → endpoint_before (endpoint_text e ++ 32 ∷ rest) ≡ Some (e, rest)
unfolding endpoint_before
endpoint_before-word e rest is = rw (cut_at-word 32 (endpoint_text e) rest (lacks-endpoint 32 e refl refl refl is), endpoint_in-text e is) refl

generation_before-word : (n : ℕ) (rest : List ℕ) → IsGeneration n → generation_before (decimal n ++ 32 ∷ rest) ≡ Some (n, rest)
unfolding generation_before
generation_before-word n rest is =
    ap (λ (o : Option (List ℕ × List ℕ)). o >>= λ parts. generation_in parts.0 >>= λ generation. Some (generation, parts.1)) (cut_at-word 32 (decimal n) rest (lacks-decimal 32 n refl (omega (arith, is.1))))
    ∙ ap (λ (o : Option ℕ). o >>= λ generation. Some (generation, rest)) (generation_in-decimal n is)

-- the greatest number among the settings of a line
abbrev MOST : ℕ
MOST = 4294967295

setting_before-word : (n : ℕ) (rest : List ℕ) → n ≤ MOST → setting_before (decimal n ++ 32 ∷ rest) ≡ Some (n, rest)
unfolding setting_before
setting_before-word n rest le =
    rw (cut_at-word 32 (decimal n) rest (lacks-decimal 32 n refl (omega arith)), number_of-decimal MOST n (omega arith) le) refl

-- ---- limits of silence

in_range : (low high n : ℕ) → low ≤ n → n ≤ high → is_in_range low high n ≡ true
in_range low high n p q = both (nat_le low n) (nat_le n high) (le-leb low n p) (le-leb n high q)

silence_by : (a b c d : Bool) (s : SilenceValue) → a ≡ true → b ≡ true → c ≡ true → d ≡ true
    → cond {A = Result SilenceValue SilenceFault} (not a) (Err silence_fault.Window) (cond (not b) (Err silence_fault.MaxGap) (cond (not c) (Err silence_fault.InitialGap) (cond (not d) (Err silence_fault.Threshold) (Ok s)))) ≡ Ok s
silence_by a b c d s p q r t = rw (p, q, r, t) refl

silence_allowed : (s : SilenceValue) → IsSilence s → silence_or_fault s ≡ Ok s
silence_allowed s is =
    silence_by (is_in_range 1 WINDOW_LIMIT s.window) (is_in_range 1 GAP_LIMIT s.max_gap) (is_in_range 1 s.max_gap s.initial_gap) (is_in_range 1 THRESHOLD_LIMIT s.threshold) s
    (in_range 1 WINDOW_LIMIT s.window (omega (arith, is.some_gaps)) is.few_gaps)
    (in_range 1 GAP_LIMIT s.max_gap (omega (arith, is.some_time, is.initial_within)) is.max_within)
    (in_range 1 s.max_gap s.initial_gap (omega (arith, is.some_time)) is.initial_within)
    (in_range 1 THRESHOLD_LIMIT s.threshold (omega (arith, is.some_threshold)) is.threshold_within)

abbrev four_text : ℕ → ℕ → ℕ → ℕ → List ℕ → List ℕ
four_text a b c d rest = decimal a ++ 32 ∷ (decimal b ++ 32 ∷ (decimal c ++ 32 ∷ (decimal d ++ 32 ∷ rest)))

silence_spelled : (s : SilenceValue) (rest : List ℕ) → silence_text s ++ 32 ∷ rest ≡ four_text s.window s.initial_gap s.max_gap s.threshold rest
unfolding silence_text
silence_spelled s rest =
    let w = decimal s.window in
    let i = decimal s.initial_gap in
    let m = decimal s.max_gap in
    let t = decimal s.threshold in
    append_assoc w (32 ∷ (i ++ 32 ∷ (m ++ 32 ∷ t))) (32 ∷ rest)
    ∙ ap (λ (l : List ℕ). w ++ 32 ∷ l) (append_assoc i (32 ∷ (m ++ 32 ∷ t)) (32 ∷ rest)
    ∙ ap (λ (l : List ℕ). i ++ 32 ∷ l) (append_assoc m (32 ∷ t) (32 ∷ rest)))

four_read : (a b c d : ℕ) (rest : List ℕ) → a ≤ MOST → b ≤ MOST → c ≤ MOST → d ≤ MOST
    → silence_or_fault (silence_of a b c d) ≡ Ok (silence_of a b c d) → silence_before (four_text a b c d rest) ≡ Some (silence_of a b c d, rest)
unfolding silence_before
four_read a b c d rest p q r t allowed =
    rw (setting_before-word a (decimal b ++ 32 ∷ (decimal c ++ 32 ∷ (decimal d ++ 32 ∷ rest))) p, setting_before-word b (decimal c ++ 32 ∷ (decimal d ++ 32 ∷ rest)) q, setting_before-word c (decimal d ++ 32 ∷ rest) r, setting_before-word d rest t)
    (ap (λ (o : Result SilenceValue SilenceFault). readable o >>= λ silence. Some (silence, rest)) allowed)

silence_again : (s : SilenceValue) (rest : List ℕ) → IsSilence s → silence_before (silence_text s ++ 32 ∷ rest) ≡ Some (s, rest)
silence_again s rest is =
    ap silence_before (silence_spelled s rest)
    ∙ four_read s.window s.initial_gap s.max_gap s.threshold rest (omega (arith, is.few_gaps)) (omega (arith, is.initial_within, is.max_within)) (omega (arith, is.max_within)) (omega (arith, is.threshold_within)) (silence_allowed s is)

-- ---- seeds

further_lack : (c : ℕ) → is_ascii_digit c ≡ false → not (44 == c) ≡ true → not (46 == c) ≡ true → not (58 == c) ≡ true
    → (seeds : List ℕ) → AllByRecursion IsEndpoint seeds → lacks c (flat_map further_seed seeds) ≡ true
unfolding further_seed
further_lack c none comma dot colon [] all = refl
further_lack c none comma dot colon (e ∷ seeds) all =
    both (not (44 == c)) (lacks c (endpoint_text e ++ flat_map further_seed seeds)) comma
    (lacks-append c (endpoint_text e) (flat_map further_seed seeds) (lacks-endpoint c e none dot colon all.0) (further_lack c none comma dot colon seeds all.1))

-- the text of one or more seeds lacks each byte other than digits, commas, dots and colons
some_lack : (c e : ℕ) (seeds : List ℕ) → is_ascii_digit c ≡ false → not (44 == c) ≡ true → not (46 == c) ≡ true → not (58 == c) ≡ true
    → IsEndpoint e → AllByRecursion IsEndpoint seeds → lacks c (endpoint_text e ++ flat_map further_seed seeds) ≡ true
some_lack c e seeds none comma dot colon is all =
    lacks-append c (endpoint_text e) (flat_map further_seed seeds) (lacks-endpoint c e none dot colon is) (further_lack c none comma dot colon seeds all)

seeds_lack : (c : ℕ) → is_ascii_digit c ≡ false → not (44 == c) ≡ true → not (45 == c) ≡ true → not (46 == c) ≡ true → not (58 == c) ≡ true
    → (seeds : List ℕ) → AllByRecursion IsEndpoint seeds → lacks c (seeds_text seeds) ≡ true
seeds_lack c none comma dash dot colon [] all = rw dash refl
seeds_lack c none comma dash dot colon (e ∷ seeds) all = some_lack c e seeds none comma dot colon all.0 all.1

endpoints_again : (most e : ℕ) (es : List ℕ) → IsEndpoint e → AllByRecursion IsEndpoint es → length (e ∷ es) ≤ most
    → endpoints_in 44 most (endpoint_text e ++ flat_map further_seed es) ≡ Some (e ∷ es)
unfolding endpoints_in further_seed
endpoints_again zero e es is all few = absurd (omega (arith, few))
endpoints_again (suc most) e [] is all few =
    let text = endpoint_text e in
    ap (λ (l : List ℕ). endpoints_by (endpoints_in 44 most) l (cut_at 44 l)) (append-nil text)
    ∙ ap (endpoints_by (endpoints_in 44 most) text) (cut_at-none 44 text (lacks-endpoint 44 e refl refl refl is))
    ∙ ap (λ (o : Option ℕ). o >>= λ endpoint. Some (endpoint ∷ [])) (endpoint_in-text e is)
endpoints_again (suc most) e (f ∷ es) is all few =
    let rest = endpoint_text f ++ flat_map further_seed es in
    ap (endpoints_by (endpoints_in 44 most) (endpoint_text e ++ 44 ∷ rest)) (cut_at-word 44 (endpoint_text e) rest (lacks-endpoint 44 e refl refl refl is))
    ∙ ap (λ (o : Option ℕ). o >>= λ endpoint. endpoints_in 44 most rest >>= λ endpoints. Some (endpoint ∷ endpoints)) (endpoint_in-text e is)
    ∙ ap (λ (o : Option (List ℕ)). o >>= λ endpoints. Some (e ∷ endpoints)) (endpoints_again most f es all.0 all.1 (omega (arith, few)))

seeds_again : (seeds : List ℕ) → AllByRecursion IsEndpoint seeds → length seeds ≤ SEED_LIMIT → seeds_in (seeds_text seeds) ≡ Some seeds
unfolding seeds_in
seeds_again [] all few = refl
seeds_again (e ∷ seeds) all few =
    let text = endpoint_text e ++ flat_map further_seed seeds in
    ap (λ (b : Bool). cond b (Some []) (endpoints_in 44 SEED_LIMIT text)) (is_no_dash text (some_lack 45 e seeds refl refl refl refl all.0 all.1))
    ∙ endpoints_again SEED_LIMIT e seeds all.0 all.1 few

-- ---- settings

abbrev named : List ℕ → ℕ → ClusterValue
named name partitioner = record { name = name; partitioner = partitioner }

cluster_by : (a b p : Bool) (c : ClusterValue) → a ≡ false → b ≡ false → p ≡ true
    → cond {A = Result ClusterValue Fault} a (Err TooLong) (cond b (Err BadText) (cond p (Ok c) (Err BadText))) ≡ Ok c
cluster_by a b p c e f g = rw (e, f, g) refl

cluster_again : (c : ClusterValue) → IsClusterName c.name → c.partitioner ≡ PARTITIONER → cluster_of c.name PARTITIONER ≡ Ok c
cluster_again c is in_use =
    cluster_by (nat_lt NAME_LIMIT (length c.name)) (length c.name == 0) (plain c.name) (named c.name PARTITIONER)
    (le-ltb NAME_LIMIT (length c.name) is.fits) (ne_eqb (length c.name) 0 (omega (arith, is.some))) is.is_plain
    ∙ ap (λ (p : ℕ). Ok (named c.name p)) (sym in_use)

settings_by : (a b c : Bool) (s : SettingsValue) → a ≡ true → b ≡ false → c ≡ true
    → cond {A = Result SettingsValue SettingsFault} (not a) (Err settings_fault.Partitioner) (cond b (Err settings_fault.SeedCount) (cond (not c) (Err settings_fault.SeedOrder) (Ok s))) ≡ Ok s
settings_by a b c s p q r = rw (p, q, r) refl

settings_allowed : (s : SettingsValue) → IsSettings s → settings_or_fault s ≡ Ok s
settings_allowed s is =
    settings_by (s.cluster.partitioner == PARTITIONER) (nat_lt SEED_LIMIT (length s.seeds)) (rise_past None s.seeds) s
    (eq-eqb s.cluster.partitioner PARTITIONER is.in_use) (le-ltb SEED_LIMIT (length s.seeds) is.few) is.rise

settings_again : (own : ℕ) (s : SettingsValue) → MayStart own s → settings_in (settings_text s) ≡ Some s
unfolding settings_in settings_text
settings_again own s is =
    let seeds = seeds_text s.seeds in
    let name = s.cluster.name in
    ap (λ (o : Option (SilenceValue × List ℕ)). o >>= λ silence. cut_at 32 silence.1 >>= λ parts. seeds_in parts.0 >>= λ seeds. readable (cluster_of parts.1 PARTITIONER) >>= λ cluster. readable (settings_or_fault (settings_of_parts cluster seeds silence.0)))
    (silence_again s.silence (seeds ++ 32 ∷ name) is.silence)
    ∙ ap (λ (o : Option (List ℕ × List ℕ)). o >>= λ parts. seeds_in parts.0 >>= λ seeds. readable (cluster_of parts.1 PARTITIONER) >>= λ cluster. readable (settings_or_fault (settings_of_parts cluster seeds s.silence)))
    (cut_at-word 32 seeds name (seeds_lack 32 refl refl refl refl refl s.seeds is.seeds))
    ∙ ap (λ (o : Option (List ℕ)). o >>= λ seeds. readable (cluster_of name PARTITIONER) >>= λ cluster. readable (settings_or_fault (settings_of_parts cluster seeds s.silence)))
    (seeds_again s.seeds is.seeds is.settings.few)
    ∙ ap (λ (r : Result ClusterValue Fault). readable r >>= λ cluster. readable (settings_or_fault (settings_of_parts cluster s.seeds s.silence))) (cluster_again s.cluster is.cluster.is_named is.settings.in_use)
    ∙ ap (λ (r : Result SettingsValue SettingsFault). readable r) (settings_allowed s is.settings)

-- ---- the line

-- without its line feed
abbrev pub life_words : ℕ → ℕ → SettingsValue → List ℕ
life_words own generation s = codes "life" ++ 32 ∷ (endpoint_text own ++ 32 ∷ (decimal generation ++ 32 ∷ settings_text s))

own_of_start : (own generation : ℕ) → (own_entry (lone_table own (starting_entry generation))).generation ≡ generation
own_of_start own generation =
    let none : Entries = empty in
    rw (get-insert nat_cmp_total none own (starting_entry generation) own, (eq_by_cmp_equiv nat_cmp_total).refl own) refl

pub life_line-ended : (own generation : ℕ) (s : SettingsValue) → life_line (starting_node own generation s) ≡ ended (life_words own generation s)
unfolding life_line
life_line-ended own generation s =
    let e = endpoint_text own in
    let g = decimal generation in
    let t = settings_text s in
    ap (λ (n : ℕ). codes "life " ++ (e ++ (codes " " ++ (decimal n ++ (codes " " ++ (t ++ codes "\n")))))) (own_of_start own generation)
    ∙ ap (λ (l : List ℕ). codes "life " ++ l) (sym (append_assoc e (32 ∷ (g ++ 32 ∷ t)) (10 ∷ []) ∙ ap (λ (l : List ℕ). e ++ 32 ∷ l) (append_assoc g (32 ∷ t) (10 ∷ []))))

pub life_again : (own generation : ℕ) (s : SettingsValue) → IsGeneration generation → MayStart own s → life_in (life_words own generation s) ≡ Some (new_history own generation s)
unfolding life_in life_behind
life_again own generation s first is =
    let rest = decimal generation ++ 32 ∷ settings_text s in
    ap life_of_parts (cut_at-word 32 (codes "life") (endpoint_text own ++ 32 ∷ rest) refl)
    ∙ ap (λ (o : Option (ℕ × List ℕ)). o >>= λ own. generation_before own.1 >>= λ generation. settings_in generation.1 >>= λ settings. Some (new_history own.0 generation.0 settings)) (endpoint_before-word own rest is.endpoint)
    ∙ ap (λ (o : Option (ℕ × List ℕ)). o >>= λ generation. settings_in generation.1 >>= λ settings. Some (new_history own generation.0 settings)) (generation_before-word generation (settings_text s) first)
    ∙ ap (λ (o : Option SettingsValue). o >>= λ settings. Some (new_history own generation settings)) (settings_again own s is)

-- ---- no line feed is in it

silence_lack : (s : SilenceValue) → IsSilence s → lacks 10 (silence_text s) ≡ true
unfolding silence_text
silence_lack s is =
    lacks-number 10 s.window 32 (decimal s.initial_gap ++ 32 ∷ (decimal s.max_gap ++ 32 ∷ decimal s.threshold)) refl refl (omega (arith, is.few_gaps))
    (lacks-number 10 s.initial_gap 32 (decimal s.max_gap ++ 32 ∷ decimal s.threshold) refl refl (omega (arith, is.initial_within, is.max_within))
    (lacks-number 10 s.max_gap 32 (decimal s.threshold) refl refl (omega (arith, is.max_within)) (lacks-decimal 10 s.threshold refl (omega (arith, is.threshold_within)))))

settings_lack : (own : ℕ) (s : SettingsValue) → MayStart own s → lacks 10 (settings_text s) ≡ true
unfolding settings_text
settings_lack own s is =
    let seeds = seeds_text s.seeds in
    let name = s.cluster.name in
    lacks-append 10 (silence_text s.silence) (32 ∷ (seeds ++ 32 ∷ name)) (silence_lack s.silence is.silence)
    (lacks-append 10 seeds (32 ∷ name) (seeds_lack 10 refl refl refl refl refl s.seeds is.seeds) (lacks-plain name is.cluster.is_named.is_plain))

pub life_words-lack : (own generation : ℕ) (s : SettingsValue) → IsGeneration generation → MayStart own s → lacks 10 (life_words own generation s) ≡ true
life_words-lack own generation s first is =
    lacks-append 10 (endpoint_text own) (32 ∷ (decimal generation ++ 32 ∷ settings_text s)) (lacks-endpoint 10 own refl refl refl is.endpoint)
    (lacks-number 10 generation 32 (settings_text s) refl refl (omega (arith, first.1)) (settings_lack own s is))
