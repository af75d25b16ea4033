-- A first line is read as the start of a life.
use Rattle.std.proofs.Common.{◌≡◌, ℕ, ◌≤◌, zero, suc, Bool, true, false, cond, not, List, [], ◌∷◌, length, Option, Some, None, Ok, Err, Result, IfSome, refl, arith, leb-true, eqb-true, decimal, ◌-◌}
use Rattle.std.specs.Prelude.{◌==◌, nat_le, nat_lt, bytes_eq, codes}
use Rattle.std.specs.Int.{is_in_range}
use Rattle.std.specs.List.{AllByRecursion}
use Rattle.std.proofs.lemmas.Bool.{and_parts, ltb-false, eqb-false}
use Rattle.cg_types.specs.declared.fault.Fault.{Fault}
use Rattle.cg_types.specs.declared.fault.Fault.TheVariants.{TooLong, BadText}
use Rattle.cg_types.specs.declared.limits.TheConstants.{PARTITIONER, NAME_LIMIT, NUMBER_LIMIT}
use Rattle.cg_types.specs.EndpointText.{endpoint_in}
use Rattle.cg_types.specs.Numbers.{IsEndpoint, IsGeneration}
use Rattle.cg_types.specs.OptionSteps.{◌>>=◌}
use Rattle.cg_types.specs.Rising.{rise_past}
use Rattle.cg_types.specs.Text.{ClusterValue, IsCluster, cluster_of, plain}
use Rattle.cg_types.specs.Words.{cut_at, generation_in}
use Rattle.cg_types.proofs.EndpointLaws.{endpoint_in-some}
use Rattle.cg_types.proofs.WordLemmas.{between_found}
use Rattle.cg_silence.specs.declared.fault.SilenceFault.{SilenceFault}
use Rattle.cg_silence.specs.declared.fault.SilenceFault.TheVariants as silence_fault
use Rattle.cg_silence.specs.declared.limits.TheConstants.{WINDOW_LIMIT, GAP_LIMIT, THRESHOLD_LIMIT}
use Rattle.cg_silence.specs.Values.{SilenceValue, IsSilence, silence_of}
use Rattle.cg_silence.specs.Settings.{settings_or_fault as silence_or_fault}
use Rattle.cg_core.specs.declared.fault.SettingsFault.{SettingsFault}
use Rattle.cg_core.specs.declared.fault.SettingsFault.TheVariants as settings_fault
use Rattle.cg_core.specs.declared.limits.TheConstants.{SEED_LIMIT}
use Rattle.cg_core.specs.Settings.{settings_or_fault}
use Rattle.cg_core.specs.SettingsValues.{SettingsValue, IsSettings, settings_of_parts}
use Rattle.cg_history.specs.History.{new_history}
use Rattle.cg_text.specs.Gives.{readable}
use Rattle.cg_text.specs.Words.{endpoint_before, endpoints_by, endpoints_in}
use Rattle.cg_journal.specs.Reading.{generation_before, setting_before, silence_before, seeds_in, settings_in, life_behind, life_of_parts, life_in}
use Rattle.cg_journal.specs.Contents.{IsWritable}
use Rattle.cg_journal.proofs.EventsHeld.{held_bind, held_cond, held_weaker, held_any}
use Rattle.cg_journal.proofs.Writable.{writable_histories_go_on}

abbrev Parts : Type 0
Parts = List ℕ × List ℕ

-- ---- words

endpoint_by : (text : List ℕ) (o : Option ℕ) → endpoint_in text ≡ o → IfSome o IsEndpoint
endpoint_by text None is = tt
endpoint_by text (Some e) is = (endpoint_in-some text e is).0

endpoint_held : (text : List ℕ) → IfSome (endpoint_in text) IsEndpoint
endpoint_held text = endpoint_by text (endpoint_in text) refl

endpoint_before-held : (words : List ℕ) → IfSome (endpoint_before words) (λ p. IsEndpoint p.0)
unfolding endpoint_before
endpoint_before-held words =
    let Q : ℕ × List ℕ → Type 0 = λ p. IsEndpoint p.0 in
    held_bind (λ (_ : Parts). Unit) Q (cut_at 32 words) (λ parts. endpoint_in parts.0 >>= λ endpoint. Some (endpoint, parts.1)) (held_any (cut_at 32 words))
    (λ parts _. held_bind IsEndpoint Q (endpoint_in parts.0) (λ endpoint. Some (endpoint, parts.1)) (endpoint_held parts.0) (λ e is. is))

generation_held : (text : List ℕ) → IfSome (generation_in text) IsGeneration
generation_held text =
    held_weaker (λ (n : ℕ). (text ≡ decimal n) × (1 ≤ n) × (n ≤ NUMBER_LIMIT - 1)) IsGeneration (generation_in text) (λ n is. (omega (arith, is.1), omega (arith, is.2)))
    (between_found 1 (NUMBER_LIMIT - 1) text (generation_in text) (omega arith) refl)

generation_before-held : (words : List ℕ) → IfSome (generation_before words) (λ p. IsGeneration p.0)
unfolding generation_before
generation_before-held words =
    let Q : ℕ × List ℕ → Type 0 = λ p. IsGeneration p.0 in
    held_bind (λ (_ : Parts). Unit) Q (cut_at 32 words) (λ parts. generation_in parts.0 >>= λ generation. Some (generation, parts.1)) (held_any (cut_at 32 words))
    (λ parts _. held_bind IsGeneration Q (generation_in parts.0) (λ generation. Some (generation, parts.1)) (generation_held parts.0) (λ n is. is))

-- ---- limits of silence

record IsWithin (low high n : ℕ) : Type 0 where
  above : low ≤ n
  under : n ≤ high

within : (low high n : ℕ) → is_in_range low high n ≡ true → IsWithin low high n
within low high n is =
    let parts = and_parts (nat_le low n) (nat_le n high) is in
    record { above = leb-true low n parts.0; under = leb-true n high parts.1 }

silence_by : (s : SilenceValue) (a b c d : Bool) → is_in_range 1 WINDOW_LIMIT s.window ≡ a → is_in_range 1 GAP_LIMIT s.max_gap ≡ b
    → is_in_range 1 s.max_gap s.initial_gap ≡ c → is_in_range 1 THRESHOLD_LIMIT s.threshold ≡ d
    → IfSome (readable (cond {A = Result SilenceValue SilenceFault} (not a) (Err silence_fault.Window) (cond (not b) (Err silence_fault.MaxGap) (cond (not c) (Err silence_fault.InitialGap) (cond (not d) (Err silence_fault.Threshold) (Ok s)))))) IsSilence
silence_by s false b c d p q r t = tt
silence_by s true false c d p q r t = tt
silence_by s true true false d p q r t = tt
silence_by s true true true false p q r t = tt
silence_by s true true true true p q r t =
    let window = within 1 WINDOW_LIMIT s.window p in
    let gap = within 1 GAP_LIMIT s.max_gap q in
    let initial = within 1 s.max_gap s.initial_gap r in
    let threshold = within 1 THRESHOLD_LIMIT s.threshold t in
    record {
      some_gaps = omega (arith, window.above);
      few_gaps = window.under;
      some_time = omega (arith, initial.above);
      initial_within = initial.under;
      max_within = gap.under;
      some_threshold = omega (arith, threshold.above);
      threshold_within = threshold.under;
    }

silence_checked : (s : SilenceValue) → IfSome (readable (silence_or_fault s)) IsSilence
silence_checked s =
    silence_by s (is_in_range 1 WINDOW_LIMIT s.window) (is_in_range 1 GAP_LIMIT s.max_gap) (is_in_range 1 s.max_gap s.initial_gap) (is_in_range 1 THRESHOLD_LIMIT s.threshold) refl refl refl refl

silence_held : (words : List ℕ) → IfSome (silence_before words) (λ p. IsSilence p.0)
unfolding silence_before
silence_held words =
    let Q : SilenceValue × List ℕ → Type 0 = λ p. IsSilence p.0 in
    let P : ℕ × List ℕ → Type 0 = λ _. Unit in
    held_bind P Q (setting_before words) (λ window. setting_before window.1 >>= λ initial. setting_before initial.1 >>= λ greatest. setting_before greatest.1 >>= λ threshold. readable (silence_or_fault (silence_of window.0 initial.0 greatest.0 threshold.0)) >>= λ silence. Some (silence, threshold.1)) (held_any (setting_before words))
    (λ window _. held_bind P Q (setting_before window.1) (λ initial. setting_before initial.1 >>= λ greatest. setting_before greatest.1 >>= λ threshold. readable (silence_or_fault (silence_of window.0 initial.0 greatest.0 threshold.0)) >>= λ silence. Some (silence, threshold.1)) (held_any (setting_before window.1))
    (λ initial _. held_bind P Q (setting_before initial.1) (λ greatest. setting_before greatest.1 >>= λ threshold. readable (silence_or_fault (silence_of window.0 initial.0 greatest.0 threshold.0)) >>= λ silence. Some (silence, threshold.1)) (held_any (setting_before initial.1))
    (λ greatest _. held_bind P Q (setting_before greatest.1) (λ threshold. readable (silence_or_fault (silence_of window.0 initial.0 greatest.0 threshold.0)) >>= λ silence. Some (silence, threshold.1)) (held_any (setting_before greatest.1))
    (λ threshold _. held_bind IsSilence Q (readable (silence_or_fault (silence_of window.0 initial.0 greatest.0 threshold.0))) (λ silence. Some (silence, threshold.1)) (silence_checked (silence_of window.0 initial.0 greatest.0 threshold.0)) (λ silence is. is)))))

-- ---- seeds

abbrev AreSeeds : List ℕ → Type 0
AreSeeds seeds = AllByRecursion IsEndpoint seeds

seeds_by : (others : List ℕ → Option (List ℕ)) → ((rest : List ℕ) → IfSome (others rest) AreSeeds) → (text : List ℕ) (parts : Option Parts) → IfSome (endpoints_by others text parts) AreSeeds
seeds_by others are text None = held_bind IsEndpoint AreSeeds (endpoint_in text) (λ endpoint. Some (endpoint ∷ [])) (endpoint_held text) (λ e is. (is, tt))
seeds_by others are text (Some parts) =
    held_bind IsEndpoint AreSeeds (endpoint_in parts.0) (λ endpoint. others parts.1 >>= λ endpoints. Some (endpoint ∷ endpoints)) (endpoint_held parts.0)
    (λ e is. held_bind AreSeeds AreSeeds (others parts.1) (λ endpoints. Some (e ∷ endpoints)) (are parts.1) (λ es all. (is, all)))

endpoints_held : (at most : ℕ) (text : List ℕ) → IfSome (endpoints_in at most text) AreSeeds
unfolding endpoints_in
endpoints_held at zero text = tt
endpoints_held at (suc most) text = seeds_by (endpoints_in at most) (endpoints_held at most) text (cut_at at text)

seeds_held : (word : List ℕ) → IfSome (seeds_in word) AreSeeds
unfolding seeds_in
seeds_held word = held_cond AreSeeds (bytes_eq word (codes "-")) (Some []) (endpoints_in 44 SEED_LIMIT word) tt (endpoints_held 44 SEED_LIMIT word)

-- ---- settings

cluster_by : (name : List ℕ) (long none is_plain : Bool) → nat_lt NAME_LIMIT (length name) ≡ long → (length name == 0) ≡ none → plain name ≡ is_plain
    → IfSome (readable (cond {A = Result ClusterValue Fault} long (Err TooLong) (cond none (Err BadText) (cond is_plain (Ok (record { name = name; partitioner = PARTITIONER })) (Err BadText))))) IsCluster
cluster_by name true none is_plain p q r = tt
cluster_by name false true is_plain p q r = tt
cluster_by name false false false p q r = tt
cluster_by name false false true p q r =
    let some : length name ≡ 0 → ⊥ = eqb-false (length name) 0 q in
    record { is_named = record { is_plain = r; some = omega (arith, some); fits = ltb-false NAME_LIMIT (length name) p }; is_byte = omega arith }

cluster_held : (name : List ℕ) → IfSome (readable (cluster_of name PARTITIONER)) IsCluster
cluster_held name = cluster_by name (nat_lt NAME_LIMIT (length name)) (length name == 0) (plain name) refl refl refl

-- properties of settings that are read
record AreAllowed (s : SettingsValue) : Type 0 where
  settings : IsSettings s
  cluster : IsCluster s.cluster
  seeds : AreSeeds s.seeds
  silence : IsSilence s.silence

settings_by : (s : SettingsValue) (a b c : Bool) → (s.cluster.partitioner == PARTITIONER) ≡ a → nat_lt SEED_LIMIT (length s.seeds) ≡ b → rise_past None s.seeds ≡ c
    → IsCluster s.cluster → AreSeeds s.seeds → IsSilence s.silence
    → IfSome (readable (cond {A = Result SettingsValue SettingsFault} (not a) (Err settings_fault.Partitioner) (cond b (Err settings_fault.SeedCount) (cond (not c) (Err settings_fault.SeedOrder) (Ok s))))) AreAllowed
settings_by s false b c p q r cluster seeds silence = tt
settings_by s true true c p q r cluster seeds silence = tt
settings_by s true false false p q r cluster seeds silence = tt
settings_by s true false true p q r cluster seeds silence = record {
  settings = record { in_use = eqb-true s.cluster.partitioner PARTITIONER p; rise = r; few = ltb-false SEED_LIMIT (length s.seeds) q };
  cluster = cluster;
  seeds = seeds;
  silence = silence;
}

settings_checked : (s : SettingsValue) → IsCluster s.cluster → AreSeeds s.seeds → IsSilence s.silence → IfSome (readable (settings_or_fault s)) AreAllowed
settings_checked s = settings_by s (s.cluster.partitioner == PARTITIONER) (nat_lt SEED_LIMIT (length s.seeds)) (rise_past None s.seeds) refl refl refl

settings_held : (words : List ℕ) → IfSome (settings_in words) AreAllowed
unfolding settings_in
settings_held words =
    held_bind (λ (p : SilenceValue × List ℕ). IsSilence p.0) AreAllowed (silence_before words) (λ silence. cut_at 32 silence.1 >>= λ parts. seeds_in parts.0 >>= λ seeds. readable (cluster_of parts.1 PARTITIONER) >>= λ cluster. readable (settings_or_fault (settings_of_parts cluster seeds silence.0))) (silence_held words)
    (λ silence judged. held_bind (λ (_ : Parts). Unit) AreAllowed (cut_at 32 silence.1) (λ parts. seeds_in parts.0 >>= λ seeds. readable (cluster_of parts.1 PARTITIONER) >>= λ cluster. readable (settings_or_fault (settings_of_parts cluster seeds silence.0))) (held_any (cut_at 32 silence.1))
    (λ parts _. held_bind AreSeeds AreAllowed (seeds_in parts.0) (λ seeds. readable (cluster_of parts.1 PARTITIONER) >>= λ cluster. readable (settings_or_fault (settings_of_parts cluster seeds silence.0))) (seeds_held parts.0)
    (λ seeds are. held_bind IsCluster AreAllowed (readable (cluster_of parts.1 PARTITIONER)) (λ cluster. readable (settings_or_fault (settings_of_parts cluster seeds silence.0))) (cluster_held parts.1)
    (λ cluster is. settings_checked (settings_of_parts cluster seeds silence.0) is are judged))))

-- ---- the line

begins : (own generation : ℕ) (s : SettingsValue) → IsEndpoint own → IsGeneration generation → AreAllowed s → IsWritable (new_history own generation s)
begins own generation s endpoint first is =
    writable_histories_go_on.begins own generation s first (record { endpoint = endpoint; settings = is.settings; cluster = is.cluster; seeds = is.seeds; silence = is.silence })

behind_held : (words : List ℕ) → IfSome (life_behind words) IsWritable
unfolding life_behind
behind_held words =
    held_bind (λ (p : ℕ × List ℕ). IsEndpoint p.0) IsWritable (endpoint_before words) (λ own. generation_before own.1 >>= λ generation. settings_in generation.1 >>= λ settings. Some (new_history own.0 generation.0 settings)) (endpoint_before-held words)
    (λ own endpoint. held_bind (λ (p : ℕ × List ℕ). IsGeneration p.0) IsWritable (generation_before own.1) (λ generation. settings_in generation.1 >>= λ settings. Some (new_history own.0 generation.0 settings)) (generation_before-held own.1)
    (λ generation first. held_bind AreAllowed IsWritable (settings_in generation.1) (λ settings. Some (new_history own.0 generation.0 settings)) (settings_held generation.1)
    (λ settings is. begins own.0 generation.0 settings endpoint first is)))

parts_held : (parts : Option Parts) → IfSome (life_of_parts parts) IsWritable
parts_held None = tt
parts_held (Some p) = held_cond IsWritable (bytes_eq p.0 (codes "life")) (life_behind p.1) None (behind_held p.1) tt

pub life_held : (line : List ℕ) → IfSome (life_in line) IsWritable
unfolding life_in
life_held line = parts_held (cut_at 32 line)
