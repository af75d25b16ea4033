-- After a beat, a set or a removal the version given is the newest.
use Rattle.std.proofs.Common.{◌≡◌, ℕ, ◌+◌, List, Option, sym, ap, ◌∙◌, Bool, true, false, cond}
use Rattle.std.specs.Prelude.{Result, Ok, Err, nat_lt}
use Rattle.std.specs.FinMap.{insert}
use Rattle.cg_types.specs.declared.fault.Fault.{Fault}
use Rattle.cg_types.specs.declared.fault.Fault.TheVariants.{VersionsSpent}
use Rattle.cg_types.specs.declared.limits.TheConstants.{NUMBER_LIMIT}
use Rattle.cg_version.specs.Version.{next_version}
use Rattle.cg_entry.specs.Versioned.{States}
use Rattle.cg_entry.specs.Values.{EntryValue}
use Rattle.cg_entry.specs.Entry.{newest, with_state}
use Rattle.cg_entry.proofs.HistoryLemmas.{newest_beaten, newest_given}

next_by : (b : Bool) (n v : ℕ) → cond {A = Result ℕ Fault} b (Ok n) (Err VersionsSpent) ≡ Ok v → v ≡ n
next_by true n v e = cc
next_by false n v e = absurd cc

-- a version that is given is the next one
pub next_is : (last v : ℕ) → next_version last ≡ Ok v → v ≡ last + 1
next_is last v e = next_by (nat_lt (last + 1) NUMBER_LIMIT) (last + 1) v e

module _ (generation heartbeat last v : ℕ) (states : States) (e : EntryValue) (is : record { generation = generation; heartbeat = heartbeat; states = states } ≡ e) (at : last ≡ newest e) (next : next_version last ≡ Ok v) where
  one_more : v ≡ newest e + 1
  one_more = next_is last v next ∙ ap (λ n. n + 1) at

  pub beat_stands : v ≡ newest (record { generation = generation; heartbeat = v; states = states })
  beat_stands =
      one_more ∙ sym (newest_beaten e)
      ∙ ap newest (ap (λ (n : ℕ). record { generation = e.generation; heartbeat = n; states = e.states }) (sym one_more) ∙ ap (λ (x : EntryValue). record { generation = x.generation; heartbeat = v; states = x.states }) (sym is))

  -- a text or a tombstone with that version at a key
  pub set_is : (key : ℕ) (text : Option (List ℕ)) (after : States) → after ≡ insert states key (record { text = text; version = v }) → record { generation = generation; heartbeat = heartbeat; states = after } ≡ with_state key text e
  set_is key text after put =
      ap (λ (m : States). record { generation = generation; heartbeat = heartbeat; states = m }) (put ∙ ap (λ (n : ℕ). insert states key (record { text = text; version = n })) one_more)
      ∙ ap (λ (x : EntryValue). record { generation = x.generation; heartbeat = x.heartbeat; states = insert x.states key (record { text = text; version = newest e + 1 }) }) is

  pub set_stands : (key : ℕ) (text : Option (List ℕ)) (after : States) → after ≡ insert states key (record { text = text; version = v }) → v ≡ newest (record { generation = generation; heartbeat = heartbeat; states = after })
  set_stands key text after put = one_more ∙ sym (newest_given key text e) ∙ ap newest (sym (set_is key text after put))
