use Rattle.std.proofs.Common.{◌≡◌, ◌++◌, ◌∙◌, ℕ, List, append_assoc, length, nat_lt, ap, sym, arith}
use Rattle.std.specs.List.{filter, flat_map}
use Rattle.std.specs.FinMap.{entries}
use Rattle.cg_entry.specs.Entry.{newer_than}
use Rattle.cg_entry.specs.Section.{state, head}
use Rattle.cg_entry.specs.Versioned.{Versioned}
use Rattle.cg_entry.proofs.DeltaLemmas.{entries-newer_than}
use Rattle.cg_entry.proofs.FewLemmas.{entries_few}
use Rattle.cg_entry.proofs.NewerLemmas.{filter_few}
use Rattle.cg_entry.proofs.entry.Entry.put_some.Goals as goal

pub put_head-requires : goal.put_head-requires
put_head-requires c =
    let es : List (ℕ × Versioned) = entries c.args.self.now.states in
    let same : c.newer_count.result ≡ length (filter (λ (s : ℕ × Versioned). nat_lt c.args.head.above s.1.version) es) = c.newer_count.ensures ∙ ap (λ (xs : List (ℕ × Versioned)). length (filter (λ (s : ℕ × Versioned). nat_lt c.args.head.above s.1.version) xs)) c.by_key-states.ensures in
    omega (arith, same, filter_few (λ (s : ℕ × Versioned). nat_lt c.args.head.above s.1.version) es, entries_few c.args.self.now.states c.show.ensures.states)

pub returns : goal.returns
returns c =
    let es : List (ℕ × Versioned) = entries c.args.self.now.states in
    let newer : List (ℕ × Versioned) = filter (λ (s : ℕ × Versioned). nat_lt c.args.head.above s.1.version) es in
    let is : newer ≡ entries (newer_than c.args.head.above c.args.self.now.states) = sym (entries-newer_than c.args.head.above c.args.self.now.states) in
    let count : c.newer_count.result ≡ length newer = c.newer_count.ensures ∙ ap (λ (xs : List (ℕ × Versioned)). length (filter (λ (s : ℕ × Versioned). nat_lt c.args.head.above s.1.version) xs)) c.by_key-states.ensures in
    c.in_ok-put_newer.ensures
    ∙ ap (λ (xs : List (ℕ × Versioned)). c.put_head.new.out.items ++ flat_map state (filter (λ (s : ℕ × Versioned). nat_lt c.args.head.above s.1.version) xs)) c.by_key-states.ensures
    ∙ ap (λ (ys : List ℕ). ys ++ flat_map state newer) c.in_ok-put_head.ensures
    ∙ append_assoc c.args.out.now.items (head c.args.head c.newer_count.result) (flat_map state newer)
    ∙ ap (λ (n : ℕ). c.args.out.now.items ++ (head c.args.head n ++ flat_map state newer)) count
    ∙ ap (λ (xs : List (ℕ × Versioned)). c.args.out.now.items ++ (head c.args.head (length xs) ++ flat_map state xs)) is
