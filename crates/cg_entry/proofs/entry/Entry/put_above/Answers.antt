use Rattle.std.proofs.Common.{◌≡◌, ◌++◌, ◌∙◌, ℕ, List, [], ◌∷◌, Option, length, append_assoc, append-nil, refl, sym, ap, arith}
use Rattle.std.specs.List.{flat_map}
use Rattle.std.specs.FinMap.{entries}
use Rattle.cg_entry.specs.declared.spelled.Head.{Head}
use Rattle.cg_entry.specs.declared.state.State.{State}
use Rattle.cg_entry.specs.Entry.{newer_than}
use Rattle.cg_entry.specs.Section.{state, head}
use Rattle.cg_entry.specs.State.{pair}
use Rattle.cg_entry.specs.Values.{EntryValue}
use Rattle.cg_entry.specs.Versioned.{Versioned}
use Rattle.cg_entry.proofs.FewLemmas.{entries_few}
use Rattle.cg_entry.proofs.NewerLemmas.{entries-empty}
use Rattle.cg_entry.proofs.SectionLemmas.{spelled_above, one_spelled, one_entry}
use Rattle.cg_entry.proofs.entry.Entry.put_above.Goals as goal

pub put_head-requires-in-Each : goal.put_head-requires-in-Each
put_head-requires-in-Each c = omega (arith, c.count.ensures.value, entries_few c.args.self.now.states c.count.ensures.valid.states)

pub returns-in_ok-put_head-in-Nothing : goal.returns-in_ok-put_head-in-Nothing
returns-in_ok-put_head-in-Nothing c =
    let e : EntryValue = c.args.self.now in
    let h : Head = record { endpoint = c.args.owner; generation = c.self.inside.generation; above = c.args.above; heartbeat = c.self.inside.heartbeat } in
    let of_generation : h.generation ≡ e.generation = ap (λ (x : EntryValue). x.generation) c.self.view_is in
    let of_heartbeat : h.heartbeat ≡ e.heartbeat = ap (λ (x : EntryValue). x.heartbeat) c.self.view_is in
    let none : entries (newer_than h.above e.states) ≡ [] = entries-empty (newer_than h.above e.states) c.in-Nothing.ensures in
    c.in_ok-put_head-in-Nothing.ensures ∙ sym (append-nil (c.args.out.now.items ++ head h 0)) ∙ spelled_above c.args.out.now.items h e [] 0 of_generation of_heartbeat none refl

pub returns-in_ok-extend_from_slice-in-Each : goal.returns-in_ok-extend_from_slice-in-Each
returns-in_ok-extend_from_slice-in-Each c =
    let e : EntryValue = c.args.self.now in
    let h : Head = record { endpoint = c.args.owner; generation = c.self.inside.generation; above = c.args.above; heartbeat = c.self.inside.heartbeat } in
    let of_generation : h.generation ≡ e.generation = ap (λ (x : EntryValue). x.generation) c.self.view_is in
    let of_heartbeat : h.heartbeat ≡ e.heartbeat = ap (λ (x : EntryValue). x.heartbeat) c.self.view_is in
    c.in_ok-extend_from_slice-in-Each.ensures.items ∙ (λ i. c.in_ok-put_head-in-Each.ensures i ++ c.in-Each.ensures.1 i)
    ∙ spelled_above c.args.out.now.items h e (entries e.states) c.count.result of_generation of_heartbeat (ap entries c.in-Each.ensures.0) c.count.ensures.value

pub returns-in_ok-put_state-in-Last : goal.returns-in_ok-put_state-in-Last
returns-in_ok-put_state-in-Last c =
    let e : EntryValue = c.args.self.now in
    let h : Head = record { endpoint = c.args.owner; generation = c.self.inside.generation; above = c.args.above; heartbeat = c.self.inside.heartbeat } in
    let of_generation : h.generation ≡ e.generation = ap (λ (x : EntryValue). x.generation) c.self.view_is in
    let of_heartbeat : h.heartbeat ≡ e.heartbeat = ap (λ (x : EntryValue). x.heartbeat) c.self.view_is in
    let s : State = c.in-Last.state.now in
    let put : c.put_state.new.out.items ≡ c.put_head-in-Last.new.out.items ++ state (pair s) = c.in_ok-put_state-in-Last.ensures ∙ ap (λ (t : Option (List ℕ)). c.put_head-in-Last.new.out.items ++ state (s.key, record { text = t; version = s.version })) c.as_ref.ensures.value in
    put ∙ (λ i. c.in_ok-put_head-in-Last.ensures i ++ sym (one_spelled (pair s)) i)
    ∙ spelled_above c.args.out.now.items h e (pair s ∷ []) 1 of_generation of_heartbeat (one_entry s (newer_than h.above e.states) c.in-Last.ensures) refl

pub returns-in_ok-put_some-in-Some : goal.returns-in_ok-put_some-in-Some
returns-in_ok-put_some-in-Some c =
    let e : EntryValue = c.args.self.now in
    let h : Head = record { endpoint = c.args.owner; generation = c.self.inside.generation; above = c.args.above; heartbeat = c.self.inside.heartbeat } in
    let of_generation : h.generation ≡ e.generation = ap (λ (x : EntryValue). x.generation) c.self.view_is in
    let of_heartbeat : h.heartbeat ≡ e.heartbeat = ap (λ (x : EntryValue). x.heartbeat) c.self.view_is in
    let es : List (ℕ × Versioned) = entries (newer_than h.above e.states) in
    c.in_ok-put_some-in-Some.ensures ∙ sym (append_assoc c.args.out.now.items (head h (length es)) (flat_map state es)) ∙ spelled_above c.args.out.now.items h e es (length es) of_generation of_heartbeat refl refl
