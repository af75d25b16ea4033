use Rattle.std.proofs.Common.{◌≡◌, ◌∙◌, ◌+◌, ◌++◌, ℕ, List, [], ◌∷◌, drop, None, ap}
use Rattle.std.specs.Option.{option_to_list}
use Rattle.cg_entry.specs.Values.{EntryValue}
use Rattle.cg_table.specs.Taking.{Change}
use Rattle.cg_messages.specs.declared.owner_delta.OwnerDelta.{OwnerDelta}
use Rattle.cg_messages.specs.declared.outcome.Outcome.{Outcome}
use Rattle.cg_exchange.specs.Changes.{changed_by, row_by, outcome_by}
use Rattle.cg_exchange.specs.Walking.{first_about, from_owner}
use Rattle.cg_exchange.proofs.WalkLemmas.{side_by_side, rise_from, walk_step, walk_end, rows_walked, outcomes_walked}
use Rattle.cg_exchange.proofs.taking.changes.Goals as goal

pub loop-sent-preserved : goal.loop-sent-preserved
loop-sent-preserved c =
    let key = λ (d : OwnerDelta). d.endpoint in
    let owner = λ (r : ℕ × EntryValue). r.0 in
    let t = c.args.table.now in
    let ds = c.args.deltas.now in
    let at = c.loop-sent.sent-index in
    let d : OwnerDelta = c.sent-item.result in
    let held = c.loop-sent.held.now in
    let from = c.rising_from-held.ensures in
    let made : (c.in_ok-row.row, c.in_ok-row.took) ≡ changed_by t d (first_about owner d.endpoint (from_owner owner d.endpoint held)) = c.in_ok-row.ensures ∙ ap (changed_by t d) (c.first_about.ensures ∙ ap (first_about owner d.endpoint) from) in
    let told : Change → List Outcome = λ x. record { endpoint = d.endpoint; took = x.1 } ∷ [] in
    record {
      rise = rw from (rise_from owner d.endpoint None held c.loop-sent.invariant.rise);
      rows = rw c.in_ok-push_some.ensures.ok (
          (λ i. (c.loop-sent.rows.items ++ option_to_list ((made i).0)) ++ side_by_side key owner (row_by t) (drop (at + 1) ds) (from i))
          ∙ walk_step key owner (row_by t) c.loop-sent.rows.items ds held at d c.loop-sent-test.true c.sent-item.is ∙ c.loop-sent.invariant.rows
          );
      outcomes = rw c.in_ok-push.ensures.items (
          (λ i. (c.loop-sent.outcomes.items ++ told (made i)) ++ side_by_side key owner (outcome_by t) (drop (at + 1) ds) (from i))
          ∙ walk_step key owner (outcome_by t) c.loop-sent.outcomes.items ds held at d c.loop-sent-test.true c.sent-item.is ∙ c.loop-sent.invariant.outcomes
          );
    }

pub returns-clause-rows : goal.returns-clause-rows
returns-clause-rows c =
    walk_end (λ d. d.endpoint) (λ r. r.0) (row_by c.args.table.now) c.loop-sent.rows.items _ c.args.deltas.now c.loop-sent.held.now c.loop-sent.sent-index c.loop-sent-test.false c.loop-sent.invariant.rows
    ∙ rows_walked c.args.table.now c.args.deltas.now c.requires

pub returns-clause-outcomes : goal.returns-clause-outcomes
returns-clause-outcomes c =
    walk_end (λ d. d.endpoint) (λ r. r.0) (outcome_by c.args.table.now) c.loop-sent.outcomes.items _ c.args.deltas.now c.loop-sent.held.now c.loop-sent.sent-index c.loop-sent-test.false c.loop-sent.invariant.outcomes
    ∙ outcomes_walked c.args.table.now c.args.deltas.now c.requires
