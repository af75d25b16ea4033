use Rattle.std.proofs.Common.{◌≡◌, ◌∙◌, ◌++◌, ℕ, List, length, map, ap, sym, rules}
use Rattle.std.specs.FinMap as table
use Rattle.cg_types.specs.Rising.{Rises}
use Rattle.std.specs.List.{filter_map}
use Rattle.cg_entry.specs.Values.{EntryValue}
use Rattle.cg_entry.specs.declared.digest.Digest.{Digest}
use Rattle.cg_messages.specs.declared.owner_delta.OwnerDelta.{OwnerDelta}
use Rattle.cg_messages.specs.Values.{RequestValue}
use Rattle.cg_exchange.specs.Walking.{row_request, row_delta}
use Rattle.cg_exchange.specs.Answering.{delta_for}
use Rattle.cg_exchange.proofs.AnswerLemmas.{deltas_listed}
use Rattle.cg_exchange.proofs.WalkLemmas.{side_by_side, rise_behind, join_step, join_end, left_behind, requests_walked, deltas_walked}
use Rattle.cg_exchange.proofs.answers.lists_for.Goals as goal

pub loop-rows-init : goal.loop-rows-init
loop-rows-init c =
    let rows : List (ℕ × EntryValue) = c.owners.result.now in
    let left = left_behind rows c.args.digests.now c.behind_same.result.0.now c.behind_same.result.1.now c.owners.ensures.rise c.requires c.behind_same.ensures in
    record {
      rows = left.rows_rise;
      named = left.digests_rise;
      asked = ap (λ (rs : List RequestValue). rs ++ side_by_side (λ d. d.endpoint) (λ r. r.0) row_request c.behind_same.result.1.now c.behind_same.result.0.now) c.new-requests.ensures.items ∙ left.asked ∙ ap (side_by_side (λ d. d.endpoint) (λ r. r.0) row_request c.args.digests.now) c.owners.ensures.value;
      sent = ap (λ (ds : List OwnerDelta). ds ++ side_by_side (λ r. r.0) (λ d. d.endpoint) row_delta c.behind_same.result.0.now c.behind_same.result.1.now) c.new-deltas.ensures.items ∙ left.sent ∙ ap (λ (rs : List (ℕ × EntryValue)). side_by_side (λ r. r.0) (λ d. d.endpoint) row_delta rs c.args.digests.now) c.owners.ensures.value;
    }

-- what a step leaves, behind a front of which nothing is due
pub loop-rows-preserved : goal.loop-rows-preserved
loop-rows-preserved c =
    let key = λ (d : Digest). d.endpoint in
    let owner = λ (r : ℕ × EntryValue). r.0 in
    let rows = c.loop-rows.rows.now in
    let named = c.loop-rows.named.now in
    let row = c.next.ensures in
    let digest = c.next-in-loop-rows.ensures in
    let rows_behind : List (ℕ × EntryValue) = c.next.result.1.now in
    let named_behind : List Digest = c.next-in-loop-rows.result.1.now in
    let rise : Rises (map owner rows_behind) = rw row.behind (rise_behind owner key rows named c.loop-rows.invariant.rows) in
    let named_rise : Rises (map key named_behind) = rw digest.behind (rise_behind key owner named rows c.loop-rows.invariant.named) in
    let left = left_behind rows_behind named_behind c.behind_same-in-loop-rows.result.0.now c.behind_same-in-loop-rows.result.1.now rise named_rise c.behind_same-in-loop-rows.ensures in
    let asked : c.push_some.new.items.items ++ side_by_side key owner row_request named_behind rows_behind ≡ side_by_side key owner row_request c.args.digests.now (table.entries c.args.table.now.entries) =
    rw (c.in_ok-push_some.ensures.ok, c.request_of_next-request.ensures, row.first, row.behind, digest.first, digest.behind)
    (join_step key owner row_request c.loop-rows.requests.items named rows c.loop-rows.invariant.named ∙ c.loop-rows.invariant.asked) in
    let sent : c.push_some_with_room.new.items.items ++ side_by_side owner key row_delta rows_behind named_behind ≡ side_by_side owner key row_delta (table.entries c.args.table.now.entries) c.args.digests.now =
    rw (c.in_ok-push_some_with_room.ensures.ok, c.delta_of_next-delta.ensures, row.first, row.behind, digest.first, digest.behind)
    (join_step owner key row_delta c.loop-rows.deltas.items rows named c.loop-rows.invariant.rows ∙ c.loop-rows.invariant.sent) in
    record {
      rows = left.rows_rise;
      named = left.digests_rise;
      asked = ap (λ (rs : List RequestValue). c.push_some.new.items.items ++ rs) left.asked ∙ asked;
      sent = ap (λ (ds : List OwnerDelta). c.push_some_with_room.new.items.items ++ ds) left.sent ∙ sent;
    }

pub returns-clause-requests : goal.returns-clause-requests
returns-clause-requests c =
    let none : length c.loop-rows.named.now ≡ 0 = search rules in
    join_end (λ d. d.endpoint) (λ r. r.0) row_request c.loop-rows.requests.items _ c.loop-rows.named.now c.loop-rows.rows.now none c.loop-rows.invariant.asked
    ∙ requests_walked c.args.table.now.entries c.args.digests.now c.requires

pub returns-clause-deltas : goal.returns-clause-deltas
returns-clause-deltas c =
    let none : length c.loop-rows.rows.now ≡ 0 = search rules in
    join_end (λ r. r.0) (λ d. d.endpoint) row_delta c.loop-rows.deltas.items _ c.loop-rows.rows.now c.loop-rows.named.now none c.loop-rows.invariant.sent
    ∙ deltas_walked c.args.table.now.entries c.args.digests.now c.requires

pub returns-clause-listed : goal.returns-clause-listed
returns-clause-listed c =
    let rows = c.owners.result.now in
    let made : c.loop-rows.deltas.items ≡ filter_map (delta_for c.args.digests.now) rows = returns-clause-deltas c ∙ ap (filter_map (delta_for c.args.digests.now)) (sym c.owners.ensures.value) in
    rw made (deltas_listed rows c.args.digests.now c.owners.ensures.rise c.owners.ensures.few)
