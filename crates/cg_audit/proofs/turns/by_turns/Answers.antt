use Rattle.std.proofs.Common.{◌≡◌, ◌<◌, ◌++◌, ◌∷◌, [], List, length, map, Option, Some, None, Ok, Err, true, sym, ap, ◌∙◌, subst, arith, slice_get, eqb-true, eq-eqb}
use Rattle.std.proofs.Math.ListN.{set, length-set}
use Rattle.std.proofs.lemmas.Option.{slice_get_within}
use Rattle.cg_types.specs.declared.fault.Fault.TheVariants.{OutOfMemory}
use Rattle.std.specs.Option.{option_map, option_to_list}
use Rattle.cg_audit.specs.Audit.{life_item}
use Rattle.cg_audit.specs.Steps.{run_item}
use Rattle.cg_audit.specs.Tracks.{IsFound, IsNext, found_of, heads_left, track_of, tracks}
use Rattle.cg_audit.specs.declared.item.AuditFault.TheVariants.{Stuck}
use Rattle.cg_audit.proofs.NextLemmas.{chosen_within, length_tracks}
use Rattle.cg_audit.proofs.StateLemmas.{IsAtTurn}
use Rattle.cg_audit.proofs.LivesLemmas.{all_gone, fewer_left, nobody_next, nothing_first, place_within, some_stuck, start_at, start_count, turn_over_lives}
use Rattle.cg_audit.proofs.turns.by_turns.Goals as goal

pub loop-place-init : goal.loop-place-init
loop-place-init c = record {
  count = start_count c.args.lives.now c.in_ok-cursors.cursors.items c.in_ok-cursors.ensures;
  at = start_at c.args.lives.now c.in_ok-cursors.cursors.items c.in_ok-cursors.ensures c.requires c.in_ok-sent.sent c.in_ok-sent.ensures c.new-items.result.items c.new-items.ensures.items;
}

pub lives_at-one-requires : goal.lives_at-one-requires
lives_at-one-requires c = place_within c.args.lives.now c.deref.result.now (ap length c.deref.ensures.value ∙ c.loop-place.invariant.count) c.loop-place.sent c.in-Some.place c.in-Some.ensures

pub cursor_at-cursor-requires : goal.cursor_at-cursor-requires
cursor_at-cursor-requires c =
    let few = place_within c.args.lives.now c.deref.result.now (ap length c.deref.ensures.value ∙ c.loop-place.invariant.count) c.loop-place.sent c.in-Some.place c.in-Some.ensures in
    omega (arith, few, ap length c.deref-in-Some.ensures.value, c.loop-place.invariant.count)

pub unreachable-requires : goal.unreachable-requires
unreachable-requires c =
    let cursors : c.deref.result.now ≡ c.loop-place.cursors.items = c.deref.ensures.value in
    let next = subst (λ cs. IsNext c.loop-place.sent (tracks c.args.lives.now cs) (Some c.in-Some.place)) cursors c.in-Some.ensures in
    let there : slice_get c.loop-place.cursors.items c.in-Some.place ≡ Some c.cursor_at-cursor.result = ap (λ cs. slice_get cs c.in-Some.place) (sym c.deref-in-Some.ensures.value) ∙ c.cursor_at-cursor.ensures in
    let none : c.first.result ≡ None = cc in
    nothing_first c.args.lives.now c.loop-place.cursors.items c.loop-place.invariant.count (map track_of c.args.lives.now) c.loop-place.sent c.loop-place.items.items c.loop-place.invariant.at
    c.in-Some.place next c.lives_at-one.result.now c.cursor_at-cursor.result c.lives_at-one.ensures there
    (ap (λ o. option_to_list (option_map run_item o)) (sym none) ∙ c.first.ensures)

pub index_mut-requires : goal.index_mut-requires
index_mut-requires c =
    let few = place_within c.args.lives.now c.deref.result.now (ap length c.deref.ensures.value ∙ c.loop-place.invariant.count) c.loop-place.sent c.in-Some.place c.in-Some.ensures in
    omega (arith, few, c.deref-in-Some.ensures.len, ap length c.deref-in-Some.ensures.value, c.loop-place.invariant.count)

pub loop-place-smaller : goal.loop-place-smaller
loop-place-smaller c =
    let next = subst (λ cs. IsNext c.loop-place.sent (tracks c.args.lives.now cs) (Some c.in-Some.place)) c.deref.ensures.value c.in-Some.ensures in
    let there : slice_get c.loop-place.cursors.items c.in-Some.place ≡ Some c.cursor_at-cursor.result = ap (λ cs. slice_get cs c.in-Some.place) (sym c.deref-in-Some.ensures.value) ∙ c.cursor_at-cursor.ensures in
    let less = fewer_left c.args.lives.now c.loop-place.cursors.items c.loop-place.invariant.count (map track_of c.args.lives.now) c.loop-place.sent c.loop-place.items.items c.loop-place.invariant.at
    c.in-Some.place next c.lives_at-one.result.now c.cursor_at-cursor.result c.lives_at-one.ensures there c.advanced.result c.advanced.ensures in
    omega (arith, less)

pub loop-place-preserved : goal.loop-place-preserved
loop-place-preserved c =
    let next = subst (λ cs. IsNext c.loop-place.sent (tracks c.args.lives.now cs) (Some c.in-Some.place)) c.deref.ensures.value c.in-Some.ensures in
    let there : slice_get c.loop-place.cursors.items c.in-Some.place ≡ Some c.cursor_at-cursor.result = ap (λ cs. slice_get cs c.in-Some.place) (sym c.deref-in-Some.ensures.value) ∙ c.cursor_at-cursor.ensures in
    record {
      count = length-set c.loop-place.cursors.items c.in-Some.place c.advanced.result ∙ c.loop-place.invariant.count;
      at = subst (IsAtTurn (map track_of c.args.lives.now) (tracks c.args.lives.now (set c.loop-place.cursors.items c.in-Some.place c.advanced.result)) c.in_ok-sent-2.sent) (sym c.in_ok-push.ensures.items)
          (turn_over_lives c.args.lives.now c.loop-place.cursors.items c.loop-place.invariant.count (map track_of c.args.lives.now) c.loop-place.sent c.loop-place.items.items c.loop-place.invariant.at
          c.in-Some.place next c.lives_at-one.result.now c.cursor_at-cursor.result c.lives_at-one.ensures there
          (run_item c.in-Some-first.step) c.advanced.result c.in_ok-sent-2.sent c.in-Some-first.ensures c.advanced.ensures c.in_ok-sent-2.ensures);
    }

pub returns-then-is_empty : goal.returns-then-is_empty
returns-then-is_empty c =
    let none : c.next.result ≡ None = cc in
    let next = subst (λ cs. IsNext c.loop-place.sent (tracks c.args.lives.now cs) c.next.result) c.deref.ensures.value c.next.ensures in
    let nobody = nobody_next c.loop-place.sent (tracks c.args.lives.now c.loop-place.cursors.items) c.next.result next none in
    let named : c.in_ok-heads.heads.items ≡ map life_item (heads_left (tracks c.args.lives.now c.loop-place.cursors.items)) = c.in_ok-heads.ensures ∙ ap (λ cs. map life_item (heads_left (tracks c.args.lives.now cs))) c.deref-2.ensures.value in
    let empty : length c.in_ok-heads.heads.items ≡ 0 = ap length (sym c.deref-3.ensures.value) ∙ eqb-true _ _ (sym c.is_empty.ensures ∙ c.if-is_empty.true) in
    let end = all_gone (map track_of c.args.lives.now) (tracks c.args.lives.now c.loop-place.cursors.items) c.loop-place.sent c.loop-place.items.items c.in_ok-heads.heads.items c.loop-place.invariant.at nobody named empty in
    subst (λ f. IsFound f (Ok (record { items = c.loop-place.items }))) (sym end.1) end.2

pub returns : goal.returns
returns c =
    let none : c.next.result ≡ None = cc in
    let next = subst (λ cs. IsNext c.loop-place.sent (tracks c.args.lives.now cs) c.next.result) c.deref.ensures.value c.next.ensures in
    let nobody = nobody_next c.loop-place.sent (tracks c.args.lives.now c.loop-place.cursors.items) c.next.result next none in
    let named : c.in_ok-heads.heads.items ≡ map life_item (heads_left (tracks c.args.lives.now c.loop-place.cursors.items)) = c.in_ok-heads.ensures ∙ ap (λ cs. map life_item (heads_left (tracks c.args.lives.now cs))) c.deref-2.ensures.value in
    let some : length c.in_ok-heads.heads.items ≡ 0 → ⊥ = λ e. let yes : c.is_empty.result ≡ true = c.is_empty.ensures ∙ eq-eqb _ _ (ap length c.deref-3.ensures.value ∙ e) in absurd cc in
    let end = some_stuck (map track_of c.args.lives.now) (tracks c.args.lives.now c.loop-place.cursors.items) c.loop-place.sent c.loop-place.items.items c.in_ok-heads.heads.items c.loop-place.invariant.at nobody named some in
    subst (λ f. IsFound f (Err (Stuck c.in_ok-heads.heads))) (sym end.1) end.2
