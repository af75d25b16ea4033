use Rattle.std.proofs.Common.{◌≡◌, ◌+◌, List, Result, drop, sym, subst, ◌∙◌, arith, true, false}
use Rattle.std.proofs.lemmas.List.{drop_all}
use Rattle.cg_types.specs.declared.fault.Fault.{Fault}
use Rattle.cg_world.specs.declared.world.Shown.{Shown}
use Rattle.cg_world.specs.Acting.{found_no_memory, Ran}
use Rattle.cg_world.specs.World.{new_world}
use Rattle.cg_world.proofs.ActingLemmas.{RunsOn, runs_next, runs_out, runs_end, split_at, headline_ran, consistent_ran, consistent_world_ran}
use Rattle.cg_world.proofs.world.World.run_in.Goals as goal

pub loop-action-preserved : goal.loop-action-preserved
loop-action-preserved c =
    let begin = new_world c.args.settings in
    let at = c.loop-action.action-index in
    let actions = c.args.actions.now in
    let action = c.action-item.result in
    let next = c.act-answer.new.self in
    let found : found_no_memory c.act-answer.result ≡ false = sym c.is_out_of_memory-ends.ensures ∙ c.if-ends.false in
    let runs = runs_next begin c.loop-action.world next actions (drop at actions) (drop (at + 1) actions) action c.loop-action.answers.items c.act-answer.result c.loop-action.invariant.0
    (split_at actions at action c.loop-action-test.true c.action-item.is) c.act-answer.ensures.shown found c.act-answer.ensures.done c.act-answer.ensures.err in (
      subst (λ (items : List (Result Shown Fault)). RunsOn begin actions next (drop (at + 1) actions) items) (sym c.push_reserved.ensures.items) runs,
      omega (arith, c.push_reserved.ensures.len, c.loop-action.invariant.1),
      omega (arith, c.push_reserved.ensures.capacity, c.loop-action.invariant.2),
    )

ran_short : (c : goal.Then-ends) → Ran (new_world c.args.settings) c.args.actions.now c.push_reserved.new.self.items c.act-answer.new.self
ran_short c =
    let begin = new_world c.args.settings in
    let at = c.loop-action.action-index in
    let actions = c.args.actions.now in
    let action = c.action-item.result in
    let next = c.act-answer.new.self in
    let short : found_no_memory c.act-answer.result ≡ true = sym c.is_out_of_memory-ends.ensures ∙ c.if-ends.true in
    let ran = runs_out begin c.loop-action.world next actions (drop at actions) (drop (at + 1) actions) action c.loop-action.answers.items c.act-answer.result c.loop-action.invariant.0
    (split_at actions at action c.loop-action-test.true c.action-item.is) c.act-answer.ensures.shown short c.act-answer.ensures.err in
    subst (λ (items : List (Result Shown Fault)). Ran begin actions items next) (sym c.push_reserved.ensures.items) ran

pub returns-then-ends-clause-ran : goal.returns-then-ends-clause-ran
returns-then-ends-clause-ran c = ran_short c

pub returns-then-ends-clause-headline : goal.returns-then-ends-clause-headline
returns-then-ends-clause-headline c = headline_ran c.args.settings c.args.actions.now c.push_reserved.new.self.items c.act-answer.new.self (ran_short c)

pub returns-then-ends-clause-consistent : goal.returns-then-ends-clause-consistent
returns-then-ends-clause-consistent c = consistent_ran c.args.settings c.args.actions.now c.push_reserved.new.self.items c.act-answer.new.self (ran_short c)

pub returns-then-ends-clause-world : goal.returns-then-ends-clause-world
returns-then-ends-clause-world c = consistent_world_ran c.args.settings c.args.actions.now c.push_reserved.new.self.items c.act-answer.new.self (ran_short c)

pub returns-clause-ran : goal.returns-clause-ran
returns-clause-ran c =
    let at = c.loop-action.action-index in
    let actions = c.args.actions.now in
    runs_end (new_world c.args.settings) c.loop-action.world actions (drop at actions) c.loop-action.answers.items c.loop-action.invariant.0 (drop_all at actions c.loop-action-test.false)

pub returns-clause-headline : goal.returns-clause-headline
returns-clause-headline c = headline_ran c.args.settings c.args.actions.now c.loop-action.answers.items c.loop-action.world (returns-clause-ran c)

pub returns-clause-consistent : goal.returns-clause-consistent
returns-clause-consistent c = consistent_ran c.args.settings c.args.actions.now c.loop-action.answers.items c.loop-action.world (returns-clause-ran c)

pub returns-clause-world : goal.returns-clause-world
returns-clause-world c = consistent_world_ran c.args.settings c.args.actions.now c.loop-action.answers.items c.loop-action.world (returns-clause-ran c)
