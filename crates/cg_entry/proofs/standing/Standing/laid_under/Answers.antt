use Rattle.std.proofs.Common.{◌≡◌, ◌<◌, ◌∙◌, ◌+◌, sym, ap, subst, ℕ, true, false}
use Rattle.std.specs.FinMap as map
use Rattle.std.specs.List.{AllByRecursion}
use Rattle.cg_entry.specs.declared.state.State.{State}
use Rattle.cg_entry.specs.Versioned.{States, Versioned}
use Rattle.cg_entry.specs.State.{value_at_key}
use Rattle.cg_entry.specs.Entry.{overlay}
use Rattle.cg_entry.proofs.HeldLemmas.{Shows, over_in_range, shows_none, shows_next, shows_put, shows_whole}
use Rattle.cg_entry.proofs.standing.Standing.laid_under.Goals.{in-Some+in-Some-shown+in_ok-copy-in-Some-shown+in_ok-push-in-Some-shown, in-Some+in-None-shown, in-None}
use Rattle.cg_entry.proofs.standing.Standing.laid_under.Goals as goal

pub loop-number-init : goal.loop-number-init
loop-number-init c = shows_none c.in_ok-block.block (overlay c.args.self.now c.args.newer.now) c.in_ok-block.ensures

pub push-requires : goal.push-requires
push-requires c =
    let is : c.in_ok-copy-in-Some-shown.field-0.key ≡ c.loop-number.number = ap (λ (s : State). s.key) c.in_ok-copy-in-Some-shown.ensures ∙ c.in-Some-shown.ensures.key ∙ c.in-Some.ensures.value in
    subst (λ n. AllByRecursion (λ (e : ℕ × Versioned). e.0 < n) (map.entries c.loop-number.block)) (sym is) c.loop-number.invariant.below

pub loop-number-preserved : goal.loop-number-preserved
loop-number-preserved c =
    let over : States = overlay c.args.self.now c.args.newer.now in
    elim c.match-new.branch [
      | in-Some+in-Some-shown+in_ok-copy-in-Some-shown+in_ok-push-in-Some-shown w ↦
          let s : State = w.in-Some-shown.state.now in
          let made : c.match-new.block ≡ map.insert c.loop-number.block c.loop-number.number (value_at_key s) = w.block-is ∙ w.in_ok-push-in-Some-shown.ensures.ok
          ∙ ap (λ (t : State). map.insert c.loop-number.block t.key (value_at_key t)) w.in_ok-copy-in-Some-shown.ensures
          ∙ ap (λ (k : ℕ). map.insert c.loop-number.block k (value_at_key s)) (w.in-Some-shown.ensures.key ∙ w.in-Some.ensures.value) in
          let got = ap (λ (k : ℕ). map.get over k) (sym w.in-Some.ensures.value) ∙ sym w.in-Some-shown.ensures.value in
          subst (λ (m : States). Shows m over (c.loop-number.number + 1)) (sym made) (shows_put c.loop-number.block over c.loop-number.number (value_at_key s) c.loop-number.invariant got)
      | in-Some+in-None-shown w ↦
          let none = ap (λ (k : ℕ). map.get over k) (sym w.in-Some.ensures.value) ∙ sym w.in-None-shown.ensures.value in
          subst (λ (m : States). Shows m over (c.loop-number.number + 1)) (sym w.block-is) (shows_next c.loop-number.block over c.loop-number.number c.loop-number.invariant none)
      | in-None w ↦
          let none = over_in_range c.args.self.now c.args.newer.now c.loop-number.number c.show.ensures c.show-2.ensures (λ key. let no : false ≡ true = w.in-None.ensures.valid.1 key in cc) in
          subst (λ (m : States). Shows m over (c.loop-number.number + 1)) (sym w.block-is) (shows_next c.loop-number.block over c.loop-number.number c.loop-number.invariant none)
    ]

pub returns : goal.returns
returns c = shows_whole c.loop-number.block c.args.self.now c.args.newer.now c.loop-number.number c.loop-number.invariant c.loop-number-test.false c.show.ensures c.show-2.ensures
