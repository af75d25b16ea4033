use Rattle.std.proofs.Common.{◌∙◌, ◌+◌, List, ℕ, sym, ap, Some}
use Rattle.cg_text.proofs.SeedLemmas.{behind, left, begins, last_bad, last_good, next_bad, next_good, too_many}
use Rattle.cg_text.proofs.seeds.endpoints_in.Goals as goal

pub loop-init : goal.loop-init
loop-init c = rw c.new-endpoints.ensures.items (begins c.args.at c.args.text.now)

pub returns-in_default-from_bytes : goal.returns-in_default-from_bytes
returns-in_default-from_bytes c =
    last_bad c.args.at c.loop.counter _ c.loop.endpoints.items c.loop.rest.now c.loop-test.true c.loop.invariant
    (sym (rw c.in_default.is at c.cut.ensures)) (sym c.from_bytes.ensures.value ∙ c.in_default-from_bytes.is)

pub returns-in_default : goal.returns-in_default
returns-in_default c =
    ap Some c.in_ok-push.ensures.items
    ∙ last_good c.args.at c.loop.counter _ c.loop.endpoints.items c.loop.rest.now c.in-Some-from_bytes.endpoint c.loop-test.true c.loop.invariant
    (sym (rw c.in_default.is at c.cut.ensures)) (sym c.from_bytes.ensures.value ∙ c.in-Some-from_bytes.is)

pub returns-in_default-from_bytes-2 : goal.returns-in_default-from_bytes-2
returns-in_default-from_bytes-2 c =
    next_bad c.args.at c.loop.counter _ c.loop.endpoints.items c.loop.rest.now (c.in-Some.word.now, c.in-Some.behind.now) c.loop-test.true c.loop.invariant
    (sym (rw c.in-Some.is at c.cut.ensures)) (sym c.from_bytes-in-loop.ensures.value ∙ c.in_default-from_bytes-2.is)

pub loop-preserved : goal.loop-preserved
loop-preserved c =
    next_good c.args.at c.loop.counter _ c.loop.endpoints.items c.loop.rest.now (c.in-Some.word.now, c.in-Some.behind.now) c.in-Some-from_bytes-2.endpoint c.loop-test.true c.loop.invariant
    (sym (rw c.in-Some.is at c.cut.ensures)) (sym c.from_bytes-in-loop.ensures.value ∙ c.in-Some-from_bytes-2.is)
    ∙ ap (λ (read : List ℕ). behind read (left c.args.at (c.loop.counter + 1) c.in-Some.behind.now)) (sym c.in_ok-push-2.ensures.items)

pub returns : goal.returns
returns c = too_many c.args.at c.loop.counter _ c.loop.endpoints.items c.loop.rest.now c.loop-test.false c.loop.invariant
