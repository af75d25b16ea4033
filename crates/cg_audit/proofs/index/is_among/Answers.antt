use Rattle.std.proofs.Common.{◌≡◌, ℕ, suc, ◌<◌, ◌-◌, ◌%◌, map, length, refl, ap, ◌∙◌, subst, arith}
use Rattle.cg_messages.specs.Borrowed.{borrowed_message}
use Rattle.cg_audit.specs.Hash.{hash_of}
use Rattle.cg_audit.proofs.IndexLemmas.{IsPassed, passed_first, passed_next, contains_at, at_contained}
use Rattle.cg_audit.proofs.index.is_among.Goals as goal

pub loop-number-init : goal.loop-number-init
loop-number-init c =
    let few : c.bucket_of.result < length c.args.last.now = omega (arith, c.requires.some, c.bucket_of.ensures) in
    let is : c.bucket_of.result ≡ hash_of (borrowed_message c.args.wanted) % length c.args.last.now = c.bucket_of.ensures ∙ ap (λ h. h % length c.args.last.now) c.hash_of-hash.ensures in
    passed_first (map borrowed_message c.args.messages.now) c.args.hashes.now c.args.last.now c.args.before.now c.requires (borrowed_message c.args.wanted) c.bucket_of.result few is

pub returns-then-is_at : goal.returns-then-is_at
returns-then-is_at c = (λ _. contains_at _ _ _ (c.is_at.ensures.0 c.if-is_at.true), λ _. refl)

pub loop-number-preserved : goal.loop-number-preserved
loop-number-preserved c =
    let one : c.loop-number.number ≡ suc (c.loop-number.number - 1) = omega (arith, c.loop-number-test.true) in
    let passed = subst (IsPassed (map borrowed_message c.args.messages.now) c.args.hashes.now (length c.args.last.now) (borrowed_message c.args.wanted)) one c.loop-number.invariant in
    passed_next (map borrowed_message c.args.messages.now) c.args.hashes.now c.args.last.now c.args.before.now c.requires (borrowed_message c.args.wanted) (c.loop-number.number - 1) passed
    (λ at. let yes = c.is_at.ensures.1 at in absurd cc)

pub returns : goal.returns
returns c = (λ yes. absurd cc, λ there. let at = at_contained _ _ there in absurd (c.loop-number.invariant.none at.0 (omega arith) at.1))
