use Rattle.std.proofs.Common.{◌≡◌, ◌<◌, ◌%◌, ◌++◌, ◌∷◌, [], ℕ, suc, List, map, length, get_or, sym, ap, ◌∙◌, subst, arith, length-append}
use Rattle.std.proofs.lemmas.List.{map-append, get_or_default}
use Rattle.std.proofs.Math.ListN.{set}
use Rattle.cg_messages.specs.declared.message.Message.{Message}
use Rattle.cg_messages.specs.Borrowed.{borrowed_message}
use Rattle.cg_audit.specs.Hash.{hash_of}
use Rattle.cg_audit.specs.Index.{IsIndex}
use Rattle.cg_audit.proofs.PushLemmas.{pushed_index}
use Rattle.cg_audit.proofs.index.SentMessages.pushed.Goals as goal

pub invariant_of-result : goal.invariant_of-result
invariant_of-result c =
    let m : Message = borrowed_message c.args.message in
    let last : List ℕ = c.self.inside.last.items in
    let bucket : ℕ = c.bucket_of-bucket.result in
    let long : length c.deref.result.now ≡ length last = ap length c.deref.ensures.value in
    let few : bucket < length last = omega (arith, c.self.invariant.some, c.bucket_of-bucket.ensures, long) in
    let is : bucket ≡ hash_of m % length last = c.bucket_of-bucket.ensures ∙ ap (λ h. h % length c.deref.result.now) c.hash_of-hash.ensures ∙ ap (λ n. hash_of m % n) long in
    let messages : map borrowed_message c.push-2.new.self.items ≡ map borrowed_message c.self.inside.messages.items ++ m ∷ [] = ap (map borrowed_message) c.in_ok-push-2.ensures.items ∙ map-append borrowed_message c.self.inside.messages.items (c.args.message ∷ []) in
    let hashes : c.push-3.new.self.items ≡ c.self.inside.hashes.items ++ hash_of m ∷ [] = c.in_ok-push-3.ensures.items ∙ ap (λ h. c.self.inside.hashes.items ++ h ∷ []) c.hash_of-hash.ensures in
    let before : c.push.new.self.items ≡ c.self.inside.before.items ++ get_or last bucket 0 ∷ [] = c.in_ok-push.ensures.items ∙ ap (λ x. c.self.inside.before.items ++ x ∷ []) (c.index.ensures ∙ get_or_default last bucket c.index.result.now 0 few) in
    let count : c.count_of.result ≡ suc (length c.self.inside.hashes.items) = omega (arith, c.count_of.ensures, ap length c.deref-2.ensures.value, ap length hashes, length-append c.self.inside.hashes.items (hash_of m ∷ [])) in
    let after = pushed_index (map borrowed_message c.self.inside.messages.items) c.self.inside.hashes.items last c.self.inside.before.items c.self.invariant m bucket few is in
    subst (λ ms. IsIndex ms c.push-3.new.self.items (set last bucket c.count_of.result) c.push.new.self.items) (sym messages)
    (subst (λ hs. IsIndex (map borrowed_message c.self.inside.messages.items ++ m ∷ []) hs (set last bucket c.count_of.result) c.push.new.self.items) (sym hashes)
    (subst (λ bs. IsIndex (map borrowed_message c.self.inside.messages.items ++ m ∷ []) (c.self.inside.hashes.items ++ hash_of m ∷ []) (set last bucket c.count_of.result) bs) (sym before)
    (subst (λ n. IsIndex (map borrowed_message c.self.inside.messages.items ++ m ∷ []) (c.self.inside.hashes.items ++ hash_of m ∷ []) (set last bucket n) (c.self.inside.before.items ++ get_or last bucket 0 ∷ [])) (sym count) after)))
