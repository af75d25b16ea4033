use Rattle.std.proofs.Common.{◌≡◌, ◌∙◌, ◌++◌, ℕ, List, ap}
use Rattle.std.specs.FinMap as map
use Rattle.json.specs.Token.{Token}
use Rattle.json.specs.Print.{print}
use Rattle.json.specs.Tree.{json_tokens}
use Rattle.cg_tokens.specs.Ring.{replicas}
use Rattle.cg_status.specs.Status.{status_json, endpoints_json}
use Rattle.cg_status.proofs.DocumentLemmas.{read_back, status_shallow, endpoints_within}
use Rattle.cg_status.proofs.replicas.replicas_json.Goals as goal

pub returns : goal.returns
returns c =
    read_back (endpoints_json (replicas (map.entries c.args.ring.now.positions) c.args.token c.args.rf)) c.into_inner.result.items c.add_endpoints.new.writer.tokens
    (c.into_inner.ensures.items
    ∙ ap (λ (b : List ℕ). b ++ print c.add_endpoints.new.writer.tokens) (c.in_ok-add_endpoints.ensures.before ∙ c.new-writer.ensures.before ∙ c.new.ensures.items))
    (c.in_ok-add_endpoints.ensures.tokens
    ∙ ap (λ (ts : List Token). ts ++ json_tokens (endpoints_json c.deref.result.now)) c.new-writer.ensures.tokens
    ∙ ap (λ (es : List ℕ). json_tokens (endpoints_json es)) (c.deref.ensures.value ∙ c.in_ok-endpoints.ensures))
    c.into_inner.ensures.reads_back (endpoints_within (replicas (map.entries c.args.ring.now.positions) c.args.token c.args.rf))
