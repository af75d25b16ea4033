use Rattle.std.proofs.Common.{◌≡◌, ◌∙◌, ◌++◌, ℕ, List, ap}
use Rattle.std.specs.FinMap as map
use Rattle.json.specs.Token.{Token}
use Rattle.json.specs.Print.{print}
use Rattle.json.specs.Tree.{json_tokens}
use Rattle.cg_tokens.specs.Ring.{replicas}
use Rattle.cg_status.specs.Status.{status_json, endpoints_json}
use Rattle.cg_status.proofs.DocumentLemmas.{read_back, status_shallow, endpoints_within}
use Rattle.cg_status.proofs.shown.status_json.Goals as goal

pub returns-clause-value : goal.returns-clause-value
returns-clause-value c =
    read_back (status_json c.args.status.now (map.entries c.args.table.now.entries)) c.into_inner.result.items c.add_status.new.writer.tokens
    (c.into_inner.ensures.items
    ∙ ap (λ (b : List ℕ). b ++ print c.add_status.new.writer.tokens) (c.in_ok-add_status.ensures.before ∙ c.new-writer.ensures.before ∙ c.new.ensures.items))
    (c.in_ok-add_status.ensures.tokens
    ∙ ap (λ (ts : List Token). ts ++ json_tokens (status_json c.args.status.now (map.entries c.args.table.now.entries))) c.new-writer.ensures.tokens)
    c.into_inner.ensures.reads_back (status_shallow c.args.status.now (map.entries c.args.table.now.entries))
