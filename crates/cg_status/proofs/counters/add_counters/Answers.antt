use Rattle.std.proofs.Common.{◌≡◌, ◌∙◌, ◌++◌, ℕ, codes, List, [], ◌∷◌, Option, ap}
use Rattle.std.specs.List.{flat_map}
use Rattle.std.specs.FinMap as map
use Rattle.json.specs.Token.{Token, key, string, begin_object, end_object}
use Rattle.json.specs.Tree.{json_tokens}
use Rattle.cg_types.specs.EndpointText.{endpoint_text}
use Rattle.cg_entry.specs.Values.{EntryValue}
use Rattle.cg_status.specs.declared.status.Seen.{Seen}
use Rattle.cg_status.specs.Status.{seen_of, states_json, counters_json, rows_json}
use Rattle.cg_status.specs.Flat.{head_tokens, number_tokens, seen_tokens, broken_tokens, traffic_tokens, delta_tokens}
use Rattle.cg_status.proofs.ChainLemmas.{onto, spelled}
use Rattle.cg_status.proofs.TokenLemmas.{counters_are, row_is}
use Rattle.cg_status.proofs.counters.add_counters.Goals as goal

pub returns-clause-tokens : goal.returns-clause-tokens
returns-clause-tokens c =
    let r = c.end_object-2.result in
    let v : List Token = c.end_object-2.new.self.tokens in
    spelled r c.args.writer.now.tokens _ _ v (counters_are c.args.counters.now c.args.broken.now)
    (onto r c.args.writer.now.tokens (begin_object ∷ []) c.begin_object.new.self.tokens _ v c.in_ok-begin_object.ensures.ok
    (onto r c.begin_object.new.self.tokens (traffic_tokens c.args.counters.now) c.add_traffic.new.writer.tokens _ v c.in_ok-add_traffic.ensures.tokens
    (onto r c.add_traffic.new.writer.tokens (delta_tokens c.args.counters.now) c.add_deltas.new.writer.tokens _ v c.in_ok-add_deltas.ensures.tokens
    (onto r c.add_deltas.new.writer.tokens (key (codes "broken") ∷ []) c.key.new.self.tokens _ v c.in_ok-key.ensures.ok
    (onto r c.key.new.self.tokens (begin_object ∷ []) c.begin_object-2.new.self.tokens _ v c.in_ok-begin_object-2.ensures.ok
    (onto r c.begin_object-2.new.self.tokens (flat_map broken_tokens c.args.broken.now) c.add_broken.new.writer.tokens _ v c.in_ok-add_broken.ensures.tokens
    (onto r c.add_broken.new.writer.tokens (end_object ∷ []) c.end_object.new.self.tokens (end_object ∷ []) v c.in_ok-end_object.ensures.ok
    c.end_object-2.ensures.ok)))))))
