use Rattle.std.proofs.Common.{◌≡◌, ◌∙◌, ◌++◌, ℕ, codes, List, [], ◌∷◌, Option, ap}
use Rattle.std.specs.List.{flat_map}
use Rattle.std.specs.FinMap as map
use Rattle.json.specs.Token.{Token, key, string, begin_object, end_object}
use Rattle.json.specs.Tree.{json_tokens}
use Rattle.cg_types.specs.EndpointText.{endpoint_text}
use Rattle.cg_entry.specs.Values.{EntryValue}
use Rattle.cg_status.specs.declared.status.Seen.{Seen}
use Rattle.cg_status.specs.Status.{seen_of, states_json, counters_json, rows_json}
use Rattle.cg_status.specs.Flat.{head_tokens, number_tokens, seen_tokens, broken_tokens, traffic_tokens, delta_tokens}
use Rattle.cg_status.proofs.ChainLemmas.{onto, spelled}
use Rattle.cg_status.proofs.TokenLemmas.{counters_are, row_is}
use Rattle.cg_status.proofs.shown.add_row.Goals as goal

pub returns-clause-tokens : goal.returns-clause-tokens
returns-clause-tokens c =
    let row : ℕ × EntryValue = c.args.row.now in
    let seen : List Seen = c.args.status.now.seen.items in
    let r = c.end_object.result in
    let v : List Token = c.end_object.new.self.tokens in
    spelled r c.args.writer.now.tokens _ _ v (row_is seen row)
    (onto r c.args.writer.now.tokens (begin_object ∷ []) c.begin_object.new.self.tokens _ v c.in_ok-begin_object.ensures.ok
    (onto r c.begin_object.new.self.tokens (key (codes "endpoint") ∷ []) c.key.new.self.tokens _ v c.in_ok-key.ensures.ok
    (onto r c.key.new.self.tokens (string (endpoint_text row.0) ∷ []) c.add_endpoint.new.writer.tokens _ v
    (c.in_ok-add_endpoint.ensures.tokens ∙ ap (λ (e : ℕ). c.key.new.self.tokens ++ string (endpoint_text e) ∷ []) c.endpoint.ensures)
    (onto r c.add_endpoint.new.writer.tokens (number_tokens row.1) c.add_numbers.new.writer.tokens _ v
    (c.in_ok-add_numbers.ensures.tokens ∙ ap (λ (e : EntryValue). c.add_endpoint.new.writer.tokens ++ number_tokens e) c.value.ensures)
    (onto r c.add_numbers.new.writer.tokens (seen_tokens (seen_of seen row.0)) c.add_seen.new.writer.tokens _ v
    (c.in_ok-add_seen.ensures.tokens ∙ ap (λ (s : Option Seen). c.add_numbers.new.writer.tokens ++ seen_tokens s) (c.of.ensures ∙ ap (λ (e : ℕ). seen_of seen e) c.endpoint-2.ensures))
    (onto r c.add_seen.new.writer.tokens (key (codes "states") ∷ []) c.key-2.new.self.tokens _ v c.in_ok-key-2.ensures.ok
    (onto r c.key-2.new.self.tokens (json_tokens (states_json (map.entries row.1.states))) c.add_states.new.writer.tokens (end_object ∷ []) v
    (c.in_ok-add_states.ensures.tokens ∙ ap (λ (e : EntryValue). c.key-2.new.self.tokens ++ json_tokens (states_json (map.entries e.states))) c.value-2.ensures)
    c.end_object.ensures.ok)))))))
