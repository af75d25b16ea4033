use Rattle.std.proofs.Common.{◌≡◌, ◌∙◌, ◌++◌, ℕ, codes, List, [], ◌∷◌, Option, ap}
use Rattle.std.specs.List.{flat_map}
use Rattle.std.specs.FinMap as map
use Rattle.json.specs.Token.{Token, key, string, begin_object, end_object}
use Rattle.json.specs.Tree.{json_tokens}
use Rattle.cg_types.specs.EndpointText.{endpoint_text}
use Rattle.cg_entry.specs.Values.{EntryValue}
use Rattle.cg_status.specs.declared.status.Seen.{Seen}
use Rattle.cg_status.specs.Status.{seen_of, states_json, counters_json, rows_json}
use Rattle.cg_status.specs.Flat.{head_tokens, number_tokens, seen_tokens, broken_tokens, traffic_tokens, delta_tokens}
use Rattle.cg_status.proofs.ChainLemmas.{onto, spelled}
use Rattle.cg_status.proofs.TokenLemmas.{counters_are, row_is}
use Rattle.cg_status.proofs.shown.add_status.Goals as goal

pub returns-clause-tokens : goal.returns-clause-tokens
returns-clause-tokens c =
    let r = c.end_object.result in
    let v : List Token = c.end_object.new.self.tokens in
    let s = c.args.status.now in
    onto r c.args.writer.now.tokens (begin_object ∷ []) c.begin_object.new.self.tokens _ v c.in_ok-begin_object.ensures.ok
    (onto r c.begin_object.new.self.tokens (head_tokens c.args.status.now) c.add_head.new.writer.tokens _ v c.in_ok-add_head.ensures.tokens
    (onto r c.add_head.new.writer.tokens (key (codes "counters") ∷ []) c.key.new.self.tokens _ v c.in_ok-key.ensures.ok
    (onto r c.key.new.self.tokens (json_tokens (counters_json c.args.status.now.counters c.args.status.now.broken.items)) c.add_counters.new.writer.tokens _ v
    (c.in_ok-add_counters.ensures.tokens ∙ ap (λ (bs : List (ℕ × ℕ)). c.key.new.self.tokens ++ json_tokens (counters_json c.args.status.now.counters bs)) c.deref.ensures.value)
    (onto r c.add_counters.new.writer.tokens (key (codes "endpoints") ∷ []) c.key-2.new.self.tokens _ v c.in_ok-key-2.ensures.ok
    (onto r c.key-2.new.self.tokens (json_tokens (rows_json c.args.status.now.seen.items (map.entries c.args.table.now.entries))) c.add_rows.new.writer.tokens (end_object ∷ []) v
    (c.in_ok-add_rows.ensures.tokens
    ∙ ap (λ (rows : List (ℕ × EntryValue)). c.key-2.new.self.tokens ++ json_tokens (rows_json c.args.status.now.seen.items rows)) c.owners.ensures.value)
    c.end_object.ensures.ok)))))
