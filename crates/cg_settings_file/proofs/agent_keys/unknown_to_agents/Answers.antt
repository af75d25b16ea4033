use Rattle.std.proofs.Common.{Some, ap, option_map, ◌∙◌}
use Rattle.std.specs.Prelude.{string_bytes}
use Rattle.cg_settings_file.proofs.Tables.{unknown_agent_key}
use Rattle.cg_settings_file.proofs.agent_keys.unknown_to_agents.Goals as goal

pub returns-in-Some : goal.returns-in-Some
returns-in-Some c =
    ap Some c.as_str.ensures.value
    ∙ ap (option_map string_bytes) c.in-Some.ensures
    ∙ unknown_agent_key c.args.table.now.entries

pub returns-in-None : goal.returns-in-None
returns-in-None c = ap (option_map string_bytes) c.in-None.ensures ∙ unknown_agent_key c.args.table.now.entries
