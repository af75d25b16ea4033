-- The settings of a node that runs until it is stopped, as a clause reads them.
use Rattle.std.specs.Prelude.{option_map, string_bytes}
use Rattle.cg_settings_file.specs.Agent.{AgentValue, LoadsValue, HttpValue}
use Rattle.cg_settings_file.specs.declared.agent.AgentSettings.{AgentSettings}
use Rattle.cg_settings_file.specs.declared.agent.Loads.{Loads}
use Rattle.cg_settings_file.specs.declared.agent.Http.{Http}

abbrev pub loads_view : Loads → LoadsValue
loads_view l = record { interval = l.interval; journal_mb = l.journal_mb; keep = l.keep; receivers = l.receivers }

abbrev pub http_view : Http → HttpValue
http_view h = record { at = h.at; writes = h.writes }

abbrev pub agent_view : AgentSettings → AgentValue
agent_view s = record {
  node = s.node;
  listen = s.listen;
  generation_file = string_bytes s.generation_file;
  journals = option_map string_bytes s.journals;
  loads = loads_view s.loads;
  random = s.random;
  input = s.input;
  http = http_view s.http;
}
