use Rattle.std.proofs.Common.{inr, ap, sym, ◌∙◌}
use Rattle.cg_settings_file.specs.Agent.{agent_or_key_in_bytes}
use Rattle.cg_settings_file.specs.AgentSeen.{agent_view}
use Rattle.cg_host.proofs.settings.agent_settings_telling.Goals as goal

pub returns-then-are_one : goal.returns-then-are_one
returns-then-are_one g c =
    inr (inr (record {
      bytes = c.in-Ok.bytes.items;
      are = c.in-Ok.ensures;
      settings = agent_view c.in-Ok-agent_or_key.settings;
      hold = ap agent_or_key_in_bytes (sym c.deref.ensures.value) ∙ c.in-Ok-agent_or_key.ensures;
      shared = rw c.as_str.ensures.value at c.if-are_one.ensures.did;
      is = c.shared.ensures;
    }))
