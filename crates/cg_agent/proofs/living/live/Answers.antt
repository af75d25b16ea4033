use Rattle.std.proofs.Common.{inl, inr, refl}
use Rattle.cg_core.specs.Step.{starting_node}
use Rattle.cg_settings_file.specs.AgentSeen.{agent_view}
use Rattle.cg_agent.proofs.LifeLemmas.{ran}
use Rattle.cg_agent.proofs.living.live.Goals as goal

pub returns-in-Err-next_life : goal.returns-in-Err-next_life
returns-in-Err-next_life g c =
    inr (inl (record { told = agent_view c.in-Ok.settings; are_told = c.in-Ok.ensures; caused = rw c.as_str.ensures.value at c.in-Err-next_life.ensures }))

pub returns : goal.returns
returns g c =
    ran g.R.Disk.did g.F.Read.remaining g.F.Write.contents c.args.file.now
    (starting_node c.in-Ok.settings.listen c.in-Ok-next_life.generation c.in-Ok.settings.node) c.live_by.result c.live_by.ensures
    (record {
      told = agent_view c.in-Ok.settings;
      are_told = c.in-Ok.ensures;
      generation = c.in-Ok-next_life.generation;
      kept = rw c.as_str.ensures.value at c.in-Ok-next_life.ensures;
      is = refl;
    })
