use Rattle.std.proofs.Common.{inl, inr}
use Rattle.cg_settings_file.specs.Seen.{settings_view, told_key}
use Rattle.cg_serve.proofs.serving.live.Goals as goal

pub returns-in-Err : goal.returns-in-Err
returns-in-Err g c = inl (told_key c.in-Err.unset, c.in-Err.ensures)

pub returns-in-Err-next_life : goal.returns-in-Err-next_life
returns-in-Err-next_life g c =
    inr (record {
      told = settings_view c.in-Ok.settings;
      are_told = c.in-Ok.ensures;
      caused = inl (rw c.as_str.ensures.value at c.in-Err-next_life.ensures);
    })
