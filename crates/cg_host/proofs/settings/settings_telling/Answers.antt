use Rattle.std.proofs.Common.{inr, ap, sym, ◌∙◌}
use Rattle.std.specs.Result.{result_ok}
use Rattle.cg_settings_file.specs.Seen.{settings_view}
use Rattle.cg_settings_file.specs.Settings.{settings_in_bytes}
use Rattle.cg_host.proofs.settings.settings_telling.Goals as goal

pub returns : goal.returns
returns g c =
    inr (inr (record {
      bytes = c.in-Ok.bytes.items;
      are = c.in-Ok.ensures;
      settings = settings_view c.in-Ok-settings_or_key.settings;
      hold = ap settings_in_bytes (sym c.deref.ensures.value) ∙ ap result_ok c.in-Ok-settings_or_key.ensures;
      at = c.in-Err-apart.key.now;
      shared = c.in-Err-apart.ensures;
      is = c.shared.ensures;
    }))
