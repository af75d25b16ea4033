use Rattle.std.proofs.Common.{Some, sym, ap}
use Rattle.std.proofs.lemmas.Str.{is_utf8-from_IsUtf8}
use Rattle.cg_text.specs.Words.{text_in}
use Rattle.cg_text.proofs.TextLemmas.{no_text}
use Rattle.cg_text.proofs.words.text_in.Goals as goal

pub returns-in-Ok : goal.returns-in-Ok
unfolding text_in
returns-in-Ok c = rw (is_utf8-from_IsUtf8 c.args.text.now c.in-Ok.ensures.cases.1) (ap Some c.in-Ok.ensures.cases.0)

pub returns-in-Err : goal.returns-in-Err
returns-in-Err c = sym (no_text c.args.text.now c.in-Err.ensures.cases.0)
