use Rattle.cg_tokens.proofs.TokenTextLemmas.{text_read, text_unread}
use Rattle.cg_tokens.proofs.text.read_tokens.Goals as goal

pub returns-in-Some-clause-ok : goal.returns-in-Some-clause-ok
returns-in-Some-clause-ok c = text_read c.args.text.now c.in-Some.tokens.items (rw (c.in-Some.is, c.as_bytes.ensures.value) at c.in_ok-tokens.ensures.ok)

pub returns-in-None-clause-bad : goal.returns-in-None-clause-bad
returns-in-None-clause-bad c = λ _. text_unread c.args.text.now (rw (c.in-None.is, c.as_bytes.ensures.value) at c.in_ok-tokens.ensures.ok)
