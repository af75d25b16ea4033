use Rattle.cg_web.proofs.FieldLemmas.{fields_added}
use Rattle.cg_web.proofs.response.add_headers.Goals as goal

pub returns-clause-headers : goal.returns-clause-headers
returns-clause-headers c =
    fields_added _ _ _ _ _ c.args.form c.args.more c.from_static.ensures c.media_type.ensures c.add_header.ensures.headers
    c.add_more.ensures.headers
