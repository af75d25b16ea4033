use Rattle.cg_types.proofs.EndpointLaws.{endpoint_found, endpoint_missed}
use Rattle.cg_types.proofs.endpoint.Endpoint.from_bytes.Goals as goal

pub returns-clause-some : goal.returns-clause-some
returns-clause-some c = endpoint_found c.args.text.now _ c.parts_in.ensures

pub returns-clause-none : goal.returns-clause-none
returns-clause-none c = endpoint_missed c.args.text.now _ c.parts_in.ensures
