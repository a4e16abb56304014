use Rattle.srv6_rules.specs.Endpoint.{unknown_routing}
use Rattle.endpoint_chain.proofs.own_address.fault_of_header.Goals as goal

pub returns : goal.returns
returns c = c.header_fault.ensures unknown_routing
