use Rattle.std.proofs.lemmas.Bool.{not-true}
use Rattle.net_model.specs.NetworkTerms.{network_of}
use Rattle.net_flatness.proofs.SearchLemmas.{none_found}
use Rattle.net_flatness.proofs.nested.are_apart.Goals as goal

pub returns : goal.returns
returns c is =
    none_found (network_of c.args.parts.now) _ c.has_route_inside.result c.has_address_inside.result c.has_sid_inside.result
    c.as_slice.result.now c.as_slice-4.result.now c.as_slice-2.result.now c.as_slice-3.result.now c.in-Ok.ensures
    c.has_route_inside.ensures c.has_address_inside.ensures c.has_sid_inside.ensures c.as_slice.ensures.value c.as_slice-2.ensures.value
    c.as_slice-3.ensures.value c.as_slice-4.ensures.value c.if-has_route_inside.false c.if-has_address_inside.false
    (not-true c.has_sid_inside.result is)
