use Rattle.std.proofs.Common.{◌≡◌, true}
use Rattle.net_model.specs.declared.parts.Route.{Route}
use Rattle.prefix_table.specs.PrefixTable.{HasAround}
use Rattle.net_flatness.specs.Flat.{is_ipv6_route}
use Rattle.net_flatness.specs.Search.{FirstAre}
use Rattle.net_flatness.proofs.nested.has_route_inside.Given as goal

abbrev pub invariant-loop-r : goal.invariant-loop-r
invariant-loop-r l = FirstAre (λ (r : Route). is_ipv6_route r ≡ true → ¬ HasAround l.table r.prefix) l.routes l.r-index
