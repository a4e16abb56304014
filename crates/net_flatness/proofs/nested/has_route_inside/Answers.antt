use Rattle.std.proofs.Common.{◌≡◌, true, refl}
use Rattle.std.proofs.lemmas.Option.{slice_get_read}
use Rattle.net_model.specs.declared.parts.Route.{Route}
use Rattle.prefix_table.specs.PrefixTable.{HasAround}
use Rattle.net_flatness.specs.Flat.{is_ipv6_route}
use Rattle.net_flatness.proofs.FlatLemmas.{filtered_from}
use Rattle.net_flatness.proofs.SearchLemmas.{first_holds_more, all_contained}
use Rattle.net_flatness.proofs.nested.has_route_inside.Goals as goal

pub loop-r-preserved : goal.loop-r-preserved
loop-r-preserved c =
    let P : Route → Type 0 = (λ (r : Route). is_ipv6_route r ≡ true → ¬ HasAround c.args.table.now r.prefix) in
    first_holds_more P c.args.routes.now c.loop-r.r-index c.r-item.result
    (slice_get_read c.args.routes.now _ c.loop-r.r-index c.r-item.result refl c.loop-r-test.true c.r-item.is)
    (c.is_route_inside.ensures c.if-is_route_inside.false)
    c.loop-r.invariant

pub returns : goal.returns
returns c r there =
    let P : Route → Type 0 = (λ (r : Route). is_ipv6_route r ≡ true → ¬ HasAround c.args.table.now r.prefix) in
    let (among, passes) = filtered_from is_ipv6_route c.args.routes.now r there in
    all_contained P c.args.routes.now c.loop-r.r-index c.loop-r-test.false c.loop-r.invariant r among passes
