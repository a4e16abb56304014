use Rattle.std.proofs.Common.{◌≡◌, ◌++◌, drop}
use Rattle.std.specs.List.{flat_map}
use Rattle.net_without.specs.Without.{is_up}
use Rattle.net_plan.specs.PlanOwners.{site_exits}
use Rattle.net_plan.proofs.exits.exits_of.Given as goal

abbrev pub invariant-loop-site : goal.invariant-loop-site
invariant-loop-site l =
    l.exits.items ++ flat_map (site_exits (is_up l.net l.down l.nodes) l.net) (drop l.site-index l.plan.sites)
    ≡ flat_map (site_exits (is_up l.net l.down l.nodes) l.net) l.plan.sites
