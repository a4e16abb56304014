use Rattle.std.proofs.Common.{◌≡◌, ◌++◌, map, drop}
use Rattle.net_plan.specs.PlanOwners.{exit_of}
use Rattle.net_plan.proofs.exits.exits_over.Given as goal

abbrev pub invariant-loop-prefix : goal.invariant-loop-prefix
invariant-loop-prefix l =
    l.exits.items ++ map (exit_of l.site l.node l.link) (drop l.prefix-index l.site.prefixes) ≡ map (exit_of l.site l.node l.link) l.site.prefixes
