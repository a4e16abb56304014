use Rattle.std.proofs.Common.{◌≡◌, drop}
use Rattle.net_plan.specs.CableLinks.{enter_links}
use Rattle.net_plan.proofs.entering_links.enter_links.Given as goal

-- what is left gives what all gives
abbrev pub invariant-loop-link : goal.invariant-loop-link
invariant-loop-link l =
    enter_links l.nodes l.all.items (drop l.link-index l.links) ≡ enter_links l.nodes l.initial.all.items l.links
