use Rattle.std.proofs.Common.{◌≡◌, ◌+◌, ◌++◌, drop}
use Rattle.net_plan.specs.CableLinks.{site_links}
use Rattle.net_plan.proofs.plan_links.site_links.Given as goal

abbrev pub invariant-loop-n : goal.invariant-loop-n
invariant-loop-n l = l.links.items ++ site_links (l.n + 1) (drop l.n l.sites) ≡ site_links 1 l.sites
