use Rattle.std.proofs.Common.{drop}
use Rattle.std.specs.Prelude.{◌↔◌}
use Rattle.net_flatness.specs.Nests.{MayFollow}
use Rattle.list_pack.specs.SidLists.{FollowOn}
use Rattle.list_pack.proofs.nest_units.follow_on.Given as goal

-- the prefixes that are left say all
abbrev pub invariant-loop-next : goal.invariant-loop-next
invariant-loop-next l = FollowOn (MayFollow l.net) l.first l.more ↔ FollowOn (MayFollow l.net) l.last (drop l.next-index l.more)
