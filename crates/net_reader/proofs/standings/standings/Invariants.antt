use Rattle.std.proofs.Common.{◌≡◌, map, take}
use Rattle.net_reader.specs.Standings.{standing_of}
use Rattle.net_reader.proofs.standings.standings.Given as goal

abbrev pub invariant-loop-sid : goal.invariant-loop-sid
invariant-loop-sid l = l.standings.items ≡ map standing_of (take l.sid-index l.sids)
