use Rattle.std.proofs.Common.{◌-◌}
use Rattle.walk_rules.specs.declared.limits.TheConstants.{MAX_STAGES}
use Rattle.packet_walk.specs.Flight.{packet_of}
use Rattle.packet_walk.proofs.FlightWalking.{Walking, stages_of}
use Rattle.packet_walk.proofs.flight.Flight.walk.Given as goal

abbrev pub invariant-turns : goal.invariant-turns
invariant-turns l = Walking l.number l.fn.self l.self

abbrev pub decreases-turns : goal.decreases-turns
decreases-turns l = MAX_STAGES - stages_of (packet_of l.self l.number)
