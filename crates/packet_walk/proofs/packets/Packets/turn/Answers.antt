use Rattle.packet_walk.specs.Flight.{within}
use Rattle.packet_walk.proofs.FlightRooms.{reserved_given, reserved_ready, reserved_turn}
use Rattle.packet_walk.proofs.packets.Packets.turn.Goals as goal

pub returns-in-Err : goal.returns-in-Err
returns-in-Err c =
    record { turn = c.in-Err.ensures.room c.args.net.now; places = c.in-Err.ensures.places c.args.net.now c.requires.places }

pub turn_ready-requires-clause-given : goal.turn_ready-requires-clause-given
turn_ready-requires-clause-given c =
    let net = c.args.net.now in
    reserved_given c.args.number (within net c.args.self.now) (within net c.reserve.new.self) c.requires.given
    (c.in-Ok.ensures.room net)

pub turn_ready-requires-clause-places : goal.turn_ready-requires-clause-places
turn_ready-requires-clause-places c = c.in-Ok.ensures.places c.args.net.now c.requires.places

pub turn_ready-requires-clause-ready : goal.turn_ready-requires-clause-ready
turn_ready-requires-clause-ready c =
    let net = c.args.net.now in
    reserved_ready c.args.number (within net c.args.self.now) (within net c.reserve.new.self) c.requires.given
    (c.in-Ok.ensures.room net)

pub returns-in-Ok-clause-turn : goal.returns-in-Ok-clause-turn
returns-in-Ok-clause-turn c =
    let net = c.args.net.now in
    reserved_turn c.args.number (within net c.args.self.now) (within net c.reserve.new.self) c.requires.given
    (within net c.turn_ready.new.self) c.turn_ready.result (c.in-Ok.ensures.room net) c.turn_ready.ensures.turn
