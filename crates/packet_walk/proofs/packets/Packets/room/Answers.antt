use Rattle.packet_walk.specs.Flight.{packet_in}
use Rattle.packet_walk.proofs.FlightRooms.{room_ended, room_going}
use Rattle.packet_walk.proofs.packets.Packets.room.Goals as goal

pub returns-in-Some : goal.returns-in-Some
returns-in-Some c = room_ended (packet_in c.args.self.now.packets c.args.number) _ c.in-Some.ensures

pub returns-in-None : goal.returns-in-None
returns-in-None c =
    room_going (packet_in c.args.self.now.packets c.args.number) c.packet.result.now c.front.result c.packet.ensures c.front.ensures
    c.in-None.ensures
