use Rattle.std.proofs.Common.{◌≡◌, ◌-◌, IfSome, None, slice_set, subst, sym, arith}
use Rattle.walk_rules.specs.Relation.{IsPlace}
use Rattle.packet_walk.specs.Flight.{Packets, packet_in, within}
use Rattle.packet_walk.specs.FlightTerms.{ArePlaced, IsNumber, Reserves}
use Rattle.packet_walk.proofs.FlightNumbers.{placed_set, reserves}
use Rattle.packet_walk.proofs.FlightRooms.{at_place, reserves_ended}
use Rattle.packet_walk.proofs.packets.Packets.reserve.Goals as goal

pub returns-in-Some : goal.returns-in-Some
returns-in-Some c =
    record {
      room = λ net. reserves_ended c.args.number (within net c.args.self.now) _ c.in-Some.ensures;
      places = λ net are. are;
    }

pub returns-in-None : goal.returns-in-None
returns-in-None c =
    let number = c.args.number in
    let packets = c.self.inside.packets.items in
    let all : Packets = record { error = c.self.inside.error.items; packets = packets } in
    let new : Packets =
    record { error = c.self.inside.error.items; packets = slice_set packets (number - 1) c.reserve.new.self } in
    let given : IsNumber packets number = subst (λ (a : Packets). IsNumber a.packets number) (sym c.self.view_is) c.requires in
    let going : IfSome (packet_in packets number) (λ p. None ≡ p.ended) =
    subst (λ (a : Packets). IfSome (packet_in a.packets number) (λ p. None ≡ p.ended)) (sym c.self.view_is) c.in-None.ensures in
    record {
      room = λ net. subst (λ (a : Packets). IfSome (packet_in a.packets number)
          (λ p. Reserves number (within net a) p c.reserve.result (within net new))) c.self.view_is
          (reserves number (within net all) c.index_mut.result.now given c.index_mut.ensures.value c.reserve.result c.reserve.new.self
          going c.reserve.ensures.room);
      places = λ net are. (let owned : ArePlaced net packets =
          subst (λ (a : Packets). ArePlaced net a.packets) (sym c.self.view_is) are in
          let first = given.first in
          let last = given.last in
          let at : IsPlace net c.index_mut.result.now.place =
          at_place net packets c.index_mut.result.now (number - 1) owned (omega (arith, first, last)) c.index_mut.ensures.value in
          placed_set net packets c.reserve.new.self owned (subst (IsPlace net) (sym c.reserve.ensures.place) at) (number - 1));
    }
