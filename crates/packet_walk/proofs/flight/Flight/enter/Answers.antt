use Rattle.std.proofs.Common.{subst, sym}
use Rattle.walk_rules.specs.Relation.{IsPlace}
use Rattle.srv6_rules.specs.Packet.{entered as entered_as}
use Rattle.node_stage.specs.Fronted.{fronted}
use Rattle.packet_walk.specs.Flight.{Flight, entering, within}
use Rattle.packet_walk.specs.FlightTerms.{Enters}
use Rattle.packet_walk.proofs.FlightRooms.{placed_entered}
use Rattle.packet_walk.proofs.flight.Flight.enter.Goals as goal

pub invariant_of-self : goal.invariant_of-self
invariant_of-self c =
    placed_entered c.self.inside.net.now c.self.inside.packets c.enter.new.self
    (entering
    (fronted (entered_as c.args.place.family c.args.buf.bytes) c.args.buf.front) c.args.place c.args.choices.now) c.enter.result
    c.self.invariant
    (subst (λ (f : Flight). IsPlace f.net c.args.place) (sym c.self.view_is) c.requires.place)
    (c.enter.ensures c.self.inside.net.now)

pub returns : goal.returns
returns c =
    let net = c.self.inside.net.now in
    subst (λ (f : Flight). Enters f
    (entering (fronted (entered_as c.args.place.family c.args.buf.bytes) c.args.buf.front) c.args.place c.args.choices.now)
    c.enter.result (within net c.enter.new.self)) c.self.view_is (c.enter.ensures net)
