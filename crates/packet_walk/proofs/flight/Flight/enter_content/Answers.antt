use Rattle.std.proofs.Common.{subst, sym}
use Rattle.walk_rules.specs.Relation.{IsPlace}
use Rattle.packet_walk.specs.Flight.{Flight, entering}
use Rattle.packet_walk.proofs.FlightRooms.{placed_entered}
use Rattle.packet_walk.proofs.flight.Flight.enter_content.Goals as goal

pub invariant_of-self : goal.invariant_of-self
invariant_of-self c =
    placed_entered c.self.inside.net.now c.self.inside.packets c.enter_content.new.self
    (entering c.args.content c.args.place c.args.choices.now) c.enter_content.result c.self.invariant
    (subst (λ (f : Flight). IsPlace f.net c.args.place) (sym c.self.view_is) c.requires.place)
    (c.enter_content.ensures c.self.inside.net.now)
