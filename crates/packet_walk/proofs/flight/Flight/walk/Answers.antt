use Rattle.packet_walk.proofs.FlightWalking.{walking_starts, walking_turn, walking_on, walking_less}
use Rattle.packet_walk.proofs.flight.Flight.walk.Goals as goal

pub turns-init : goal.turns-init
turns-init c = walking_starts c.args.number c.args.self.now c.requires c.keeps_rules.ensures.packet

pub turns-preserved : goal.turns-preserved
turns-preserved c =
    let w = c.turns.invariant in
    let t = walking_turn c.args.number c.args.self.now c.turns.self w c.in_ok-turn-in-None.field-0 c.turn.new.self c.in-None.ensures
    c.in_ok-turn-in-None.ensures in
    walking_on c.args.number c.args.self.now c.turns.self w c.turn.new.self t.0 t.1

pub turns-smaller : goal.turns-smaller
turns-smaller c =
    let w = c.turns.invariant in
    let t = walking_turn c.args.number c.args.self.now c.turns.self w c.in_ok-turn-in-None.field-0 c.turn.new.self c.in-None.ensures
    c.in_ok-turn-in-None.ensures in
    walking_less c.args.number c.args.self.now c.turns.self w c.turn.new.self t.0 t.1
