use Rattle.std.proofs.Common.{subst}
use Rattle.node_stage.specs.Fronted.{FrontedContent}
use Rattle.packet_walk.specs.Flight.{entering, within}
use Rattle.packet_walk.specs.FlightTerms.{Enters}
use Rattle.packet_walk.proofs.packets.Packets.enter.Goals as goal

pub returns : goal.returns
returns c = λ net. subst (λ (content : FrontedContent). Enters (within net c.args.self.now)
    (entering content c.args.place c.args.choices.now) c.enter_content.result (within net c.enter_content.new.self)) c.enter_buf.ensures
    (c.enter_content.ensures net)
