use Rattle.std.proofs.Common.{◌-◌, IfSome, slice_set, subst, sym}
use Rattle.packet_walk.specs.Flight.{Packets, packet_in, within}
use Rattle.packet_walk.specs.FlightTerms.{ArePlaced, IsNumber, StagesIn}
use Rattle.packet_walk.proofs.FlightNumbers.{placed_set, stages_in}
use Rattle.packet_walk.proofs.packets.Packets.stage_of.Goals as goal

pub returns : goal.returns
returns c =
    let number = c.args.number in
    let net = c.args.net.now in
    let packets = c.self.inside.packets.items in
    let all : Packets = record { error = c.self.inside.error.items; packets = packets } in
    let new : Packets =
    record { error = c.take_stage.new.error.items; packets = slice_set packets (number - 1) c.take_stage.new.self } in
    let given : IsNumber packets number =
    subst (λ (a : Packets). IsNumber a.packets number) (sym c.self.view_is) c.requires.given in
    record {
      stage = subst (λ (a : Packets). IfSome (packet_in a.packets number)
          (λ p. StagesIn number (within net a) p c.take_stage.result (within net new))) c.self.view_is
          (stages_in number (within net all) c.index_mut.result.now given c.index_mut.ensures.value c.take_stage.result
          c.take_stage.new.self c.take_stage.new.error.items c.take_stage.ensures.stage);
      places = placed_set net packets c.take_stage.new.self
          (subst (λ (a : Packets). ArePlaced net a.packets) (sym c.self.view_is) c.requires.places) c.take_stage.ensures.place
          (number - 1);
    }
