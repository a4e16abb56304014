use Rattle.walk_commands.specs.WalkCommand.{headend_of}
use Rattle.update_commands.proofs.WholeComing.{headend_comes}
use Rattle.update_commands.proofs.laws.an_inner_packet_is_to_come.Goals as goal

pub returns : goal.returns
returns c old new both before after body inner has is = headend_comes (headend_of old both.before before) body inner has is
