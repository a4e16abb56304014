use Rattle.srv6_rules.proofs.PacketContainers.{argument_zero}
use Rattle.srv6_rules.proofs.compressed_laws.argument_is_of_the_sids_that_follow.Goals as goal

pub returns : goal.returns
returns c = argument_zero
