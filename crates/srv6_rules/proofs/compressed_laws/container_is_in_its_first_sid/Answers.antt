use Rattle.srv6_rules.proofs.PacketContainers.{container_holds, container_address, container_one}
use Rattle.srv6_rules.proofs.compressed_laws.container_is_in_its_first_sid.Goals as goal

pub returns : goal.returns
returns c = record { holds = container_holds; address = container_address; one = container_one }
