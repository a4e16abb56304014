use Rattle.srv6_rules.proofs.PacketContainers.{container_shift, container_rest}
use Rattle.srv6_rules.proofs.compressed_laws.shift_leads_to_the_next_sid.Goals as goal

pub returns : goal.returns
returns c = record { shifted = container_shift; rest = container_rest }
