use Rattle.srv6_rules.proofs.SteppedPackets.{shifted_spellable, step_spellable, step_hop_limit}
use Rattle.srv6_rules.proofs.compressed_laws.compressed_steps_can_be_spelled.Goals as goal

pub returns : goal.returns
returns c = record { shifted = shifted_spellable; moved = step_spellable; hop_limit = step_hop_limit }
