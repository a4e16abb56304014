use Rattle.std.proofs.Common.{arith}
use Rattle.net_generator.proofs.GeneratorSpelled.{packet_spellable}
use Rattle.net_generator.proofs.generated_packet.write_packet.Goals as goal

pub returns-in_err-extend_from_slice-clause-spellable : goal.returns-in_err-extend_from_slice-clause-spellable
returns-in_err-extend_from_slice-clause-spellable c = packet_spellable c.args.k (omega arith)

pub returns-clause-spellable : goal.returns-clause-spellable
returns-clause-spellable c = packet_spellable c.args.k (omega arith)
