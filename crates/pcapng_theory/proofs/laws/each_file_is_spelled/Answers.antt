use Rattle.pcapng_theory.proofs.Refusals.{each_file}
use Rattle.pcapng_theory.proofs.laws.each_file_is_spelled.Goals as goal

pub returns : goal.returns
returns c = each_file
