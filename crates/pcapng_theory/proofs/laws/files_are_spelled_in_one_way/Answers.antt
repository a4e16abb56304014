use Rattle.pcapng_theory.proofs.Unique.{one_file}
use Rattle.pcapng_theory.proofs.laws.files_are_spelled_in_one_way.Goals as goal

pub returns : goal.returns
returns c = one_file
