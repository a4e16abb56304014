use Rattle.pcapng_theory.proofs.Refusals.{section_first}
use Rattle.pcapng_theory.proofs.laws.files_begin_with_a_section.Goals as goal

pub returns : goal.returns
returns c = section_first
