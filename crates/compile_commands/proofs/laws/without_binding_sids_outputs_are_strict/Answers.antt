use Rattle.net_flatness.specs.Flat.{flatness_of}
use Rattle.compile_commands.proofs.CommandStrict.{compiled_strict, judged_strict}
use Rattle.compile_commands.proofs.laws.without_binding_sids_outputs_are_strict.Goals as goal

pub returns-clause-compile : goal.returns-clause-compile
returns-clause-compile c net intent output reach none = compiled_strict net intent none reach output

pub returns-clause-check : goal.returns-clause-check
returns-clause-check c net intent cert output reach none = judged_strict net intent none reach (flatness_of net) cert output
