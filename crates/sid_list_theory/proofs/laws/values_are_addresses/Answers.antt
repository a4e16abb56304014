use Rattle.sid_list_theory.proofs.SidListStarts.{legal_addresses}
use Rattle.sid_list_theory.proofs.laws.values_are_addresses.Goals as goal

pub returns : goal.returns
returns c = legal_addresses
