use Rattle.std.proofs.Common.{refl}
use Rattle.tunnel_network_theory.proofs.NetworkMachine.{walks_same}
use Rattle.tunnel_network_theory.proofs.laws.a_network_walks_as_its_machine.Goals as goal

pub returns-clause-alone : goal.returns-clause-alone
returns-clause-alone c net fuel place p pick n taken = walks_same net pick fuel place p _ n 0 taken taken tt refl

pub returns-clause-under : goal.returns-clause-under
returns-clause-under c net fuel place p q below pick n taken = walks_same net pick fuel place p _ n _ taken taken refl refl
