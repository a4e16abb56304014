use Rattle.pce_protocol.proofs.IdLaws.{given_back}
use Rattle.pce_protocol.proofs.laws.ids_are_given_back.Goals as goal

pub returns : goal.returns
returns c = given_back
