use Rattle.sid_list_theory.proofs.Alongs.{along_sent}
use Rattle.sid_list_theory.proofs.laws.sends_keep_the_place.Goals as goal

pub returns : goal.returns
returns c = along_sent
