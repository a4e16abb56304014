use Rattle.sid_list_theory.proofs.SidListStarts.{destination_holds}
use Rattle.sid_list_theory.proofs.Alongs.{along_holds, along_hop}
use Rattle.sid_list_theory.proofs.laws.destination_is_in_the_active_sid.Goals as goal

pub returns : goal.returns
returns c = record { place = destination_holds; packet = along_holds; hop_limit = along_hop }
