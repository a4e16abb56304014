use Rattle.sid_list_theory.proofs.Alongs.{along_onward, along_next, along_tired, along_only}
use Rattle.sid_list_theory.proofs.laws.sid_leads_to_the_next_place.Goals as goal

pub returns : goal.returns
returns c = record { onward = along_onward; place = along_next; hop_limit = along_tired; only = along_only }
