use Rattle.update_driver.proofs.EventOver.{nothing_left}
use Rattle.update_driver.proofs.laws.all_packets_end_and_all_edits_are_done.Goals as goal

pub returns : goal.returns
returns c = nothing_left
