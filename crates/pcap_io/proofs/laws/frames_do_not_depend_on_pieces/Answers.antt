use Rattle.pcap_io.proofs.CapturePieceLemmas.{runs_told, runs_done, runs_limit}
use Rattle.pcap_io.proofs.laws.frames_do_not_depend_on_pieces.Goals as goal

pub returns-clause-frames : goal.returns-clause-frames
returns-clause-frames c = runs_told

pub returns-clause-end : goal.returns-clause-end
returns-clause-end c = runs_done

pub returns-clause-limit : goal.returns-clause-limit
returns-clause-limit c = runs_limit
