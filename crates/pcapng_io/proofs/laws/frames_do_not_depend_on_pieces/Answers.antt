use Rattle.pcapng_io.specs.Taking.{Refused}
use Rattle.pcapng_io.proofs.NgPassed.{from_fault}
use Rattle.pcapng_io.proofs.RunLemmas.{runs_told, runs_done, runs_refused}
use Rattle.pcapng_io.proofs.laws.frames_do_not_depend_on_pieces.Goals as goal

pub returns-clause-frames : goal.returns-clause-frames
returns-clause-frames c = λ calls r more runs. runs_told r calls more runs

pub returns-clause-end : goal.returns-clause-end
returns-clause-end c = λ calls r runs done. runs_done r calls runs done

pub returns-clause-fault : goal.returns-clause-fault
returns-clause-fault c =
    λ calls old new fault more runs takes not. runs_refused old new calls more fault runs
    (from_fault fault _ (Refused old new fault) not takes)
