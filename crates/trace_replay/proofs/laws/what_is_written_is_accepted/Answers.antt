use Rattle.trace_replay.proofs.Written.{written_counts, written_good, written_lines, written_read, written_right}
use Rattle.trace_replay.proofs.laws.what_is_written_is_accepted.Goals as goal

pub returns-clause-lines : goal.returns-clause-lines
returns-clause-lines c = λ net packets keeps each. (written_good net keeps packets each, written_lines net keeps packets each)

pub returns-clause-read : goal.returns-clause-read
returns-clause-read c = λ net packets keeps each short. written_read net keeps packets each short

pub returns-clause-replayed : goal.returns-clause-replayed
returns-clause-replayed c = λ net packets keeps each. (written_right net keeps packets each, written_counts net keeps packets each)
