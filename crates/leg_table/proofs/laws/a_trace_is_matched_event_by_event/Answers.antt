use Rattle.leg_table.proofs.TraceMeetings.{matches_by, left_parts}
use Rattle.leg_table.proofs.laws.a_trace_is_matched_event_by_event.Goals as goal

pub returns-clause-matched : goal.returns-clause-matched
returns-clause-matched c = matches_by

pub returns-clause-parts : goal.returns-clause-parts
returns-clause-parts c = left_parts
