use Rattle.std.proofs.Common.{List, Some, None, ap, refl}
use Rattle.walk_rules.specs.Walk.{Stage}
use Rattle.walk_rules.proofs.PublicLaws.{walk_of_add_one, walk_of_none, walk_of_zero}
use Rattle.trace_replay.specs.TraceLaws.{walk_lines}
use Rattle.trace_replay.specs.Written.{fed}
use Rattle.trace_replay.proofs.laws.a_packet_is_written_stage_by_stage.Goals as goal

pub returns-clause-first : goal.returns-clause-first
returns-clause-first c = λ net p. refl

pub returns-clause-stage : goal.returns-clause-stage
returns-clause-stage c = λ left net place content pick taken.
    ap (λ (steps : List Stage). fed (walk_lines net (Some place) steps)) (walk_of_add_one left net place content pick taken)

pub returns-clause-used : goal.returns-clause-used
returns-clause-used c = λ net place content pick taken.
    ap (λ (steps : List Stage). fed (walk_lines net (Some place) steps)) (walk_of_zero net (Some place) content pick taken)

pub returns-clause-ended : goal.returns-clause-ended
returns-clause-ended c = λ left net content pick taken.
    ap (λ (steps : List Stage). fed (walk_lines net None steps)) (walk_of_none left net content pick taken)
