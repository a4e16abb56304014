use Rattle.std.proofs.Common.{refl}
use Rattle.walk_rules.specs.Treatment.{step_of}
use Rattle.walk_rules.proofs.PublicLaws.{stage_step}
use Rattle.trace_replay.proofs.ReplayChoosing.{numbered}
use Rattle.trace_replay.proofs.laws.an_outcome_names_what_is_there.Goals as goal

pub returns : goal.returns
returns c = λ net place content choice keeps is.
    let gave = step_of net place content choice in
    numbered net place content gave.outcome gave.after gave.error choice keeps is (stage_step net place content choice keeps is) refl
