use Rattle.std.proofs.Common.{le_trans}
use Rattle.walk_rules.proofs.WalkWalks.{length_walk_of}
use Rattle.walk_rules.proofs.laws.a_run_has_few_stages.Goals as goal

pub returns : goal.returns
returns c =
    record {
      each = length_walk_of;
      run = λ fuel net place content pick taken few. le_trans (length_walk_of fuel net place content pick taken) few;
    }
