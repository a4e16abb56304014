use Rattle.walk_rules.proofs.Judged.{stage_member, stage_each}
use Rattle.walk_rules.proofs.WalkPlaces.{hops_start}
use Rattle.walk_rules.proofs.laws.each_next_hop_is_an_outcome.Goals as goal

pub returns : goal.returns
returns c = record { member = stage_member; each = stage_each; starts = hops_start }
