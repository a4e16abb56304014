use Rattle.walk_rules.proofs.WalkContents.{next_place_family}
use Rattle.walk_rules.proofs.Judged.{step_content, step_back}
use Rattle.walk_rules.proofs.laws.a_stage_keeps_a_content.Goals as goal

pub returns : goal.returns
returns c = record { content = step_content; back = step_back; family = next_place_family }
