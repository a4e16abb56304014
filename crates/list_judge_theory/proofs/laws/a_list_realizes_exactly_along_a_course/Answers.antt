use Rattle.list_judge_theory.proofs.NeedLaws.{need_law}
use Rattle.list_judge_theory.proofs.laws.a_list_realizes_exactly_along_a_course.Goals as goal

pub returns : goal.returns
returns c = λ net intent list need network flat is_intent legal. need_law net intent network flat is_intent list legal need
