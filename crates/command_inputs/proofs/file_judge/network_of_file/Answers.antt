use Rattle.std.proofs.Common.{ℕ, List, subst}
use Rattle.command_output.specs.CommandAnswers.{JudgesText}
use Rattle.command_inputs.specs.Judgements.{network_in}
use Rattle.command_inputs.proofs.InputJudging.{judged_file}
use Rattle.command_inputs.proofs.file_judge.network_of_file.Goals as goal

pub returns-clause-judged : goal.returns-clause-judged
returns-clause-judged g c =
    judged_file network_in c.network_of.result c.in_ok-text.text.items c.args.name.now (g.F.Files.seen c.args.files.now)
    (g.F.Files.seen c.read.new.self) c.in_ok-text.ensures.1 c.in_ok-text.ensures.2
    (subst (λ (text : List ℕ). JudgesText network_in text c.network_of.result) c.as_slice.ensures.value c.network_of.ensures.judged)
