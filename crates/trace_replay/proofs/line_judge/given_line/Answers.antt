use Rattle.std.proofs.Common.{sym, ap, ◌∙◌}
use Rattle.walk_rules.specs.Treatment.{Gave, step_of}
use Rattle.trace_replay.proofs.ReplayChoosing.{numbered}
use Rattle.trace_replay.proofs.ReplayJudging.{given_text}
use Rattle.trace_replay.proofs.line_judge.given_line.Goals as goal

pub text_of_outcome-requires : goal.text_of_outcome-requires
text_of_outcome-requires c =
    numbered c.args.net.now c.args.place.now c.args.content.now c.in_ok-outcome.outcome c.stage.new.content
    (step_of c.args.net.now c.args.place.now c.args.content.now c.args.choice).error c.args.choice c.keeps_rules.ensures.facts c.requires
    c.in_ok-outcome.ensures.relation (sym (ap (λ (g : Gave). g.outcome) c.in_ok-outcome.ensures.function))

pub returns : goal.returns
returns c =
    record {
      gives = sym (ap (λ (g : Gave). g.outcome) c.in_ok-outcome.ensures.function);
      leaves = sym (ap (λ (g : Gave). g.after) c.in_ok-outcome.ensures.function);
      text = given_text c.args.net.now c.args.place.now c.args.content.now c.args.choice c.in_ok-outcome.outcome c.stage.new.content
          c.bytes.result.now c.as_slice.result.now _ c.in_ok-outcome.ensures.function c.bytes.ensures
          (c.as_slice.ensures.value ∙ c.in_ok-outcome.ensures.error) c.in_ok-text.ensures;
    }
