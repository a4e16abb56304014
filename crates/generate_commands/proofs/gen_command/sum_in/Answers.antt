use Rattle.std.proofs.Common.{◌≡◌, ℕ, List, Ok, ◌∙◌, subst}
use Rattle.net_generator.specs.Intents.{intent_text}
use Rattle.command_inputs.specs.Judgements.{intent_in}
use Rattle.generate_commands.proofs.Generating.{generates_intent}
use Rattle.generate_commands.proofs.gen_command.sum_in.Goals as goal

pub returns : goal.returns
returns c =
    generates_intent c.args.net.now c.in_ok-intent.intent (intent_text c.args.size) c.summary_for.result
    (subst (λ (text : List ℕ). intent_in c.args.net.now text ≡ Ok c.in_ok-intent.intent)
    (c.as_slice.ensures.value ∙ c.in_ok-text.ensures) c.in_ok-intent.ensures.judged)
    c.summary_for.ensures
