use Rattle.std.proofs.Common.{◌∙◌, ◌-◌, length, arith}
use Rattle.intent_reader.proofs.WalkLemmas.{is_last}
use Rattle.intent_reader.proofs.intent_rules.ends_in_function.Goals as goal

pub returns-in-len1-up : goal.returns-in-len1-up
returns-in-len1-up c =
    let at_least = c.in-len1-up.len_at_least in
    c.is_function.ensures ∙ is_last c.args.steps.now (length c.args.steps.now - 1) c.last-item.result (omega arith) c.last-item.is
