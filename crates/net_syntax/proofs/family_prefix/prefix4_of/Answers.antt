use Rattle.net_syntax.proofs.Prefixes4.{prefix4_of_text_Some, prefix4_of_text_None}
use Rattle.net_syntax.proofs.family_prefix.prefix4_of.Goals as goal

pub returns-in-Ok : goal.returns-in-Ok
returns-in-Ok c = prefix4_of_text_Some c.args.text.now c.in-Ok.prefix c.in-Ok.ensures

pub returns-in-Err : goal.returns-in-Err
returns-in-Err c = prefix4_of_text_None c.args.text.now c.in-Err.ensures.0
