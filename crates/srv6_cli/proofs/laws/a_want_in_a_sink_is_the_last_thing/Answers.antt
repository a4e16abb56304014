use Rattle.srv6_cli.proofs.Consequences.{after_out_want, after_err_want}
use Rattle.srv6_cli.proofs.laws.a_want_in_a_sink_is_the_last_thing.Goals as goal

pub returns-clause-out : goal.returns-clause-out
returns-clause-out c = after_out_want

pub returns-clause-err : goal.returns-clause-err
returns-clause-err c = after_err_want
