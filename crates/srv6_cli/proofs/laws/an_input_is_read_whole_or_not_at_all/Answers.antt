use Rattle.srv6_cli.proofs.Sureness.{input_is_whole}
use Rattle.srv6_cli.proofs.laws.an_input_is_read_whole_or_not_at_all.Goals as goal

pub returns : goal.returns
returns c = input_is_whole
