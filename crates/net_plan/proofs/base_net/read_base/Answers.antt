use Rattle.net_syntax.specs.DescriptionText.{description_in}
use Rattle.net_plan.proofs.BaseMet.{net_given}
use Rattle.net_plan.proofs.base_net.read_base.Goals as goal

pub base_of-requires-clause-described : goal.base_of-requires-clause-described
base_of-requires-clause-described c =
    let text = c.args.text.now in
    (text, net_given (description_in text) c.in_ok-said.said (c.in_ok-said.ensures (description_in text) c.read_description.ensures))
