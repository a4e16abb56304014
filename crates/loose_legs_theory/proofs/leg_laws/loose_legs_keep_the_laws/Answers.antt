use Rattle.net_model.proofs.PublicLaws.{keeps_from_network}
use Rattle.leg_table.proofs.FlatNets.{flat_facts}
use Rattle.loose_legs_theory.proofs.LooseLegLegLaws.{loose_laws}
use Rattle.loose_legs_theory.proofs.leg_laws.loose_legs_keep_the_laws.Goals as goal

pub returns : goal.returns
returns c net intent steps network flat are few =
    loose_laws net (keeps_from_network net network) intent steps are (flat_facts net network flat) few
