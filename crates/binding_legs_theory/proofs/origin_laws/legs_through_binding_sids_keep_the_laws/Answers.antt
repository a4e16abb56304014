use Rattle.net_model.proofs.PublicLaws.{keeps_from_network}
use Rattle.leg_table.proofs.FlatNets.{flat_facts}
use Rattle.leg_table.proofs.PublicLaws.{strict_laws}
use Rattle.binding_legs_theory.proofs.OriginLegLaws.{binding_laws}
use Rattle.binding_legs_theory.proofs.origin_laws.legs_through_binding_sids_keep_the_laws.Goals as goal

pub returns : goal.returns
returns c net intent network flat is_intent =
    let keeps = keeps_from_network net network in
    binding_laws net keeps intent is_intent (strict_laws net intent keeps (flat_facts net network flat) is_intent)
