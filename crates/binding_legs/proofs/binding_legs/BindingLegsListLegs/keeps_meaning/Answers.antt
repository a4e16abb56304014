use Rattle.leg_table.proofs.FlatNets.{flat_facts}
use Rattle.leg_table.proofs.PublicLaws.{strict_laws}
use Rattle.binding_legs_theory.proofs.OriginLegLaws.{binding_laws}
use Rattle.binding_legs_theory.proofs.Means.{binding_means}
use Rattle.binding_legs.proofs.binding_legs.BindingLegsListLegs.keeps_meaning.Goals as goal

pub returns : goal.returns
returns c =
    let net = c.args.self.now.net in
    let intent = c.args.self.now.intent in
    let k = c.keeps_rules.ensures in
    binding_means net intent k.network k.flat k.intent
    (binding_laws net k.facts intent k.intent (strict_laws net intent k.facts (flat_facts net k.network k.flat) k.intent))
