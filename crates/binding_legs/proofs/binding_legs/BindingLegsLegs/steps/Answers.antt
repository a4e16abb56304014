use Rattle.std.proofs.Common.{length, ap, ◌∙◌}
use Rattle.leg_table.specs.StrictTableTerms.{LegTable}
use Rattle.leg_table.proofs.FlatNets.{flat_facts}
use Rattle.leg_table.proofs.PublicLaws.{strict_laws}
use Rattle.binding_legs_theory.proofs.OriginLegLaws.{binding_laws}
use Rattle.binding_legs.proofs.binding_legs.BindingLegsLegs.steps.Goals as goal

pub returns-clause-value : goal.returns-clause-value
returns-clause-value c = c.steps.ensures.value ∙ ap (λ (t : LegTable). length t.intent.steps) c.strict.ensures

pub returns-clause-laws : goal.returns-clause-laws
returns-clause-laws c =
    let net = c.args.self.now.net in
    let intent = c.args.self.now.intent in
    let keeps = c.keeps_rules.ensures.facts in
    binding_laws net keeps intent c.keeps_rules.ensures.intent
    (strict_laws net intent keeps (flat_facts net c.keeps_rules.ensures.network c.keeps_rules.ensures.flat) c.keeps_rules.ensures.intent)
