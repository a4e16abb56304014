use Rattle.std.proofs.Common.{length, sym, ◌∙◌, ap}
use Rattle.std.specs.Option.{option_map}
use Rattle.binding_spec.specs.Origins.{leads_on}
use Rattle.leg_table.specs.StrictTableTerms.{LegTable}
use Rattle.leg_table.specs.Courses.{leg_from_behind}
use Rattle.binding_legs.proofs.BindingTableWays.{leg_way}
use Rattle.binding_legs.proofs.binding_legs.BindingLegsLegs.leg.Goals as goal

pub returns-in-None : goal.returns-in-None
returns-in-None c =
    let leads = ap (λ (t : LegTable). leads_on t.net c.args.next) (sym c.self.view_is) ∙ sym c.leads_on.ensures ∙ c.if-not-leads_on.false in
    ap (option_map (leg_from_behind (length c.args.self.now.intent.steps))) (sym c.in-None.is ∙ c.way.ensures.value)
    ∙ leg_way c.args.self.now.net c.args.self.now.intent c.args.position c.args.via c.args.next leads
