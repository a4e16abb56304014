use Rattle.std.proofs.Common.{sym, ◌∙◌, ap}
use Rattle.std.specs.Option.{option_and_then}
use Rattle.leg_table.specs.Courses.{finish_from_behind}
use Rattle.leg_table.specs.PositionSids.{is_last}
use Rattle.leg_table.specs.StrictTableTerms.{LegTable}
use Rattle.binding_legs.proofs.BindingTableWays.{finish_way}
use Rattle.binding_legs.proofs.binding_legs.BindingLegsLegs.finish.Goals as goal

pub returns-in-Some : goal.returns-in-Some
returns-in-Some c =
    let last = ap (λ (t : LegTable). is_last t.net t.intent.inner c.args.next) (sym c.self.view_is)
    ∙ sym c.is_last.ensures ∙ c.if-not-is_last.false in
    c.if_none_left.ensures
    ∙ ap (option_and_then finish_from_behind) (sym c.in-Some.is ∙ c.way.ensures.value)
    ∙ finish_way c.args.self.now.net c.args.self.now.intent c.args.position c.args.via c.args.next last

pub returns-in-None : goal.returns-in-None
returns-in-None c =
    let last = ap (λ (t : LegTable). is_last t.net t.intent.inner c.args.next) (sym c.self.view_is)
    ∙ sym c.is_last.ensures ∙ c.if-not-is_last.false in
    ap (option_and_then finish_from_behind) (sym c.in-None.is ∙ c.way.ensures.value)
    ∙ finish_way c.args.self.now.net c.args.self.now.intent c.args.position c.args.via c.args.next last
