use Rattle.std.proofs.Common.{◌-◌, length, Some, refl, ◌∙◌}
use Rattle.loose_legs.proofs.OnwardRows.{row_from}
use Rattle.loose_legs.proofs.onwards.onwards_behind.Goals as goal

pub returns : goal.returns
returns c = λ via is.
    row_from c.args.net.now c.args.intent.now c.args.steps.now c.args.position (length c.args.steps.now - c.args.position) (Some via)
    c.in-Some.place c.in_ok-row.row refl (is ∙ c.in-Some.is) c.in_ok-row.ensures
