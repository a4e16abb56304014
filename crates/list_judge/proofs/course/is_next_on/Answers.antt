use Rattle.std.proofs.Common.{◌≡◌, true, false, sym, ◌∙◌}
use Rattle.net_model.specs.NetworkRules.{same_prefix}
use Rattle.list_judge.proofs.CourseSids.{off_there, on_there}
use Rattle.list_judge.proofs.course.is_next_on.Goals as goal

pub returns-then-not-same_prefix-clause-off : goal.returns-then-not-same_prefix-clause-off
returns-then-not-same_prefix-clause-off g c =
    let no : same_prefix c.sid.result.now.prefix c.args.prefix.now ≡ false = cc in
    λ none on. absurd (off_there c.args.net.now c.args.sid c.sid.result.now c.args.prefix.now c.sid.ensures no on)

pub returns-clause-on : goal.returns-clause-on
returns-clause-on g c =
    let yes : same_prefix c.sid.result.now.prefix c.args.prefix.now ≡ true = cc in
    λ comes. (on_there c.args.net.now c.args.sid c.sid.result.now c.args.prefix.now c.sid.ensures yes, sym c.comes_to.ensures ∙ comes)
