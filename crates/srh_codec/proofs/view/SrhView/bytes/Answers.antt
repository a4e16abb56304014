use Rattle.std.proofs.Common.{ap, ◌∙◌}
use Rattle.srv6_rules.specs.Srh.{srh_spelling}
use Rattle.srh_codec.proofs.ViewLemmas.{own_spelling}
use Rattle.srh_codec.proofs.view.SrhView.bytes.Goals as goal

pub returns : goal.returns
returns c =
    own_spelling c.self.inside.bytes.now c.self.invariant.stated c.self.invariant.in_range ∙ ap srh_spelling c.self.view_is
