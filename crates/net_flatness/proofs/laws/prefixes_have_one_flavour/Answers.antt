use Rattle.net_flatness.proofs.FlatLaws.{one_flavour}
use Rattle.net_flatness.proofs.laws.prefixes_have_one_flavour.Goals as goal

pub returns : goal.returns
returns c = one_flavour
