use Rattle.update_plan.proofs.UpdateShown.{hideable_at}
use Rattle.net_model.specs.NetworkTerms.{network_of}
use Rattle.update_plan.proofs.planning.build_of.Goals as goal

pub build_without-requires-clause-there : goal.build_without-requires-clause-there
build_without-requires-clause-there c = λ i entry at. hideable_at (network_of c.args.parts) c.args.entries.now i entry c.requires.there at
