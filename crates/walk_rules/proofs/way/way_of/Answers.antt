use Rattle.walk_rules.specs.Way.{way_of}
use Rattle.walk_rules.specs.WayTerms.{way_in}
use Rattle.walk_rules.proofs.Routing.{found_from}
use Rattle.walk_rules.proofs.way.way_of.Goals as goal

pub returns-clause-leads : goal.returns-clause-leads
unfolding way_of
returns-clause-leads c =
    found_from c.args.net.now c.args.place.now c.args.destination.value (way_in c.way_by.result) c.keeps_rules.ensures.facts c.requires.1
    c.way_by.ensures
