use Rattle.walk_rules.proofs.LookupHits.{lookup_there}
use Rattle.walk_rules.proofs.Routing.{way_from, way_into}
use Rattle.walk_rules.proofs.laws.a_way_leads_from_its_place.Goals as goal

pub returns : goal.returns
returns c = record { hit = lookup_there; into = way_into; way = way_from }
