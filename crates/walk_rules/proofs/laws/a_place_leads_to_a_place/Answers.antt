use Rattle.walk_rules.proofs.WalkPlaces.{sid_how, exposed_how, step_place}
use Rattle.walk_rules.proofs.laws.a_place_leads_to_a_place.Goals as goal

pub returns : goal.returns
returns c = record { next = step_place; sid = sid_how; exposed = exposed_how }
