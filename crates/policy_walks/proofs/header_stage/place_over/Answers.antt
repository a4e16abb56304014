use Rattle.std.proofs.Common.{Some}
use Rattle.leg_table.proofs.StrictCourses.{end_within}
use Rattle.policy_walks.proofs.HeaderWalkPlaces.{arrived_there}
use Rattle.policy_walks.proofs.header_stage.place_over.Goals as goal

pub returns-clause-is_place : goal.returns-clause-is_place
returns-clause-is_place c =
    arrived_there c.args.net.now c.arrival.result c.in_ok-node.node c.args.place.now.family
    (end_within c.args.net.now c.keeps_rules.ensures.facts _ (Some c.in_ok-node.node) c.in_ok-node.ensures) c.arrival.ensures
