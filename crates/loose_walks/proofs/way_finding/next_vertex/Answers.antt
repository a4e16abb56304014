use Rattle.std.proofs.Common.{◌≤◌, length, refl, sym, arith}
use Rattle.loose_walks.specs.WalkStops.{ends_in}
use Rattle.loose_walks.proofs.VertexNumbers.{next_is, behind_few, end_few}
use Rattle.loose_walks.proofs.way_finding.next_vertex.Goals as goal

pub number_behind-requires-clause-few : goal.number_behind-requires-clause-few
number_behind-requires-clause-few c =
    let few : length c.args.left.now ≤ 48 = omega arith in
    behind_few c.args.net.now c.args.left.now c.args.link c.left_behind_link-behind.result few
    (c.left_behind_link-behind.ensures (ends_in c.args.net.now) (sym c.far_end-end.ensures))

pub number_behind-requires-clause-there : goal.number_behind-requires-clause-there
number_behind-requires-clause-there c =
    end_few c.args.net.now c.keeps_rules.ensures.facts c.args.link c.nodes-size.result c.far_end-end.result c.nodes-size.ensures
    c.far_end-end.ensures

pub returns : goal.returns
returns c =
    next_is c.args.net.now c.args.count c.args.link c.number_behind.result c.nodes-size.result _ c.args.left.now
    c.left_behind_link-behind.result c.far_end-end.result c.nodes-size.ensures refl c.far_end-end.ensures
    (c.left_behind_link-behind.ensures (ends_in c.args.net.now) (sym c.far_end-end.ensures)) c.number_behind.ensures
