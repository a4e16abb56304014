use Rattle.std.proofs.Common.{◌∙◌}
use Rattle.update_joined.proofs.RouteNumbers.{told}
use Rattle.update_joined.proofs.known_routes.has_equal.Goals as goal

pub returns : goal.returns
returns c =
    let q = c.args.q.now in
    let routes = c.args.routes.now in
    c.equal_at.ensures ∙ told routes q c.number_of.result c.requires.distinct
    (rw c.number_of.ensures (c.requires.numbers q))
