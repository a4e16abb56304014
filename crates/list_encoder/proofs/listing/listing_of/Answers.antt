use Rattle.std.proofs.Common.{◌*◌, arith}
use Rattle.list_encoder.proofs.Listings.{listing, lists_few}
use Rattle.list_encoder.proofs.listing.listing_of.Goals as goal

pub returns-clause-listing : goal.returns-clause-listing
returns-clause-listing g c =
    listing (g.L.Legs.seen c.args.legs.now) c.steps.ensures.laws c.args.cells.now c.requires.cells c.args.table.now c.requires.least
    (8 * c.loop-k.k)
    c.loop-k.potentials.items (omega (arith, c.loop-k-test.false)) c.loop-k.invariant

pub returns-clause-few : goal.returns-clause-few
returns-clause-few g c =
    lists_few (g.L.Legs.seen c.args.legs.now) c.args.cells.now c.args.table.now (8 * c.loop-k.k) c.loop-k.potentials.items c.requires.few
    c.loop-k.invariant
