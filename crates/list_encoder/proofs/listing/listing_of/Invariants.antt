use Rattle.std.proofs.Common.{◌*◌}
use Rattle.list_encoder.specs.Listing.{IsListed}
use Rattle.list_encoder.proofs.listing.listing_of.Given as goal

abbrev pub invariant-loop-k : goal.invariant-loop-k
invariant-loop-k g l = IsListed (g.L.Legs.seen l.legs) l.cells l.table (8 * l.k) l.potentials.items
