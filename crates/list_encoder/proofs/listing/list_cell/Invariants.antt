use Rattle.std.proofs.Common.{◌+◌, ◌*◌}
use Rattle.list_encoder.specs.Listing.{IsListed}
use Rattle.list_encoder.proofs.listing.list_cell.Given as goal

abbrev pub invariant-loop-room : goal.invariant-loop-room
invariant-loop-room g l = IsListed (g.L.Legs.seen l.legs) l.cells l.table (8 * l.k + l.room) l.potentials.items
