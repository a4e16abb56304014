use Rattle.std.proofs.Common.{◌∙◌, ap}
use Rattle.list_pack.specs.Rooms.{top_room}
use Rattle.list_encoder.proofs.SearchCelling.{top_few_by}
use Rattle.list_encoder.proofs.cells.top_of.Goals as goal

pub returns-in-Some-clause-few : goal.returns-in-Some-clause-few
returns-in-Some-clause-few g c =
    top_few_by (g.L.Legs.seen c.args.legs.now) c.steps.ensures.laws c.args.cell c.in-Some.n c.top_room.result c.requires c.in-Some.is
    (c.top_room.ensures ∙ ap top_room c.shape.ensures)
