use Rattle.std.proofs.Common.{◌≡◌, sym, ◌∙◌, ap, subst, arith}
use Rattle.list_pack.specs.LegsValueTerms.{IsShape}
use Rattle.list_pack.specs.Rooms.{top_room}
use Rattle.list_certificate.proofs.LegNetworks.{sid_middle}
use Rattle.list_certificate.proofs.item.placed_of.Goals as goal

pub shape-requires : goal.shape-requires
shape-requires g c =
    let v = g.L.Legs.seen c.args.legs.now in
    let m = sid_middle c.args.net.now v c.args.row.now.position c.in_ok-n.n c.args.row.now.sid.now (sym c.sid_of.ensures ∙ c.in_ok-n.was) in
    (c.args.row.now.position, omega (arith, c.if-row-steps.false, c.steps.ensures.value), m.among)

pub top_room-top-requires : goal.top_room-top-requires
top_room-top-requires g c =
    let v = g.L.Legs.seen c.args.legs.now in
    let m = sid_middle c.args.net.now v c.args.row.now.position c.in_ok-n.n c.args.row.now.sid.now (sym c.sid_of.ensures ∙ c.in_ok-n.was) in
    subst IsShape (sym c.shape.ensures)
    (c.steps.ensures.laws.shapes c.in_ok-n.n
    (c.args.row.now.position, omega (arith, c.if-row-steps.false, c.steps.ensures.value), m.among))

pub returns-clause-state : goal.returns-clause-state
returns-clause-state g c =
    let v = g.L.Legs.seen c.args.legs.now in
    let m = sid_middle c.args.net.now v c.args.row.now.position c.in_ok-n.n c.args.row.now.sid.now (sym c.sid_of.ensures ∙ c.in_ok-n.was) in
    let top : c.top_room-top.result ≡ top_room (v.shape c.in_ok-n.n) = c.top_room-top.ensures ∙ ap top_room c.shape.ensures in (
      omega (arith, c.if-row-steps.false, c.steps.ensures.value),
      m.among,
      m.middle,
      omega (arith, c.if-row-from.false, c.from.ensures, top),
    )
