use Rattle.std.proofs.Common.{◌∙◌, ap}
use Rattle.list_pack.specs.declared.types.Shape.{Shape}
use Rattle.list_certificate.proofs.LegNetworks.{known, state_sid, key_is, node_is}
use Rattle.list_certificate.proofs.draft.key_of.Goals as goal

pub sid-requires : goal.sid-requires
sid-requires g c =
    let v = g.L.Legs.seen c.args.legs.now in
    known c.args.net.now v c.args.n (c.requires.net c.args.n (state_sid v c.args.state c.args.n c.requires.state c.requires.via))

pub returns : goal.returns
returns g c =
    let v = g.L.Legs.seen c.args.legs.now in
    key_is v c.args.state.position c.args.state.room c.args.n c.value.result.value c.len.result c.sid.result.now.node c.args.state.via
    c.requires.via
    (c.value.ensures.value ∙ ap (λ (s : Shape). s.prefix.value) c.shape-prefix.ensures)
    (c.len.ensures.len ∙ ap (λ (s : Shape). s.prefix.len) c.shape-prefix.ensures)
    (node_is c.args.net.now v c.args.n c.sid.result.now
    (c.requires.net c.args.n (state_sid v c.args.state c.args.n c.requires.state c.requires.via)) c.sid.ensures)
