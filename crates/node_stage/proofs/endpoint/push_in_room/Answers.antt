use Rattle.node_stage.proofs.BindingLemmas.{header_fits, never_refused}
use Rattle.node_stage.proofs.endpoint.push_in_room.Goals as goal

pub unreachable-requires : goal.unreachable-requires
unreachable-requires c =
    let room = header_fits c.args.policy.now c.args.reduced c.args.bytes.now.front c.requires.policy c.requires.room in
    never_refused _ _ _ _ _ _ room c.requires.fits c.in-Err.ensures.answer c.in-Err.ensures.memory

pub returns-clause-front : goal.returns-clause-front
returns-clause-front c =
    c.in-Ok.ensures.front (header_fits c.args.policy.now c.args.reduced c.args.bytes.now.front c.requires.policy c.requires.room)
