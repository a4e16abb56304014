use Rattle.std.proofs.Common.{sym}
use Rattle.std.proofs.lemmas.Result.{err_from_is_err_and}
use Rattle.pce_engine.proofs.PartsLeft.{no_links, no_nodes, all_left}
use Rattle.pce_engine.proofs.leaving.left.Goals as goal

pub returns-in_err-links-clause-made : goal.returns-in_err-links-clause-made
returns-in_err-links-clause-made c =
    let p = err_from_is_err_and c.from_residual-in_err-links.result c.from_residual-in_err-links.ensures.1 in
    rw (p.1, p.2)
    (no_links c.args.without.now c.args.networks.now c.in_ok-held.held.now c.in_ok-kept.field-0 c.in_err-links.field-0.0
    c.in_ok-held.ensures (sym c.in_ok-kept.ensures) (rw (c.net-net.ensures.net, c.as_slice.ensures) at c.in_err-links.ensures))

pub returns-in_err-nodes-clause-made : goal.returns-in_err-nodes-clause-made
returns-in_err-nodes-clause-made c =
    let p = err_from_is_err_and c.from_residual-in_err-nodes.result c.from_residual-in_err-nodes.ensures.1 in
    rw (p.1, p.2)
    (no_nodes c.args.without.now c.args.networks.now c.in_ok-held.held.now c.in_ok-kept.field-0 c.in_ok-links.links.items c.in_err-nodes.field-0.0
    c.in_ok-held.ensures (sym c.in_ok-kept.ensures) (rw (c.net-net.ensures.net, c.as_slice.ensures) at c.in_ok-links.ensures)
    (rw (c.net-net.ensures.net, c.as_slice-2.ensures) at c.in_err-nodes.ensures))

pub returns-in-Ok-clause-made : goal.returns-in-Ok-clause-made
returns-in-Ok-clause-made c =
    all_left c.args.without.now c.args.networks.now c.in_ok-held.held.now c.in_ok-kept.field-0 c.in_ok-room_for.field-0
    c.in_ok-links.links.items c.in_ok-nodes.nodes.items c.in-Ok.net
    c.in_ok-held.ensures (sym c.in_ok-kept.ensures) (rw (c.net-net.ensures.net, c.as_slice.ensures) at c.in_ok-links.ensures)
    (rw (c.net-net.ensures.net, c.as_slice-2.ensures) at c.in_ok-nodes.ensures) (sym c.in_ok-room_for.ensures)
    (rw (c.net-net.ensures.net, c.as_slice-3.ensures.value, c.as_slice-4.ensures.value) at c.in-Ok.ensures)
