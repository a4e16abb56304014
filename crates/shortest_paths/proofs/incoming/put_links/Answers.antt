use Rattle.std.proofs.Common.{List, None, take, sym, subst}
use Rattle.std.proofs.lemmas.List.{take_more}
use Rattle.shortest_paths.specs.declared.links.Link.{Link}
use Rattle.shortest_paths.specs.Incoming.{PutsLinks}
use Rattle.shortest_paths.proofs.LinksByEnd.{puts_none, puts_more}
use Rattle.shortest_paths.proofs.incoming.put_links.Goals as goal

pub loop-link-init : goal.loop-link-init
loop-link-init c = puts_none c.args.groups.now

pub loop-link-preserved : goal.loop-link-preserved
loop-link-preserved c =
    let links = c.args.links.now in
    let i = c.loop-link.link-index in
    subst (λ (ls : List Link). PutsLinks c.args.groups.now ls c.put_link.new.groups)
    (sym (take_more links i (record { from = 0; to = None; metric = 0 }) c.loop-link-test.true))
    (puts_more c.args.groups.now c.loop-link.groups c.put_link.new.groups (take i links) _ c.loop-link.invariant c.in_ok-put_link.ensures)
