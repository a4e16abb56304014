use Rattle.std.proofs.Common.{List, None, take, sym, subst}
use Rattle.std.proofs.lemmas.List.{take_more}
use Rattle.shortest_paths.specs.declared.links.Link.{Link}
use Rattle.shortest_paths.specs.Settling.{Relaxes}
use Rattle.shortest_paths.proofs.Lowering.{relaxes_none, relaxes_more}
use Rattle.shortest_paths.proofs.relaxing.relax_links.Goals as goal

pub loop-link-init : goal.loop-link-init
loop-link-init c = relaxes_none c.args.distance c.args.entries.now

pub loop-link-preserved : goal.loop-link-preserved
loop-link-preserved c =
    let into = c.args.into.now in
    let i = c.loop-link.link-index in
    subst (λ (ls : List Link). Relaxes ls c.args.distance c.args.entries.now c.relax_link.new.entries)
    (sym (take_more into i (record { from = 0; to = None; metric = 0 }) c.loop-link-test.true))
    (relaxes_more (take i into) _ c.args.distance c.args.entries.now c.loop-link.entries c.relax_link.new.entries c.loop-link.invariant
    c.relax_link.ensures)
