use Rattle.leg_table.proofs.StrictLinks.{step_links}
use Rattle.leg_table.proofs.strict_rows.node_behind.Goals as goal

pub first_end-requires : goal.first_end-requires
first_end-requires c =
    step_links c.args.net.now c.args.node c.args.step.now c.as_slice.result.now c.requires (rw c.as_slice.ensures c.in-Links.is)
