use Rattle.std.proofs.Common.{ap, ◌∙◌}
use Rattle.pkt_buf.specs.BufferView.{Buffer}
use Rattle.run_commands.proofs.Writable.{entered_cut}
use Rattle.run_commands.proofs.at_node.copied.Goals as goal

pub returns : goal.returns
returns c = c.enter_buf.ensures ∙ entered_cut c.args.family c.args.bytes.now c.in_ok-packet.packet.bytes c.min-len.result
    c.min-len.ensures (ap (λ (b : Buffer). b.bytes) c.in_ok-packet.ensures.filled ∙ c.split_at.ensures.front)
