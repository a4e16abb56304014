use Rattle.pce_answers.proofs.PacketTraces.{traced_text}
use Rattle.pce_answers.proofs.tracing.trace_of.Goals as goal

pub text_of_bytes-requires : goal.text_of_bytes-requires
text_of_bytes-requires c =
    traced_text c.args.net.now c.args.node _ _ _ c.in_ok-trace.trace.items c.keeps_rules.ensures.network c.requires c.are_bytes.ensures
    c.in_ok-trace.ensures
