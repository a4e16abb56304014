use Rattle.std.proofs.Common.{ap, ◌∙◌, ◌+◌, refl}
use Rattle.srv6_rules.specs.Packet.{header_len}
use Rattle.walk_commands.proofs.HeadendSteps.{cut_inner, end_within}
use Rattle.walk_commands.proofs.inner_packets.inner6.Goals as goal

pub split_at-requires : goal.split_at-requires
split_at-requires c =
    end_within c.at_most-most.result.now c.in-Ok.view (header_len + c.from.result) (c.in-Ok.ensures.whole refl) c.in-Ok.ensures.content
    (ap (λ k. header_len + k) (c.from.ensures ∙ c.payload_len.ensures))

pub returns : goal.returns
returns c =
    cut_inner c.at_most-most.result.now c.in-Ok.view (header_len + c.from.result) (c.in-Ok.ensures.whole refl) c.in-Ok.ensures.content
    (ap (λ k. header_len + k) (c.from.ensures ∙ c.payload_len.ensures)) c.split_at.result.0.now c.split_at.ensures.front
    c.args.bytes.now c.at_most-most.ensures.front c.at_most-most.ensures.short
