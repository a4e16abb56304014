use Rattle.std.proofs.Common.{ap, ◌∙◌, refl, List, ℕ}
use Rattle.srv6_rules.specs.Packet.{content4_by}
use Rattle.srv6_rules.specs.Packet4.{read4}
use Rattle.walk_commands.specs.WalkCommand.{of_content}
use Rattle.walk_commands.proofs.HeadendSteps4.{dropped4, cut_inner4, end_within4}
use Rattle.walk_commands.proofs.inner_packets.inner4.Goals as goal

pub returns-in-Err : goal.returns-in-Err
returns-in-Err c =
    λ policy. dropped4 policy c.at_most-most.result.now c.in-Err.fault c.reason.result c.reason.ensures c.in-Err.ensures.content
    ∙ ap (λ (xs : List ℕ). of_content policy (content4_by xs (read4 xs))) c.at_most-most.ensures.front

pub split_at-requires : goal.split_at-requires
split_at-requires c =
    end_within4 c.at_most-most.result.now c.in-Ok.view c.from-len.result (c.in-Ok.ensures.whole refl) c.in-Ok.ensures.content
    (c.from-len.ensures ∙ c.total_len.ensures.length)

pub returns : goal.returns
returns c =
    cut_inner4 c.at_most-most.result.now c.in-Ok.view c.from-len.result (c.in-Ok.ensures.whole refl) c.in-Ok.ensures.content
    (c.from-len.ensures ∙ c.total_len.ensures.length) c.split_at.result.0.now c.split_at.ensures.front
    c.args.bytes.now c.at_most-most.ensures.front c.at_most-most.ensures.short
