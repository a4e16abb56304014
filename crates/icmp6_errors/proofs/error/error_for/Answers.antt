use Rattle.std.proofs.Common.{◌≡◌, refl, sym, ◌∙◌}
use Rattle.srv6_rules.specs.Packet.{packet_at}
use Rattle.icmp6_errors.proofs.MessageLemmas.{error_absent, error_present}
use Rattle.icmp6_errors.proofs.error.error_for.Goals as goal

pub returns-then-is_unanswered-clause-made : goal.returns-then-is_unanswered-clause-made
returns-then-is_unanswered-clause-made c =
    let same : c.in-Ok.packet ≡ packet_at c.args.packet.now = cc (c.in-Ok.ensures.content, c.requires) in
    let none = error_absent c.in-Ok.packet c.args.kind.now c.args.from.value (sym c.is_unanswered.ensures ∙ c.if-is_unanswered.true) in
    rw (sym same, none) refl

pub returns-then-is_unanswered-clause-bytes : goal.returns-then-is_unanswered-clause-bytes
returns-then-is_unanswered-clause-bytes c =
    let same : c.in-Ok.packet ≡ packet_at c.args.packet.now = cc (c.in-Ok.ensures.content, c.requires) in
    let none = error_absent c.in-Ok.packet c.args.kind.now c.args.from.value (sym c.is_unanswered.ensures ∙ c.if-is_unanswered.true) in
    rw (sym same, none) c.clear.ensures

pub returns-clause-made : goal.returns-clause-made
returns-clause-made c =
    let same : c.in-Ok.packet ≡ packet_at c.args.packet.now = cc (c.in-Ok.ensures.content, c.requires) in
    let some = error_present c.in-Ok.packet c.args.kind.now c.args.from.value (sym c.is_unanswered.ensures ∙ c.if-is_unanswered.false) in
    rw (sym same, some) refl

pub returns-clause-bytes : goal.returns-clause-bytes
returns-clause-bytes c =
    let same : c.in-Ok.packet ≡ packet_at c.args.packet.now = cc (c.in-Ok.ensures.content, c.requires) in
    let some = error_present c.in-Ok.packet c.args.kind.now c.args.from.value (sym c.is_unanswered.ensures ∙ c.if-is_unanswered.false) in
    rw (sym same, some) c.write_error.ensures
