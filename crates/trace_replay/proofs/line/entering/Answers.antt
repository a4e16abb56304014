use Rattle.std.proofs.Common.{◌≡◌, ◌≤◌, length, arith, ap, ◌∙◌, sym}
use Rattle.srv6_rules.specs.Packet.{Content, bytes_of, entered, most_len}
use Rattle.trace_replay.proofs.ReplayEntering.{enters_not_whole, enters_whole}
use Rattle.trace_replay.proofs.line.entering.Goals as goal

pub returns-then-len-clause-line : goal.returns-then-len-clause-line
returns-then-len-clause-line c =
    let short : length c.args.packet.items ≤ most_len = omega (arith, c.len.ensures, c.if-len-gt-MAX_PACKET_LEN.false) in
    let same : c.in_ok-to_vec.field-0.items ≡ c.args.packet.items =
    c.in_ok-to_vec.ensures.items_if_clones_equal (λ x y e. e) ∙ c.deref.ensures.value in
    let whole = c.len-2.ensures ∙ ap (λ (x : Content). length (bytes_of x)) (c.enter-content.ensures ∙ ap (entered c.args.family) same) in
    let len : c.len-len.result ≡ length c.args.packet.items = omega (arith, c.len-len.ensures) in
    enters_not_whole c.args.family c.args.node c.args.packet.items short c.len-2.result whole
    (λ e. c.if-len.true (e ∙ sym len))

pub returns-clause-line : goal.returns-clause-line
returns-clause-line c =
    let short : length c.args.packet.items ≤ most_len = omega (arith, c.len.ensures, c.if-len-gt-MAX_PACKET_LEN.false) in
    let same : c.in_ok-to_vec.field-0.items ≡ c.args.packet.items =
    c.in_ok-to_vec.ensures.items_if_clones_equal (λ x y e. e) ∙ c.deref.ensures.value in
    let whole = c.len-2.ensures ∙ ap (λ (x : Content). length (bytes_of x)) (c.enter-content.ensures ∙ ap (entered c.args.family) same) in
    let len : c.len-len.result ≡ length c.args.packet.items = omega (arith, c.len-len.ensures) in
    rw c.new.ensures
    (enters_whole c.args.family c.args.node c.args.packet.items short c.len-2.result whole (c.if-len.false ∙ len))
