use Rattle.std.proofs.Common.{◌≡◌, ◌+◌, ◌++◌, length, take, refl, ap, ◌∙◌, arith}
use Rattle.std.proofs.lemmas.List.{take_min}
use Rattle.srv6_rules.specs.Packet.{header_spelling}
use Rattle.srv6_rules.specs.Checksum.{pseudo_header}
use Rattle.srv6_rules.specs.ChecksumTerms.{word_sum}
use Rattle.srv6_rules.specs.Errors.{message_head, quote_of, icmp_packet}
use Rattle.icmp6_errors.proofs.MessageLemmas.{checksum_written, error_written}
use Rattle.icmp6_errors.proofs.error.write_error.Goals as goal

pub returns : goal.returns
returns c =
    let p = c.args.packet.now in
    let kind = c.args.kind.now in
    let from = c.args.from.value in
    let bytes = c.bytes-bytes.result.now in
    let quote = c.split_at.result.0.now in
    let headed = c.append_header.new.out.items in
    let source = c.source-to.ensures in
    let quoted : quote ≡ quote_of p =
    c.split_at.ensures.front ∙ ap (λ n. take n bytes) c.min.ensures ∙ take_min 1232 bytes ∙ ap (take 1232) c.bytes-bytes.ensures in
    let pseudo : c.pseudo_sum.result ≡ word_sum (pseudo_header from p.source (8 + length quote) 58) =
    c.pseudo_sum.ensures.sum ∙ ap (λ s. word_sum (pseudo_header from s (8 + length quote) 58)) source in
    let head : c.word_sum.result ≡ word_sum (message_head kind 0) = c.word_sum.ensures.sum ∙ ap word_sum c.message_head.ensures.head in
    let summed : c.pseudo_sum.result + c.word_sum.result + c.word_sum-2.result
    ≡ word_sum (pseudo_header from p.source (8 + length quote) 58) + word_sum (message_head kind 0) + word_sum quote =
    omega (arith, c.word_sum-2.ensures.sum) in
    let checksum = checksum_written p kind from c.requires.spellable c.message_head.ensures.kind quote quoted c.complement.result
    (8 + length quote) (c.pseudo_sum.result + c.word_sum.result + c.word_sum-2.result) refl summed c.complement.ensures in
    error_written p kind from c.requires.spellable c.message_head.ensures.kind quote quoted c.args.out.now.items headed
    c.append.new.out.items c.append-2.new.out.items c.complement.result (8 + length quote) checksum refl c.requires.empty
    (λ message long. c.append_header.ensures.bytes message long
    ∙ ap (λ s. c.args.out.now.items ++ header_spelling (icmp_packet from s message)) source)
    (c.append.ensures ∙ ap (λ xs. headed ++ xs) c.message_head-2.ensures.head) c.append-2.ensures
