use Rattle.std.proofs.Common.{◌≡◌, suc, ◌+◌, drop, ap, ◌∙◌, arith}
use Rattle.v6_addr.proofs.PrefixFaults6.{no_slash_fault, no_address_fault, set_bit_fault, length_fault}
use Rattle.v6_addr.proofs.text.prefix_fault.Goals as goal

pub returns-then-at-text : goal.returns-then-at-text
returns-then-at-text c = no_slash_fault _ _ c.address_beginning-at.ensures (λ inside slash. absurd (omega arith))

pub returns-then-text-at-ne47 : goal.returns-then-text-at-ne47
returns-then-text-at-ne47 c = no_slash_fault _ _ c.address_beginning-at.ensures (λ inside slash. c.if-text-at-ne47.true slash)

pub returns-in-None : goal.returns-in-None
returns-in-None c = no_address_fault _ _ _ c.address_beginning-at.ensures c.split_at-2.ensures.front c.in-None.ensures

pub returns-in-Some-parse_length : goal.returns-in-Some-parse_length
returns-in-Some-parse_length c =
    let at = c.address_beginning-at.result in
    let next : at + 1 ≡ suc at = omega arith in
    set_bit_fault _ _ _ at _ _ c.requires (omega arith) c.if-text-at-ne47.false c.split_at-2.ensures.front c.in-Some.ensures
    (c.split_at.ensures.back ∙ ap (λ n. drop n c.args.text.now) next) c.in-Some-parse_length.ensures.value

pub returns-in-None-parse_length : goal.returns-in-None-parse_length
returns-in-None-parse_length c =
    let at = c.address_beginning-at.result in
    let next : at + 1 ≡ suc at = omega arith in
    length_fault _ _ _ at _ _ c.address_beginning-at.ensures (omega arith) c.if-text-at-ne47.false c.split_at-2.ensures.front
    c.in-Some.ensures (c.split_at.ensures.back ∙ ap (λ n. drop n c.args.text.now) next) c.in-None-parse_length.ensures.value
    c.length_beginning.ensures
