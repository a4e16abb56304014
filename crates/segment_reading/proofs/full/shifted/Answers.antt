use Rattle.std.proofs.Common.{◌≡◌, ℕ, ◌-◌, ◌^◌, ◌<◌, ◌≤◌, refl, sym, ◌∙◌, ap, subst, arith}
use Rattle.srv6_rules.specs.Compressed.{argument_of, shift_of}
use Rattle.next_csid.proofs.ShiftLemmas.{argument_below, shift_written}
use Rattle.segment_reading.proofs.full.shifted.Goals as goal

pub with_field-moved-requires-clause-fits : goal.with_field-moved-requires-clause-fits
with_field-moved-requires-clause-fits c =
    let len = c.args.prefix.now.len in
    let below = argument_below c.args.address.value len in
    subst (λ (n : ℕ). c.argument_at-argument.result < 2 ^ (128 - n)) (sym c.len-len.ensures.len)
    (subst (λ (n : ℕ). n < 2 ^ (128 - len)) (sym c.argument_at-argument.ensures) below)

pub returns : goal.returns
returns c =
    let len : ℕ = c.len-len.result in
    let same = c.len-len.ensures.len in
    let longer = c.requires.longer in
    let some = c.requires.some in
    let argument : c.argument_at-argument.result ≡ argument_of c.args.address.value len
    = c.argument_at-argument.ensures ∙ ap (argument_of c.args.address.value) (sym same) in
    shift_written c.args.address.value c.args.block_bits len c.argument_at-argument.result (len - c.args.block_bits) _ _
    (omega (arith, same, longer)) (omega (arith, same, some)) argument refl c.with_field-moved.ensures.value c.with_field.ensures.value
    ∙ ap (shift_of c.args.address.value c.args.block_bits) same
