use Rattle.std.proofs.Common.{ℕ, ◌-◌, ◌^◌, ◌<◌, sym, subst}
use Rattle.next_csid.proofs.ShiftLemmas.{argument_below, shift_written}
use Rattle.next_csid.proofs.next_step.shifted.Goals as goal

pub with_field-moved-requires-clause-fits : goal.with_field-moved-requires-clause-fits
with_field-moved-requires-clause-fits c =
    let P : ℕ → Type 0 = λ n. n < 2 ^ (128 - c.args.compression.prefix_len) in
    subst P (sym c.argument_in-argument.ensures) (argument_below c.args.destination.value c.args.compression.prefix_len)

pub returns : goal.returns
returns c =
    shift_written c.args.destination.value c.args.compression.block_len c.args.compression.prefix_len _ _ _ _ c.requires.next.longer
    c.requires.next.within c.argument_in-argument.ensures c.csid_len-csid_len.ensures c.with_field-moved.ensures.value
    c.with_field.ensures.value
