use Rattle.std.proofs.Common.{ap, ◌∙◌, arith}
use Rattle.v6_addr.specs.Address.{field_of}
use Rattle.v6_addr.proofs.Fields.{raised_fits, edited_code, field_of_same, field_of_before, field_of_behind}
use Rattle.v6_addr.proofs.bits.with_field.Goals as goal

pub raised-moved-requires-clause-fits : goal.raised-moved-requires-clause-fits
raised-moved-requires-clause-fits c = raised_fits c.args.at c.args.width c.args.v c.requires.within c.requires.fits

pub returns-clause-value : goal.returns-clause-value
returns-clause-value c =
    (edited_code c.args.a.value c.args.at c.args.width c.args.v _ _ _ c.requires.within
    (omega arith) c.requires.fits c.low_bits.ensures c.raised-moved.ensures c.low_bits-below.ensures).0

pub overflow_add-result-2 : goal.overflow_add-result-2
overflow_add-result-2 c =
    let whole = edited_code c.args.a.value c.args.at c.args.width c.args.v _ _ _ c.requires.within
    (omega arith) c.requires.fits c.low_bits.ensures c.raised-moved.ensures c.low_bits-below.ensures in
    omega (arith, whole.1)

pub overflow_add-result : goal.overflow_add-result
overflow_add-result c =
    let whole = edited_code c.args.a.value c.args.at c.args.width c.args.v _ _ _ c.requires.within
    (omega arith) c.requires.fits c.low_bits.ensures c.raised-moved.ensures c.low_bits-below.ensures in
    omega (arith, whole.1)

pub returns-clause-same : goal.returns-clause-same
returns-clause-same c =
    ap (λ n. field_of n c.args.at c.args.width) (returns-clause-value c)
    ∙ field_of_same c.args.a.value c.args.at c.args.width c.args.v c.requires.within c.requires.fits

pub returns-clause-before : goal.returns-clause-before
returns-clause-before c other size before =
    ap (λ n. field_of n other size) (returns-clause-value c)
    ∙ field_of_before c.args.a.value c.args.at c.args.width c.args.v other size c.requires.within c.requires.fits before

pub returns-clause-behind : goal.returns-clause-behind
returns-clause-behind c other size behind ends =
    ap (λ n. field_of n other size) (returns-clause-value c)
    ∙ field_of_behind c.args.a.value c.args.at c.args.width c.args.v other size c.requires.within c.requires.fits behind ends
