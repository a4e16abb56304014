use Rattle.std.proofs.Common.{◌+◌, ◌-◌, ◌/◌, get_or, sym, ◌∙◌, ap, arith, List, ℕ}
use Rattle.list_pack.specs.ListOrder.{lex_before}
use Rattle.list_certificate.specs.Tests.{key_of}
use Rattle.list_certificate.proofs.Listed.{no_line, line_at, splits_low, splits_high}
use Rattle.list_certificate.proofs.search.first_at.Goals as goal

pub loop-low-preserved-then-is_before : goal.loop-low-preserved-then-is_before
loop-low-preserved-then-is_before g c =
    let v = g.L.Legs.seen c.args.legs.now in
    let middle = c.loop-low.low + (c.loop-low.high - c.loop-low.low) / 2 in
    let here = line_at c.args.lines.now middle (omega (arith, c.loop-low-test.true, c.loop-low.invariant.1)) in
    let is = ap (λ (k : List ℕ). lex_before k (key_of c.args.place)) (sym c.place_of.ensures) ∙ sym c.is_before.ensures
    ∙ c.if-is_before.true in (
      splits_low v c.args.lines.now (key_of c.args.place) c.loop-low.low c.loop-low.high middle (get_or c.args.lines.now middle no_line)
          c.requires here is c.loop-low.invariant.0,
      c.loop-low.invariant.1,
      omega (arith, c.loop-low-test.true),
    )

pub loop-low-preserved : goal.loop-low-preserved
loop-low-preserved g c =
    let v = g.L.Legs.seen c.args.legs.now in
    let middle = c.loop-low.low + (c.loop-low.high - c.loop-low.low) / 2 in
    let here = line_at c.args.lines.now middle (omega (arith, c.loop-low-test.true, c.loop-low.invariant.1)) in
    let is = ap (λ (k : List ℕ). lex_before k (key_of c.args.place)) (sym c.place_of.ensures) ∙ sym c.is_before.ensures
    ∙ c.if-is_before.false in (
      splits_high v c.args.lines.now (key_of c.args.place) c.loop-low.low c.loop-low.high middle (get_or c.args.lines.now middle no_line)
          c.requires here is c.loop-low.invariant.0,
      omega (arith, c.loop-low-test.true, c.loop-low.invariant.1),
      omega (arith, c.loop-low-test.true),
    )
