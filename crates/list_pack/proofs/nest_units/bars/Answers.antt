use Rattle.std.proofs.Common.{◌≡◌, ◌-◌, true, false, ◌==◌}
use Rattle.list_pack.proofs.Neighbours.{bars_is}
use Rattle.list_pack.proofs.nest_units.bars.Goals as goal

pub returns-then-not-are_nest : goal.returns-then-not-are_nest
returns-then-not-are_nest c =
    let none : c.are_nest.result ≡ false = cc in
    (λ e. absurd (cc), λ bars. absurd (let nest = c.are_nest.ensures.1 bars.nest in cc))

pub returns : goal.returns
returns c =
    let yes : c.are_nest.result ≡ true = cc in
    let nest = c.are_nest.ensures.0 yes in
    let at = c.len-at.result - 16 in
    bars_is c.args.net.now c.args.next.now c.args.outer.now c.args.inner.now at (c.field.result == c.field-2.result) nest
    (cc (c.len-at.ensures.len)) (cc (c.field.ensures.value, c.field-2.ensures.value, c.value.ensures.value, c.value-2.ensures.value))
