use Rattle.std.proofs.Common.{◌≡◌, true, false}
use Rattle.net_model.specs.NetworkRules.{same_prefix}
use Rattle.list_pack.proofs.Neighbours.{not_after, after_is}
use Rattle.list_pack.proofs.nest_units.bars_after.Goals as goal

pub returns-then-not-same_prefix : goal.returns-then-not-same_prefix
returns-then-not-same_prefix c =
    let other : same_prefix c.args.outer.now.prefix c.args.prefix.now ≡ false = cc in
    (λ e. absurd (cc), λ bars. absurd (not_after c.args.net.now c.args.prefix.now c.args.next.now c.args.outer.now other bars))

pub returns : goal.returns
returns c =
    let same : same_prefix c.args.outer.now.prefix c.args.prefix.now ≡ true = cc in
    after_is c.args.net.now c.args.prefix.now c.args.next.now c.args.outer.now c.some_bars.result same c.some_bars.ensures
