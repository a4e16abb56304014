use Rattle.std.proofs.Common.{◌≡◌, true, false, refl, arith}
use Rattle.list_pack.specs.Barred.{BarsAfter}
use Rattle.list_pack.proofs.Neighbours.{each_more, barred_after, none_after}
use Rattle.list_pack.proofs.nest_units.may_follow.Goals as goal

pub returns-then-bars_after : goal.returns-then-bars_after
returns-then-bars_after c =
    let yes : c.bars_after.result ≡ true = cc in
    let barred = barred_after c.args.net.now c.args.prefix.now c.args.next.now c.loop-n.n c.sid.result.now c.sid.ensures
    (c.bars_after.ensures.0 yes) in
    (λ e. absurd (cc), λ follows. absurd (barred follows))

pub loop-n-preserved : goal.loop-n-preserved
loop-n-preserved c =
    let no : c.bars_after.result ≡ false = cc in
    each_more (λ outer. ¬ BarsAfter c.args.net.now c.args.prefix.now c.args.next.now outer) c.args.net.now.sids
    c.loop-n.n c.sid.result.now c.sid.ensures (λ barred. absurd (let yes = c.bars_after.ensures.1 barred in cc)) c.loop-n.invariant

pub returns : goal.returns
returns c =
    let follows = none_after c.args.net.now c.args.prefix.now c.args.next.now c.loop-n.n
    (omega (arith, c.loop-n-test.false, c.sids-n-end.ensures)) c.loop-n.invariant in
    (λ e. follows, λ told. refl)
