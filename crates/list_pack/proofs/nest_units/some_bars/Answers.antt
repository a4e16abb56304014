use Rattle.std.proofs.Common.{◌≡◌, true, false, refl, arith}
use Rattle.list_pack.specs.Barred.{Bars}
use Rattle.list_pack.proofs.Neighbours.{each_more, some_barred, none_barred}
use Rattle.list_pack.proofs.nest_units.some_bars.Goals as goal

pub returns-then-bars : goal.returns-then-bars
returns-then-bars c =
    let yes : c.bars.result ≡ true = cc in
    let barred = some_barred c.args.net.now c.args.next.now c.args.outer.now c.loop-n.n c.sid.result.now c.sid.ensures
    (c.bars.ensures.0 yes) in
    (λ e. barred, λ some. refl)

pub loop-n-preserved : goal.loop-n-preserved
loop-n-preserved c =
    let no : c.bars.result ≡ false = cc in
    each_more (λ inner. ¬ Bars c.args.net.now c.args.next.now c.args.outer.now inner) c.args.net.now.sids c.loop-n.n
    c.sid.result.now c.sid.ensures (λ barred. absurd (let yes = c.bars.ensures.1 barred in cc)) c.loop-n.invariant

pub returns : goal.returns
returns c = (
  λ e. absurd (cc),
  λ some. absurd (none_barred c.args.net.now c.args.next.now c.args.outer.now c.loop-n.n
      (omega (arith, c.loop-n-test.false, c.sids-n-end.ensures)) c.loop-n.invariant some),
)
