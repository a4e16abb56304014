use Rattle.std.proofs.Common.{◌≡◌, true, false, refl}
use Rattle.net_flatness.specs.Nests.{MayFollow}
use Rattle.list_pack.specs.SidLists.{FollowOn}
use Rattle.list_pack.proofs.ValueSums.{drop_got}
use Rattle.list_pack.proofs.Neighbours.{follow_step, follow_stop, follow_end}
use Rattle.list_pack.proofs.nest_units.follow_on.Goals as goal

pub returns-then-not-may_follow : goal.returns-then-not-may_follow
returns-then-not-may_follow c =
    let follows = MayFollow c.args.net.now in
    let no : c.may_follow.result ≡ false = cc in
    let item = drop_got c.args.more.now c.loop-next.next-index c.next-item.result c.loop-next-test.true c.next-item.is in
    let stop = follow_stop follows (FollowOn follows c.args.first.now c.args.more.now) c.loop-next.last.now c.next-item.result
    c.loop-next.next-index c.args.more.now c.loop-next.invariant item (λ f. absurd (let yes = c.may_follow.ensures.1 f in cc)) in
    (λ e. absurd (cc), λ told. absurd (stop told))

pub loop-next-preserved : goal.loop-next-preserved
loop-next-preserved c =
    let follows = MayFollow c.args.net.now in
    let yes : c.may_follow.result ≡ true = cc in
    let item = drop_got c.args.more.now c.loop-next.next-index c.next-item.result c.loop-next-test.true c.next-item.is in
    follow_step follows (FollowOn follows c.args.first.now c.args.more.now) c.loop-next.last.now c.next-item.result c.loop-next.next-index
    c.args.more.now c.loop-next.invariant item (c.may_follow.ensures.0 yes)

pub returns : goal.returns
returns c =
    let follows = MayFollow c.args.net.now in
    let told = follow_end follows (FollowOn follows c.args.first.now c.args.more.now) c.loop-next.last.now c.loop-next.next-index
    c.args.more.now c.loop-next.invariant c.loop-next-test.false in
    (λ e. told, λ so. refl)
