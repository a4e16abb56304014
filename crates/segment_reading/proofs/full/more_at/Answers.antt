use Rattle.std.proofs.Common.{List, sym, subst, arith}
use Rattle.v6_addr.specs.Address.{PrefixValue}
use Rattle.segment_reading.proofs.MoreSteps.{MoreReads, more_ends, more_lost, more_next, more_whole}
use Rattle.segment_reading.proofs.full.more_at.Goals as goal

pub returns-in_default : goal.returns-in_default
returns-in_default c =
    more_ends c.args.net.now c.requires.network c.requires.flat c.args.first.now c.args.address.value c.sids.more.items c.sids.last
    c.sids.at.value c.sids.invariant c.in_default.ensures

pub returns-in_default-longest_at : goal.returns-in_default-longest_at
returns-in_default-longest_at c =
    more_lost c.args.net.now c.requires.network c.requires.flat c.args.first.now c.args.address.value c.sids.more.items c.sids.last
    c.sids.at.value c.sids.invariant c.in-Some.next c.in-Some.ensures c.in_default-longest_at.ensures

pub sids-preserved : goal.sids-preserved
sids-preserved c =
    subst (λ (read : List PrefixValue). MoreReads c.args.net.now c.args.first.now c.args.address.value read c.in-Some-longest_at.prefix
    c.in-Some.next.value) (sym c.in_ok-push.ensures.items)
    (more_next c.args.net.now c.requires.network c.requires.flat c.args.first.now c.args.address.value c.sids.more.items c.sids.last
    c.sids.at.value c.sids.invariant c.in-Some.next c.in-Some-longest_at.prefix c.in-Some.ensures
    c.in-Some-longest_at.ensures)

pub returns : goal.returns
returns c =
    more_whole c.args.net.now c.requires.network c.requires.flat c.args.first.now c.args.address.value c.sids.more.items c.sids.last
    c.sids.at.value c.sids.invariant (omega arith)
