use Rattle.std.proofs.Common.{◌-◌, length}
use Rattle.segment_reading.proofs.MoreSteps.{MoreReads}
use Rattle.segment_reading.proofs.full.more_at.Given as goal

-- the SIDs so far were read
abbrev pub invariant-sids : goal.invariant-sids
invariant-sids l = MoreReads l.net l.first l.fn.address.value l.more.items l.last l.at.value

abbrev pub decreases-sids : goal.decreases-sids
decreases-sids l = 128 - length l.more.items
