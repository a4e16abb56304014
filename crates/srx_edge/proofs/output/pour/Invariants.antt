use Rattle.std.proofs.Common.{length, ◌-◌, ◌≡◌, ◌≤◌, take}
use Rattle.srx_edge.specs.Sinks.{sent}
use Rattle.srx_edge.proofs.output.pour.Given as goal

-- the first `written` bytes went out
abbrev pub invariant-loop-written : goal.invariant-loop-written
invariant-loop-written g l = record {
  within : l.written ≤ length l.bytes;
  seen : g.O.Sink.seen l.sink ≡ sent (take l.written l.bytes) (g.O.Sink.seen l.fn.sink);
}

abbrev pub decreases-loop-written : goal.decreases-loop-written
decreases-loop-written g l = length l.bytes - l.written
