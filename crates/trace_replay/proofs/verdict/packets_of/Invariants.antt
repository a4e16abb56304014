use Rattle.std.proofs.Common.{◌≡◌, ◌≤◌, take}
use Rattle.std.specs.List.{count_by}
use Rattle.trace_replay.specs.Replays.{begins_packet}
use Rattle.trace_replay.proofs.verdict.packets_of.Given as goal

abbrev pub invariant-loop-line : goal.invariant-loop-line
invariant-loop-line l = record {
  counted : l.packets ≡ count_by begins_packet (take l.line-index l.lines);
  few : l.packets ≤ l.line-index;
}
