use Rattle.std.proofs.Common.{◌≡◌, ◌-◌, length, take, []}
use Rattle.pcapng_io.specs.Passing.{BlocksPassed}
use Rattle.pcapng_io.proofs.cursor.next_packet.Given as goal

abbrev pub invariant-each : goal.invariant-each
invariant-each l = record {
  kept : take (length l.initial.described.items) l.described.items ≡ l.initial.described.items;
  passed : BlocksPassed l.input l.initial.cursor l.cursor l.initial.described.items l.described.items [];
}

abbrev pub decreases-each : goal.decreases-each
decreases-each l = length l.input - l.cursor.at
