use Rattle.std.proofs.Common.{◌≡◌, ◌*◌, take, flat_map}
use Rattle.srv6_rules.specs.Packet.{address_bytes}
use Rattle.srh_codec.specs.Writing.{numbers_of}
use Rattle.srh_codec.proofs.write.write_entries.Given as goal

abbrev pub invariant-loop-entry : goal.invariant-loop-entry
invariant-loop-entry l = record {
  place : l.at ≡ 16 * l.entry-index;
  written : take l.at l.out ≡ flat_map address_bytes (numbers_of (take l.entry-index l.entries));
}
