use Rattle.std.proofs.Common.{◌≡◌, ◌+◌, ◌-◌, ◌*◌, ◌≤◌}
use Rattle.std.specs.List.{flat_map, range_with_len}
use Rattle.walk_rules.specs.declared.limits.TheConstants.{MAX_STAGES}
use Rattle.generate_commands.specs.Summary.{frames_in, left_in, walks_of, walks_of_packet}
use Rattle.generate_commands.proofs.summing.count_packets.Given as goal

abbrev pub invariant-loop-before : goal.invariant-loop-before
invariant-loop-before l = record {
  few : l.frames ≤ l.before * MAX_STAGES;
  each : l.left ≤ l.before;
  frames : l.frames
      + frames_in (flat_map (walks_of_packet l.net l.headend) (range_with_len (l.before + 1) (l.packets - l.before)))
      ≡ frames_in (walks_of l.net l.headend l.packets);
  left : l.left
      + left_in l.net (flat_map (walks_of_packet l.net l.headend) (range_with_len (l.before + 1) (l.packets - l.before)))
      ≡ left_in l.net (walks_of l.net l.headend l.packets);
}
