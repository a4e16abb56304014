use Rattle.std.proofs.Common.{◌≡◌, ◌++◌, ◌-◌, string_bytes}
use Rattle.std.specs.List.{flat_map, range_with_len}
use Rattle.header_lines.specs.HeaderLines.{entry_line}
use Rattle.header_lines.proofs.routing_lines.append_entries.Given as goal

abbrev pub invariant-loop-i : goal.invariant-loop-i
invariant-loop-i l =
    string_bytes l.out ++ flat_map (entry_line l.srh) (range_with_len l.i (l.shown - l.i))
    ≡ string_bytes l.initial.out ++ flat_map (entry_line l.srh) (range_with_len 0 l.shown)
