use Rattle.std.proofs.Common.{◌≡◌, ◌≤◌, length, take}
use Rattle.std.specs.List.{filter_map}
use Rattle.net_reader.specs.Joining.{title_in, joined_sids}
use Rattle.net_reader.proofs.joined_sids.join_sids.Given as goal

abbrev pub invariant-loop-sid : goal.invariant-loop-sid
invariant-loop-sid l = record {
  titles : l.titles.items ≡ filter_map title_in (take l.sid-index l.sids);
  entries : l.entries.items
      ≡ joined_sids l.names.nodes l.names.links l.names.policies l.blocks 0 (take l.sid-index l.sids);
  few : length l.titles.items ≤ l.sid-index;
}
