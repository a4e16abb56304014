use Rattle.std.proofs.Common.{◌≡◌, ◌≤◌, drop, map}
use Rattle.std.specs.Option.{option_map}
use Rattle.list_pack.specs.SidLists.{list_sid, sid_block}
use Rattle.list_pack.specs.OpenContainers.{keeps_test, open_test}
use Rattle.list_pack.proofs.search_rules.keeps.Given as goal

-- the SIDs that are left say all
abbrev pub invariant-loop-sid : goal.invariant-loop-sid
invariant-loop-sid l = record {
  told : keeps_test (option_map sid_block l.asked) (list_sid l.net l.first) (map (list_sid l.net) l.more)
      ≡ open_test (option_map sid_block l.asked) l.used (list_sid l.net l.last) (map (list_sid l.net) (drop l.sid-index l.more));
  few : l.used ≤ 128;
}
