use Rattle.std.proofs.Common.{◌≡◌, ◌<◌, drop, None}
use Rattle.std.specs.Prelude.{IfSome}
use Rattle.std.specs.Option.{option_map}
use Rattle.list_pack.specs.SidLists.{list_sid, sid_block}
use Rattle.list_pack.specs.OpenContainers.{follow_test}
use Rattle.list_pack.proofs.search_rules.follow.Given as goal

-- the containers that are left say all
abbrev pub invariant-loop-container : goal.invariant-loop-container
invariant-loop-container l = record {
  told : follow_test (list_sid l.net) None l.list
      ≡ follow_test (list_sid l.net) (option_map sid_block l.asked) (drop l.container-index l.list);
  sized : IfSome l.asked (λ b. 0 < b.csid);
}
