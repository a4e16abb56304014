use Rattle.std.proofs.Common.{◌≡◌, ◌<◌, ◌++◌, drop, None}
use Rattle.std.specs.Prelude.{IfSome}
use Rattle.std.specs.Option.{option_map}
use Rattle.list_pack.specs.SidLists.{list_sid, sid_block}
use Rattle.list_pack.specs.PathLists.{list_from}
use Rattle.list_pack.proofs.lists.list_of.Given as goal

-- the containers so far and those of the steps that are left are those of the path
abbrev pub invariant-loop-i : goal.invariant-loop-i
invariant-loop-i l = record {
  told : l.containers.items ++ list_from (list_sid l.net) (option_map sid_block l.asked) (drop l.i l.path)
      ≡ list_from (list_sid l.net) None l.path;
  sized : IfSome l.asked (λ b. 0 < b.csid);
}
