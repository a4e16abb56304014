use Rattle.std.proofs.Common.{◌≡◌, drop}
use Rattle.std.specs.List.{list_all}
use Rattle.list_pack.specs.SidLists.{prefixes_in}
use Rattle.list_pack.specs.SidListsTerms.{is_named}
use Rattle.list_pack.proofs.search_rules.all_named.Given as goal

abbrev pub invariant-loop-container : goal.invariant-loop-container
invariant-loop-container l =
    list_all (is_named l.net) (prefixes_in l.list) ≡ list_all (is_named l.net) (prefixes_in (drop l.container-index l.list))
