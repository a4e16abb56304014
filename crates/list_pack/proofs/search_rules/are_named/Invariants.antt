use Rattle.std.proofs.Common.{◌≡◌, drop}
use Rattle.std.specs.List.{list_all}
use Rattle.list_pack.specs.SidListsTerms.{is_named}
use Rattle.list_pack.proofs.search_rules.are_named.Given as goal

abbrev pub invariant-loop-prefix : goal.invariant-loop-prefix
invariant-loop-prefix l = list_all (is_named l.net) l.prefixes ≡ list_all (is_named l.net) (drop l.prefix-index l.prefixes)
