use Rattle.std.proofs.Common.{◌≡◌, drop}
use Rattle.std.specs.List.{list_any}
use Rattle.net_model.specs.NetworkRules.{same_prefix}
use Rattle.list_pack.specs.SidListsTerms.{is_named}
use Rattle.list_pack.proofs.search_rules.is_named.Given as goal

abbrev pub invariant-loop-n : goal.invariant-loop-n
invariant-loop-n l = is_named l.net l.prefix ≡ list_any (λ s. same_prefix s.prefix l.prefix) (drop l.n l.net.sids)
