use Rattle.std.proofs.Common.{◌≡◌, ◌≤◌, take, count_by}
use Rattle.srv6_rules.specs.declared.sid.SidEntry.{SidEntry}
use Rattle.net_model.specs.NetworkRules.{same_prefix}
use Rattle.list_certificate.proofs.spelling.is_shared.Given as goal

abbrev pub invariant-loop-n : goal.invariant-loop-n
invariant-loop-n l = (l.count ≡ count_by (λ (s : SidEntry). same_prefix s.prefix l.prefix) (take l.n l.net.sids)) × (l.count ≤ l.n)
