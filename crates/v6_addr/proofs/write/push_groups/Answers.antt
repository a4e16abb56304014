use Rattle.v6_addr.proofs.AddressWriting.{pushed_groups, pushed_nothing}
use Rattle.v6_addr.proofs.write.push_groups.Goals as goal

pub returns-in-Some-clause-bytes : goal.returns-in-Some-clause-bytes
returns-in-Some-clause-bytes c = pushed_groups _ _ _ _ _ _ c.in-Some.ensures.cases.0 c.push_group.ensures.bytes
    c.push_more_groups.ensures.bytes

pub returns-in_default-clause-bytes : goal.returns-in_default-clause-bytes
returns-in_default-clause-bytes c = pushed_nothing _ _ c.in_default.ensures.cases
