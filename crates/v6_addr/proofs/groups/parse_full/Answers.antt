use Rattle.std.proofs.Common.{◌∙◌, ap}
use Rattle.v6_addr.specs.Text.{number_of_groups}
use Rattle.v6_addr.proofs.GroupSums.{full_refused, full_other, full_reads}
use Rattle.v6_addr.proofs.groups.parse_full.Goals as goal

pub returns-in_err-groups : goal.returns-in_err-groups
returns-in_err-groups c = c.from_residual.ensures ∙ full_refused _ c.in_err-groups.ensures

pub returns-then-len-ne8 : goal.returns-then-len-ne8
returns-then-len-ne8 c = full_other _ _ c.len.result c.in_ok-groups.ensures c.len.ensures.value c.if-len-ne8.true

pub returns : goal.returns
returns c = full_reads _ _ c.len.result _ c.in_ok-groups.ensures c.len.ensures.value c.if-len-ne8.false (c.number.ensures.value
    ∙ ap number_of_groups c.as_slice.ensures.value)
