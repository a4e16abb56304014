use Rattle.srv6_rules.proofs.AreaItems.{area_fault_empty, area_fault_item}
use Rattle.srv6_rules.proofs.area_laws.area_is_judged_item_by_item.Goals as goal

pub returns-clause-empty : goal.returns-clause-empty
returns-clause-empty c = area_fault_empty

pub returns-clause-item : goal.returns-clause-item
returns-clause-item c = area_fault_item
