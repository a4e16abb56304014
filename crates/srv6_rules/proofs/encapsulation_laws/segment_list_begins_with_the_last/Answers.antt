use Rattle.srv6_rules.proofs.Encapsulations.{list_at}
use Rattle.srv6_rules.proofs.EncapsulationForms.{list_full, list_one, list_reduced}
use Rattle.srv6_rules.proofs.encapsulation_laws.segment_list_begins_with_the_last.Goals as goal

pub returns-clause-entry : goal.returns-clause-entry
returns-clause-entry c = list_at

pub returns-clause-full : goal.returns-clause-full
returns-clause-full c = list_full

pub returns-clause-reduced : goal.returns-clause-reduced
returns-clause-reduced c = list_reduced

pub returns-clause-one : goal.returns-clause-one
returns-clause-one c = list_one
