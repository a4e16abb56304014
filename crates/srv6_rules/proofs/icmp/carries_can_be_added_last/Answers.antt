use Rattle.srv6_rules.proofs.ErrorLaws.{upper_layer_sum_carried}
use Rattle.srv6_rules.proofs.Checksums.{ones_sum_carried, word_sum_append, carried_again, carried_small}
use Rattle.srv6_rules.proofs.icmp.carries_can_be_added_last.Goals as goal

pub returns-clause-sum : goal.returns-clause-sum
returns-clause-sum c = ones_sum_carried

pub returns-clause-parts : goal.returns-clause-parts
returns-clause-parts c = word_sum_append

pub returns-clause-again : goal.returns-clause-again
returns-clause-again c = carried_again

pub returns-clause-small : goal.returns-clause-small
returns-clause-small c = carried_small

pub returns-clause-upper_layer : goal.returns-clause-upper_layer
returns-clause-upper_layer c = upper_layer_sum_carried
