use Rattle.sid_list_theory.proofs.Examples.{next_legal, next_flat, next_values_law, next_destinations_law, replace_legal, replace_flat, replace_values_law, replace_destinations_law}
use Rattle.sid_list_theory.proofs.laws.lists_by_hand_are_legal.Goals as goal

pub returns : goal.returns
returns c = record {
  next = (next_legal, next_flat);
  next_values = next_values_law;
  next_path = next_destinations_law;
  replace = (replace_legal, replace_flat);
  replace_values = replace_values_law;
  replace_path = replace_destinations_law;
}
