use Rattle.prefix_table.proofs.TableEditLemmas.{value_pushed, value_with, is_table_with}
use Rattle.prefix_table.proofs.SwapLemmas.{value_swapped, is_table_swapped}
use Rattle.prefix_table.proofs.laws.edits_change_one_prefix.Goals as goal

pub returns-clause-more : goal.returns-clause-more
returns-clause-more g c = value_pushed

pub returns-clause-less : goal.returns-clause-less
returns-clause-less g c = value_swapped

pub returns-clause-other : goal.returns-clause-other
returns-clause-other g c = value_with

pub returns-clause-less_is_table : goal.returns-clause-less_is_table
returns-clause-less_is_table g c = is_table_swapped

pub returns-clause-other_is_table : goal.returns-clause-other_is_table
returns-clause-other_is_table g c = is_table_with
