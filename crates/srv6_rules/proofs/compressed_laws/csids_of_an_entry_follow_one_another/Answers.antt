use Rattle.srv6_rules.proofs.SteppedEntries.{entry_next, entry_last, entry_first, entry_ended}
use Rattle.srv6_rules.proofs.compressed_laws.csids_of_an_entry_follow_one_another.Goals as goal

pub returns : goal.returns
returns c = record { next = entry_next; entry = entry_last; first = entry_first; ended = entry_ended }
