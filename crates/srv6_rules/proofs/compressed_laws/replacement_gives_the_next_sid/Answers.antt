use Rattle.srv6_rules.proofs.PackedEntries.{next_sid, index_back_law, index_holds, index_written}
use Rattle.srv6_rules.proofs.compressed_laws.replacement_gives_the_next_sid.Goals as goal

pub returns : goal.returns
returns c = record { next = next_sid; index = index_back_law; holds = index_holds; written = index_written }
