use Rattle.net_reader.proofs.ReaderRangeLemmas.{parts_in_range}
use Rattle.net_reader.proofs.laws.described_parts_are_in_range.Goals as goal

pub returns : goal.returns
returns c = parts_in_range
