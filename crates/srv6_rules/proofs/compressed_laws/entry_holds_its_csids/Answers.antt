use Rattle.srv6_rules.proofs.PackedEntries.{entry_csid, entry_past, entry_address}
use Rattle.srv6_rules.proofs.compressed_laws.entry_holds_its_csids.Goals as goal

pub returns : goal.returns
returns c = record { csid = entry_csid; past = entry_past; address = entry_address }
