use Rattle.srh_codec.proofs.SrhWriteLemmas.{header_bytes_law, header_spellable, header_entries, header_entry, header_tlvs, header_encapsulation}
use Rattle.srh_codec.proofs.laws.written_header_is_of_its_entries.Goals as goal

pub returns-clause-bytes : goal.returns-clause-bytes
returns-clause-bytes c = header_bytes_law

pub returns-clause-spellable : goal.returns-clause-spellable
returns-clause-spellable c = header_spellable

pub returns-clause-entries : goal.returns-clause-entries
returns-clause-entries c = header_entries

pub returns-clause-entry : goal.returns-clause-entry
returns-clause-entry c = header_entry

pub returns-clause-tlvs : goal.returns-clause-tlvs
returns-clause-tlvs c = header_tlvs

pub returns-clause-encapsulation : goal.returns-clause-encapsulation
returns-clause-encapsulation c = header_encapsulation
