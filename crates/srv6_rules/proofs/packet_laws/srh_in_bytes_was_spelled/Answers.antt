use Rattle.srv6_rules.proofs.Headers.{srh_of_spellable, srh_spelling_srh_of}
use Rattle.srv6_rules.proofs.packet_laws.srh_in_bytes_was_spelled.Goals as goal

pub returns-clause-spellable : goal.returns-clause-spellable
returns-clause-spellable c = srh_of_spellable

pub returns-clause-front : goal.returns-clause-front
returns-clause-front c = srh_spelling_srh_of
