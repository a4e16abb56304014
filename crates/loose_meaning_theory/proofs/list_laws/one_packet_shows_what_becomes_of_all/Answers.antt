use Rattle.loose_meaning_theory.proofs.LooseListMeaning.{loose_shows}
use Rattle.loose_meaning_theory.proofs.list_laws.one_packet_shows_what_becomes_of_all.Goals as goal

pub returns : goal.returns
returns c = loose_shows
