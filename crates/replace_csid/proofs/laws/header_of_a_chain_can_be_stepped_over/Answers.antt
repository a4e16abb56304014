use Rattle.replace_csid.proofs.ReplacePlaceLemmas.{place_behind, place_whole, place_value}
use Rattle.replace_csid.proofs.laws.header_of_a_chain_can_be_stepped_over.Goals as goal

pub returns : goal.returns
returns c = record { behind = place_behind; whole = place_whole; value = place_value }
