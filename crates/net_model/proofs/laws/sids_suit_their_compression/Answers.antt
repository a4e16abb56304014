use Rattle.net_model.proofs.CompressionLaws.{sid_suits, sid_unflavoured, sid_not_next}
use Rattle.net_model.proofs.laws.sids_suit_their_compression.Goals as goal

pub returns : goal.returns
returns c = record { suits = sid_suits; unflavoured = sid_unflavoured; not_next = sid_not_next }
