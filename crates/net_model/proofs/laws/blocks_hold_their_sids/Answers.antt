use Rattle.net_model.proofs.BlockLemmas.{block_of_is}
use Rattle.net_model.proofs.laws.blocks_hold_their_sids.Goals as goal

pub returns : goal.returns
returns c = block_of_is
