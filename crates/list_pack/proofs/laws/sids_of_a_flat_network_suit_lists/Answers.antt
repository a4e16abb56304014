use Rattle.list_pack.proofs.FlatSids.{flat_lists}
use Rattle.list_pack.proofs.laws.sids_of_a_flat_network_suit_lists.Goals as goal

pub returns : goal.returns
returns c = flat_lists
