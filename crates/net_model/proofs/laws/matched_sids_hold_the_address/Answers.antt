use Rattle.net_model.proofs.IsBestLemmas.{matched_sid_holds}
use Rattle.net_model.proofs.laws.matched_sids_hold_the_address.Goals as goal

pub returns : goal.returns
returns c = matched_sid_holds
