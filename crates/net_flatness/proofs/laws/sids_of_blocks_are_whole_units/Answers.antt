use Rattle.net_flatness.proofs.FlatLaws.{sid_units, sid_replace_len, sid_some_csid, sid_plain}
use Rattle.net_flatness.proofs.laws.sids_of_blocks_are_whole_units.Goals as goal

pub returns : goal.returns
returns c = record { units = sid_units; replace = sid_replace_len; some = sid_some_csid; plain = sid_plain }
