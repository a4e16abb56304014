use Rattle.net_flatness.proofs.FlatLaws.{holds_or_misses, its_block}
use Rattle.net_flatness.proofs.laws.blocks_hold_or_miss.Goals as goal

pub returns : goal.returns
returns c = record { sids = holds_or_misses; one = its_block }
