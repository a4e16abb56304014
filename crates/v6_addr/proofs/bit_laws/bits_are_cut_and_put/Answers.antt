use Rattle.v6_addr.proofs.Fields.{put_same, put_above, put_below, put_bound}
use Rattle.v6_addr.proofs.BitLaws.{put_cut}
use Rattle.v6_addr.proofs.bit_laws.bits_are_cut_and_put.Goals as goal

pub returns : goal.returns
returns c = record { same = put_same; above = put_above; below = put_below; bound = put_bound; own = put_cut }
