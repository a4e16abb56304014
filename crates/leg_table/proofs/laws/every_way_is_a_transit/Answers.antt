use Rattle.leg_table.proofs.StrictTransits.{every_transit}
use Rattle.leg_table.proofs.laws.every_way_is_a_transit.Goals as goal

pub returns : goal.returns
returns c = λ net end steps place p keeps is_place stands positive. every_transit net end keeps steps place p is_place.1 stands positive
