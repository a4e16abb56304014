use Rattle.update_walks_theory.proofs.BetweenWalks.{places_same}
use Rattle.update_walks_theory.proofs.laws.walks_look_alike.Goals as goal

pub returns : goal.returns
returns c = λ a b fuel p q content pick taken looks same. places_same a b looks fuel p q content pick taken same
