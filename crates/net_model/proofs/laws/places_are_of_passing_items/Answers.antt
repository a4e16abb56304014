use Rattle.net_model.proofs.NamedLemmas.{position_item, position_None}
use Rattle.net_model.proofs.laws.places_are_of_passing_items.Goals as goal

pub returns : goal.returns
returns g c = record { some = position_item; none = position_None }
