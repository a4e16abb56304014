use Rattle.binding_legs_theory.proofs.OriginPlaces.{origin_is}
use Rattle.binding_legs_theory.proofs.origin_laws.an_origin_is_where_the_walk_stands.Goals as goal

pub returns : goal.returns
returns c net intent position via origin keeps is_intent h = (origin_is net keeps intent is_intent position via origin h).origins
