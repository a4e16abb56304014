use Rattle.net_model.proofs.PublicLaws.{keeps_from_network}
use Rattle.leg_table.proofs.StrictAlike.{address_alike}
use Rattle.leg_table.proofs.FlatNets.{flat_facts}
use Rattle.binding_legs_theory.proofs.Sentences.{leg_exactly}
use Rattle.binding_legs_theory.proofs.BindingSentenceWitnesses.{some_further}
use Rattle.binding_legs_theory.proofs.sentence_laws.a_leg_through_binding_sids_is_for_all_choices.Goals as goal

pub returns : goal.returns
returns c net intent position via next address leg network flat is_intent is =
    leg_exactly net (keeps_from_network net network) intent is_intent address position via next
    (λ s there. address_alike net (flat_facts net network flat) next s there address is)
    (λ s there goes limit. some_further net s goes address limit) leg
