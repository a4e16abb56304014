use Rattle.std.proofs.Common.{Option, sym, ap, ◌∙◌}
use Rattle.srv6_rules.specs.declared.sid.SidEntry.{SidEntry}
use Rattle.net_model.proofs.PublicLaws.{keeps_from_network}
use Rattle.leg_table.specs.StrictLegsTerms.{shifts_by}
use Rattle.leg_table.proofs.StrictAlike.{address_alike}
use Rattle.leg_table.proofs.FlatNets.{flat_facts}
use Rattle.binding_legs_theory.proofs.Finishes.{finish_exactly}
use Rattle.binding_legs_theory.proofs.sentence_laws.a_finish_through_binding_sids_is_for_all_choices.Goals as goal

pub returns : goal.returns
returns c net intent position via next address lowered network flat is_intent is =
    finish_exactly net (keeps_from_network net network) intent is_intent address position via next
    (λ s there. address_alike net (flat_facts net network flat) next s there address is.is_address)
    (λ s there. ap (λ (o : Option SidEntry). shifts_by o address) (sym there) ∙ is.alone) lowered
