use Rattle.std.proofs.Common.{Option, refl, sym, ap, ◌∙◌}
use Rattle.srv6_rules.specs.declared.sid.SidEntry.{SidEntry}
use Rattle.net_model.proofs.PublicLaws.{keeps_from_network}
use Rattle.leg_table.specs.StrictLegs.{place_from}
use Rattle.leg_table.specs.StrictLegsTerms.{shifts_by}
use Rattle.leg_table.proofs.FlatNets.{flat_facts}
use Rattle.leg_table.proofs.NextTransits.{last_sid}
use Rattle.intent_traces.proofs.TraceParts.{if_some}
use Rattle.loose_spec.specs.LooseSids.{is_origin}
use Rattle.loose_legs_theory.proofs.LooseSentenceMeaning.{first_alone, finish_exactly, finish_one}
use Rattle.loose_legs_theory.proofs.Sames.{address_alike}
use Rattle.loose_legs_theory.proofs.sentence_laws.a_loose_finish_is_for_all_choices.Goals as goal
use Rattle.loose_legs_theory.proofs.LooseSentenceWays.{finish_from, finish_way}

pub returns-clause-first : goal.returns-clause-first
returns-clause-first c = λ net intent steps position via next lowered keeps are.
    finish_exactly net keeps intent steps are position via next _ (λ place v6. refl) (first_alone net keeps next) lowered

pub returns-clause-each : goal.returns-clause-each
returns-clause-each c = λ net intent steps position via next address lowered network flat are is. (
  λ h. (
      let keeps = keeps_from_network net network in
      let last = (finish_way net keeps intent steps are position via next lowered h).0 in
      let s = last_sid net intent.inner next last in
      (finish_exactly net keeps intent steps are position via next address
      (address_alike net (flat_facts net network flat) next s.0 s.1 address is.is_address)
      (λ s there. ap (λ (o : Option SidEntry). shifts_by o address) (sym there) ∙ is.alone) lowered).0 h
      ),
  λ h. (
      let keeps = keeps_from_network net network in
      let s = last_sid net intent.inner next h.last in
      (finish_exactly net keeps intent steps are position via next address
      (address_alike net (flat_facts net network flat) next s.0 s.1 address is.is_address)
      (λ s there. ap (λ (o : Option SidEntry). shifts_by o address) (sym there) ∙ is.alone) lowered).1 h
      ),
)

pub returns-clause-one : goal.returns-clause-one
returns-clause-one c = λ net intent steps position via next address place p network flat are is start last to on positive all.
    (
    let keeps = keeps_from_network net network in
    let s = last_sid net intent.inner next last in
    let from = if_some (is_origin net intent steps position via) (place_from net intent via) place start in
    let x =
    finish_one net keeps intent steps are position via next address
    (address_alike net (flat_facts net network flat) next s.0 s.1 address is) place 0 p from.0 last from.1 to on positive all in
    (x.0.found.most, finish_from net keeps intent steps are position via next x.0 last x.2, x.3)
    )
