use Rattle.std.proofs.Common.{◌-◌, ℕ, length, refl, ap}
use Rattle.net_model.proofs.PublicLaws.{keeps_from_network}
use Rattle.leg_table.specs.StrictLegs.{leg_with, place_from}
use Rattle.leg_table.proofs.FlatNets.{flat_facts}
use Rattle.leg_table.proofs.NextTransits.{middle_sid}
use Rattle.intent_traces.proofs.TraceParts.{if_some}
use Rattle.loose_spec.specs.LooseSids.{is_origin}
use Rattle.loose_legs_theory.proofs.LooseSentenceMeaning.{leg_exactly, leg_one}
use Rattle.loose_legs_theory.proofs.Sames.{address_alike}
use Rattle.loose_legs_theory.proofs.sentence_laws.a_loose_leg_is_for_all_choices.Goals as goal
use Rattle.loose_legs_theory.proofs.LooseSentenceWays.{leg_from, leg_way}

pub returns-clause-first : goal.returns-clause-first
returns-clause-first c = λ net intent steps position via next leg keeps are.
    leg_exactly net keeps intent steps are position via next _ (λ place v6. refl) leg

pub returns-clause-each : goal.returns-clause-each
returns-clause-each c = λ net intent steps position via next address leg network flat are is. (
  λ h. (
      let keeps = keeps_from_network net network in
      let middle = (leg_way net keeps intent steps are position via next leg h).0 in
      let s = middle_sid net next middle in
      (leg_exactly net keeps intent steps are position via next address
      (address_alike net (flat_facts net network flat) next s.0 s.1 address is) leg).0 h
      ),
  λ h. (
      let keeps = keeps_from_network net network in
      let s = middle_sid net next h.middle in
      (leg_exactly net keeps intent steps are position via next address
      (address_alike net (flat_facts net network flat) next s.0 s.1 address is) leg).1 h
      ),
)

pub returns-clause-one : goal.returns-clause-one
returns-clause-one c = λ net intent steps position via next address left place p network flat are is start middle to on positive all.
    (
    let keeps = keeps_from_network net network in
    let s = middle_sid net next middle in
    let from = if_some (is_origin net intent steps position via) (place_from net intent via) place start in
    let x =
    leg_one net keeps intent steps are position via next address (address_alike net (flat_facts net network flat) next s.0 s.1 address is)
    place left p from.0 middle from.1 to on positive all in (
      leg_with (length steps) x.0.found.most x.0.left,
      leg_from net keeps intent steps are position via next x.0 middle,
      ap (λ (k : ℕ). length steps - k) x.2,
      x.3,
    )
    )
