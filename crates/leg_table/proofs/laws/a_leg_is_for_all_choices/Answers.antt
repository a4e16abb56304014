use Rattle.leg_table.proofs.LegLemmas.{leg_meaning, leg_each}
use Rattle.net_model.proofs.PublicLaws.{keeps_from_network}
use Rattle.leg_table.proofs.FlatNets.{flat_facts}
use Rattle.leg_table.proofs.laws.a_leg_is_for_all_choices.Goals as goal

pub returns-clause-first : goal.returns-clause-first
returns-clause-first c = λ net intent position via next leg keeps is_intent. leg_meaning net keeps intent is_intent position via next leg

pub returns-clause-each : goal.returns-clause-each
returns-clause-each c = λ net intent position via next address leg network flat is_intent is.
    leg_each net (keeps_from_network net network) intent is_intent (flat_facts net network flat) position via next address leg is
