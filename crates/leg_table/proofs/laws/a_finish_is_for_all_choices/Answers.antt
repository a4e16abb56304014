use Rattle.leg_table.proofs.LegLemmas.{finish_meaning, finish_each}
use Rattle.net_model.proofs.PublicLaws.{keeps_from_network}
use Rattle.leg_table.proofs.FlatNets.{flat_facts}
use Rattle.leg_table.proofs.laws.a_finish_is_for_all_choices.Goals as goal

pub returns-clause-first : goal.returns-clause-first
returns-clause-first c = λ net intent position via next lowered keeps is_intent.
    finish_meaning net keeps intent is_intent position via next lowered

pub returns-clause-each : goal.returns-clause-each
returns-clause-each c = λ net intent position via next address lowered network flat is_intent is.
    finish_each net (keeps_from_network net network) intent is_intent (flat_facts net network flat) position via next address lowered is
