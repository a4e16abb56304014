use Rattle.intent_reader.proofs.names.first_function.Goals as goal

pub has_title-requires : goal.has_title-requires
has_title-requires c = (c.keeps_rules.ensures.facts.sid c.loop-n.n c.sid.result.now c.sid.ensures).title
