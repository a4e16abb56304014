use Rattle.intent_reader.specs.IntentJudging.{link_at}
use Rattle.intent_reader.proofs.IntentListReading.{HasRead}
use Rattle.intent_reader.proofs.names.links_at.Given as goal

abbrev pub invariant-loop-name : goal.invariant-loop-name
invariant-loop-name l = HasRead (link_at l.net l.step) l.names l.name-index l.links.items
