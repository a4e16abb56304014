use Rattle.loose_meaning_theory.proofs.LooseKindChoosing.{some_longest_law}
use Rattle.loose_meaning_theory.proofs.kind_laws.each_packet_has_a_longest_way.Goals as goal

pub returns : goal.returns
returns c = some_longest_law
