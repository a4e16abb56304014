use Rattle.std.proofs.Common.{refl}
use Rattle.pcap_io.specs.Numbers.{number_of}
use Rattle.pcapng_io.specs.Blocks.{type_of, order_of}
use Rattle.pcapng_io.proofs.laws.blocks_have_their_figures.Goals as goal

pub returns-clause-section : goal.returns-clause-section
unfolding type_of
returns-clause-section c = refl

pub returns-clause-interface : goal.returns-clause-interface
unfolding type_of
returns-clause-interface c = refl

pub returns-clause-old_packet : goal.returns-clause-old_packet
unfolding type_of
returns-clause-old_packet c = refl

pub returns-clause-simple_packet : goal.returns-clause-simple_packet
unfolding type_of
returns-clause-simple_packet c = refl

pub returns-clause-enhanced_packet : goal.returns-clause-enhanced_packet
unfolding type_of
returns-clause-enhanced_packet c = refl

pub returns-clause-least : goal.returns-clause-least
returns-clause-least c = (refl, refl, refl, refl, refl, refl)

pub returns-clause-high_first : goal.returns-clause-high_first
unfolding order_of number_of
returns-clause-high_first x = λ a b c d e f g h rest. refl

pub returns-clause-low_first : goal.returns-clause-low_first
unfolding order_of number_of
returns-clause-low_first x = λ a b c d e f g h rest. refl

pub returns-clause-numbers : goal.returns-clause-numbers
returns-clause-numbers c = (refl, refl, refl, refl, refl, refl)
