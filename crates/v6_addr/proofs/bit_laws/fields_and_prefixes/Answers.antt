use Rattle.v6_addr.proofs.BitLaws.{with_field_of_same, Holds_longer}
use Rattle.v6_addr.proofs.bit_laws.fields_and_prefixes.Goals as goal

pub returns : goal.returns
returns c = record { own = with_field_of_same; longer = Holds_longer }
