use Rattle.v6_addr.proofs.PrefixFacts.{Holds_own_value, Holds_at_128, Holds_outer, Holds_nested, Holds_alike, same_value}
use Rattle.v6_addr.proofs.laws.prefixes_nest.Goals as goal

pub returns : goal.returns
returns c = record {
  own = Holds_own_value;
  whole = Holds_at_128;
  outer = Holds_outer;
  nested = Holds_nested;
  alike = Holds_alike;
  same = same_value;
}
