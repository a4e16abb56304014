use Rattle.v6_addr.proofs.Fields.{field_of_same, field_of_before, field_of_behind, with_field_of_bound, Holds_with_field}
use Rattle.v6_addr.proofs.laws.fields_apart.Goals as goal

pub returns : goal.returns
returns c = record {
  same = field_of_same;
  before = field_of_before;
  behind = field_of_behind;
  bound = with_field_of_bound;
  held =
      Holds_with_field;
}
