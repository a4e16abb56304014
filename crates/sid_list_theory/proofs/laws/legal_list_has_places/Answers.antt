use Rattle.sid_list_theory.proofs.SidListStarts.{first_some, first_place}
use Rattle.sid_list_theory.proofs.Follows.{next_place_law}
use Rattle.sid_list_theory.proofs.laws.legal_list_has_places.Goals as goal

pub returns : goal.returns
returns c = record { some = first_some; first = first_place; next = next_place_law }
