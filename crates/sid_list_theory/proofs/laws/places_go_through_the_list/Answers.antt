use Rattle.sid_list_theory.proofs.Alongs.{sids_first, sids_next, sids_last}
use Rattle.sid_list_theory.proofs.laws.places_go_through_the_list.Goals as goal

pub returns : goal.returns
returns c = record { first = sids_first; next = sids_next; last = sids_last }
