-- What the lines of a certificate say of states, and what a certificate is to its check.
use Rattle.std.specs.Prelude.{ℕ, Bool, true, false, ◌==◌, ◌&&◌, if◌then◌else◌, List, [], ◌∷◌, Option, Some, None}
use Rattle.list_pack.specs.declared.types.Cost.{Cost}
use Rattle.list_pack.specs.declared.types.State.{State}
use Rattle.list_certificate.specs.declared.certificate_types.PotentialLine.{PotentialLine}

-- two states are the same
abbrev pub same_via : Option ℕ → Option ℕ → Bool
same_via None None = true
same_via None (Some n) = false
same_via (Some n) None = false
same_via (Some n) (Some m) = n == m

abbrev pub same_state : State → State → Bool
same_state s t = (s.position == t.position) && (same_via s.via t.via && (s.room == t.room))

-- the potential of a state by the first line that lists it, none where it is not listed
abbrev pub potential_at : List PotentialLine → State → Option Cost
potential_at [] s = None
potential_at (l ∷ ls) s = if same_state l.potential.state s then Some l.potential.cost else potential_at ls s
