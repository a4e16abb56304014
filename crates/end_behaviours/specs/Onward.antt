-- Need not be believed: helps proofs and other laws.
-- How long a packet would be after the step of a SID that goes on.
use Rattle.std.specs.Prelude.{◌≡◌, ◌≢◌, ℕ, ◌+◌, ◌-◌, ◌≤◌, Bool, ◌&&◌, if◌then◌else◌, length, Option, Some, None}
use Rattle.srv6_rules.specs.declared.sid.SidEntry.{SidEntry}
use Rattle.srv6_rules.specs.Packet.{Packet, header_len}
use Rattle.srv6_rules.specs.Chain.{Header}
use Rattle.srv6_rules.specs.Endpoint.{Endpoint, Onward, outcome_without}

-- a packet of so many bytes goes on, and they reach to a place
pub record GoesOn (first : ℕ) (e : Endpoint) (len : ℕ) : Type 0 where
  pub packet : Packet
  pub is : e ≡ Onward packet
  pub long : len ≡ header_len + length packet.payload
  pub reaches : first ≤ len

-- how many bytes the packet has that goes on; none where none does
abbrev pub IsLengthFrom : ℕ → Endpoint → Option ℕ → Type 0
IsLengthFrom first e (Some len) = GoesOn first e len
IsLengthFrom first e None = (q : Packet) → e ≢ Onward q

abbrev pub IsOnwardLength : Endpoint → Option ℕ → Type 0
IsOnwardLength e len = IsLengthFrom 0 e len

-- so many bytes less
abbrev pub less_by : ℕ → Option ℕ → Option ℕ
less_by n None = None
less_by n (Some len) = Some (len - n)

-- a step over a header leaves a packet of the same length and no segment or some, and PSP takes the header out where none is left; none
-- where the step is not taken
abbrev pub IsEnd : SidEntry → Packet → Header → Endpoint → Option Bool → Type 0
IsEnd s p h e (Some ended) =
    (q : Packet) × ((length q.payload ≡ length p.payload)
    × (e ≡ (if s.psp && ended then outcome_without h (Onward q) else Onward q)))
IsEnd s p h e None = (q : Packet) → e ≢ Onward q
