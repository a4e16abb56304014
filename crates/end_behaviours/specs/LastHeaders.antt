-- Need not be believed: helps proofs and other laws.
-- The segment routing headers that a SID takes out of one packet, in the packet's order (RFC 8986 section 4.16.2).
use Rattle.std.specs.Prelude.{◌≡◌, ℕ, ◌+◌, ◌≤◌, List, [], ◌∷◌, length}
use Rattle.srv6_rules.specs.declared.sid.SidEntry.{SidEntry}
use Rattle.srv6_rules.specs.Packet.{Packet, header_len}
use Rattle.srv6_rules.specs.Chain.{ChainPlace, Header, routing}
use Rattle.srv6_rules.specs.Endpoint.{Endpoint, outcome_without}
use Rattle.endpoint_chain.specs.Outcomes.{ComesOf}
use Rattle.endpoint_chain.specs.declared.outcome.EndOutcome.{EndOutcome}
use Rattle.end_behaviours.specs.declared.end_headers.Decision.{Decision}
use Rattle.end_behaviours.specs.declared.last_headers.LastHeader.{LastHeader}
use Rattle.end_behaviours.specs.HeaderFinding.{IsDecided, LiesAt, header_of}
use Rattle.end_behaviours.specs.SrhStepping.{Reaches}

-- where it stands
abbrev pub last_place : LastHeader → ChainPlace
last_place last = record { at = last.at; kind = routing; named_at = last.named_at }

-- its bytes in a packet
abbrev pub last_header : Packet → LastHeader → Header
last_header p last = header_of p (last_place last) last.len

-- where the first of them stands, or a place where there is none
abbrev pub first_at : List LastHeader → ℕ → ℕ
first_at [] at = at
first_at (last ∷ lasts) at = last.at

-- one stands in a packet, and ends no later than a place
pub record EndsBefore (p : Packet) (last : LastHeader) (at : ℕ) : Type 0 where
  pub header : LiesAt p 0 (last_place last) last.len
  pub ends : last.at + last.len ≤ at

-- each is taken out of what comes of those after it, and the last of them out of what comes of the packet from a place on
abbrev pub TakenOut : Packet → List LastHeader → ℕ → Endpoint → Endpoint → Type 0
TakenOut p [] at behind e = e ≡ behind
TakenOut p (last ∷ lasts) at behind e =
    EndsBefore p last (first_at lasts at) × ((next : Endpoint) × (TakenOut p lasts at behind next
    × (e ≡ outcome_without (last_header p last) next)))

-- it is decided what comes of a packet after them
pub record DecidedBehind (s : SidEntry) (p : Packet) (lasts : List LastHeader) (e : Endpoint) (decision : Decision) : Type 0 where
  pub at : ℕ
  pub behind : Endpoint
  pub taken : TakenOut p lasts at behind e
  pub within : at ≤ header_len + length p.payload
  pub is : IsDecided s p at behind decision

-- what came of a packet after them is in bytes that reach to where it stands; they are those of the packet as it came, from first ones
-- on
pub record TakesFrom (lasts : List LastHeader) (bytes : List ℕ) (outcome : EndOutcome) (e : Endpoint) (first : List ℕ) : Type 0 where
  pub packet : Packet
  pub at : ℕ
  pub behind : Endpoint
  pub taken : TakenOut packet lasts at behind e
  pub comes : ComesOf behind first bytes outcome
  pub reaches : Reaches at bytes outcome

-- and they can be taken out
abbrev pub CanTakeOut : List LastHeader → List ℕ → EndOutcome → Type 0
CanTakeOut lasts bytes outcome = (e : Endpoint) × ((first : List ℕ) × TakesFrom lasts bytes outcome e first)
