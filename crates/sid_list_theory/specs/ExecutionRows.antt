-- Need not be believed: helps proofs and other laws.
-- SIDs executed one after the other on a packet, with sends between (RFC 8986 section 4, RFC 9800 section 4).
use Rattle.std.specs.Prelude.{◌≡◌, ℕ, zero, suc, ◌≤◌, List, [], ◌∷◌, Option, Some, None}
use Rattle.std.specs.Option.{option_and_then}
use Rattle.srv6_rules.specs.declared.sid.SidEntry.{SidEntry}
use Rattle.srv6_rules.specs.Packet.{Packet}
use Rattle.srv6_rules.specs.Endpoint.{Onward, at_sid}
use Rattle.sid_list_spec.specs.SegmentLists.{ListSid}
use Rattle.sid_list_theory.specs.ListPlaces.{ListPlace, destination_of, next_of, StandsOn}

-- a SID that is executed, and the upper layers that its node takes
pub record Execution : Type 0 where
  pub sid : SidEntry
  pub allow : List ℕ

-- a packet that was sent on, any number of times: its hop limit alone is lower
pub record IsSent (p q : Packet) : Type 0 where
  pub hop_limit : q.hop_limit ≤ p.hop_limit
  pub others : q ≡ record p { hop_limit = q.hop_limit }

-- executions lead from a packet to another: each goes on from the packet that the one before it left, once that was sent
abbrev pub Executes : Packet → List Execution → Packet → Type 0
Executes p [] q = IsSent p q
Executes p (x ∷ xs) q =
    (before : Packet) × (after : Packet) × IsSent p before × (at_sid x.sid x.allow before ≡ Onward after) × Executes after xs q

-- the SIDs that are executed stand on the prefixes of these SIDs, one on each in their order
abbrev pub StandInOrder : List Execution → List ListSid → Type 0
StandInOrder [] ss = Unit {0}
StandInOrder (x ∷ xs) [] = Unit {0}
StandInOrder (x ∷ xs) (s ∷ ss) = StandsOn x.sid s × StandInOrder xs ss

-- the place so many SIDs after a place
abbrev pub after_next : ℕ → ListPlace → Option ListPlace
after_next zero x = Some x
after_next (suc n) x = option_and_then (after_next n) (next_of x)

-- the destinations at a place and at those that follow it, of at most so many
abbrev pub destinations_from : ℕ → Option ListPlace → List ℕ
destinations_from zero x = []
destinations_from (suc n) None = []
destinations_from (suc n) (Some x) = destination_of x ∷ destinations_from n (next_of x)
