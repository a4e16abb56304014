-- Need not be believed: helps proofs and other laws.
-- The same as a sentence: which stages there are up to the packet's own hand_over, what their trace is, and how many have a
-- header in front.
use Rattle.std.specs.Prelude.{◌≡◌, ℕ, ◌<◌, List, [], ◌∷◌, ◌++◌, length}
use Rattle.srv6_rules.specs.declared.family.Family.{Family}
use Rattle.srv6_rules.specs.Packet.{Packet}
use Rattle.net_model.specs.Network.{Network}
use Rattle.walk_rules.specs.declared.place.How.{How}
use Rattle.walk_rules.specs.declared.place.Outcome.{Outcome}
use Rattle.walk_rules.specs.declared.place.Outcome.TheVariants as outcomes
use Rattle.leg_table.specs.WalkTrace.{TraceEvent, events_of, Handed}
use Rattle.binding_spec.specs.TunnelWalks.{TunnelStage}

-- the trace of stages: links and functions, with or without headers in front
abbrev pub tunnel_trace : Network → List TunnelStage → List TraceEvent
tunnel_trace net [] = []
tunnel_trace net (s ∷ ss) = events_of net s.gave.outcome ++ tunnel_trace net ss

-- the SID that a packet without a header in front executes in a stage, if it executes one
abbrev pub own_sid : List Packet → Outcome → List ℕ
own_sid (q ∷ under) o = []
own_sid [] (outcomes.Again n how) = n ∷ []
own_sid [] (outcomes.Hand n how family) = n ∷ []
own_sid [] (outcomes.Send link) = []
own_sid [] outcomes.Local = []
own_sid [] (outcomes.Drop reason error) = []

abbrev pub own_sids : List TunnelStage → List ℕ
own_sids [] = []
own_sids (s ∷ ss) = own_sid s.under s.gave.outcome ++ own_sids ss

-- a stage neither takes anything away nor hands over a packet without a header in front
abbrev pub IsOnTheWay : List Packet → Outcome → Type 0
IsOnTheWay under (outcomes.Send link) = Unit {0}
IsOnTheWay under (outcomes.Again n how) = Unit {0}
IsOnTheWay [] (outcomes.Hand n how family) = ⊥
IsOnTheWay (q ∷ under) (outcomes.Hand n how family) = Unit {0}
IsOnTheWay under outcomes.Local = ⊥
IsOnTheWay under (outcomes.Drop reason error) = ⊥

abbrev pub AreOnTheWay : List TunnelStage → Type 0
AreOnTheWay [] = Unit {0}
AreOnTheWay (s ∷ ss) = IsOnTheWay s.under s.gave.outcome × AreOnTheWay ss

-- in each of these stages there is a header in front
abbrev pub HaveHeaders : List TunnelStage → Type 0
HaveHeaders [] = Unit {0}
HaveHeaders (s ∷ ss) = (0 < length s.under) × HaveHeaders ss

-- what stages hand over of a packet: the first of them without a header in front that hands over hands it over, and nothing was taken away
-- before. The trace and the packet's own SIDs are those up to there, and at most 999 stages in a row have a header in front: with the
-- binding SID that put the first one there, 1,000
pub record IsOwnHand (net : Network) (stages : List TunnelStage) (handed : Handed) : Type 0 where
  pub before : List TunnelStage
  pub own : TunnelStage
  pub rest : List TunnelStage
  pub split : stages ≡ before ++ own ∷ rest
  pub on_the_way : AreOnTheWay before
  pub bare : own.under ≡ []
  pub sid : ℕ
  pub how : How
  pub family : Family
  pub hands : own.gave.outcome ≡ outcomes.Hand sid how family
  pub trace : handed.trace ≡ tunnel_trace net (before ++ own ∷ [])
  pub sids : handed.sids ≡ own_sids (before ++ own ∷ [])
  pub content : handed.content ≡ own.gave.after
  pub short : (front mid back : List TunnelStage) → before ++ own ∷ [] ≡ front ++ (mid ++ back) → HaveHeaders mid → length mid < 1000
