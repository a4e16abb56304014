use Rattle.std.proofs.Common.{◌≡◌, ◌-◌, ◌∙◌, slice_set, ap, sym, subst}
use Rattle.srv6_rules.specs.Packet.{Packet, packet_at}
use Rattle.endpoint_chain.specs.Outcomes.{HoldsAlone}
use Rattle.pkt_buf.specs.BufferView.{Buffer}
use Rattle.node_stage.specs.FrontedTerms.{FrontedPacket}
use Rattle.node_stage.proofs.ReadingLemmas.{lowered_alone, lowered_packet}
use Rattle.node_stage.proofs.ip6_packet.Packet.lower_hop_limit.Goals as goal

written : (c : goal.After-set)
    → c.set.new.self.bytes ≡ slice_set c.self.inside.bytes.bytes 7 ((packet_at c.self.inside.bytes.bytes).hop_limit - 1)
written c =
    ap (λ (b : Buffer). b.bytes) c.set.ensures
    ∙ ap (λ n. slice_set c.self.inside.bytes.bytes 7 (n - 1))
    (c.hop_limit-hop_limit.ensures ∙ ap (λ (v : FrontedPacket). v.packet.hop_limit) (sym c.self.view_is))

pub invariant_of-self : goal.invariant_of-self
invariant_of-self c =
    subst (λ xs. HoldsAlone xs) (sym (written c)) (lowered_alone c.self.inside.bytes.bytes c.self.invariant)

pub returns-clause-packet : goal.returns-clause-packet
returns-clause-packet c =
    ap packet_at (written c) ∙ lowered_packet c.self.inside.bytes.bytes c.self.invariant
    ∙ ap (λ (v : FrontedPacket). let p : Packet = v.packet in record p { hop_limit = p.hop_limit - 1 }) c.self.view_is

pub returns-clause-front : goal.returns-clause-front
returns-clause-front c = ap (λ (b : Buffer). b.front) c.set.ensures ∙ ap (λ (v : FrontedPacket). v.front) c.self.view_is
