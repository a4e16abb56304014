use Rattle.std.proofs.Common.{◌≡◌, ◌-◌, ◌∙◌, slice_set, ap, sym, subst}
use Rattle.srv6_rules.specs.Packet.{Packet, packet_at}
use Rattle.endpoint_chain.specs.Outcomes.{HoldsAlone}
use Rattle.pkt_buf.specs.BufferView.{Buffer}
use Rattle.node_stage.proofs.ReadingLemmas.{lowered_alone, lowered_packet}
use Rattle.policy_walks.proofs.top_header.Head.lower_hop_limit.Goals as goal

written : (c : goal.After-set)
    → c.set.new.self.bytes ≡ slice_set c.self.inside.bytes.bytes 7 ((packet_at c.self.inside.bytes.bytes).hop_limit - 1)
written c =
    ap (λ (b : Buffer). b.bytes) c.set.ensures
    ∙ ap (λ n. slice_set c.self.inside.bytes.bytes 7 (n - 1))
    (c.hop_limit-hop_limit.ensures ∙ ap (λ (p : Packet). p.hop_limit) (sym c.self.view_is))

pub invariant_of-self : goal.invariant_of-self
invariant_of-self c =
    subst (λ xs. HoldsAlone xs) (sym (written c)) (lowered_alone c.self.inside.bytes.bytes c.self.invariant)

pub returns : goal.returns
returns c =
    ap packet_at (written c) ∙ lowered_packet c.self.inside.bytes.bytes c.self.invariant
    ∙ ap (λ (p : Packet). record p { hop_limit = p.hop_limit - 1 }) c.self.view_is
