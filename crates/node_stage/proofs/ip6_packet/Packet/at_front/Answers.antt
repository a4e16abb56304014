use Rattle.std.proofs.Common.{◌≡◌, ℕ, ◌+◌, ◌∙◌, length, take, ap, ap₂, sym, subst, arith}
use Rattle.srv6_rules.specs.Packet.{Packet, header_len, packet_at, stated_len}
use Rattle.ip6_headers.proofs.PublicLaws.{holds_payload_len}
use Rattle.endpoint_chain.specs.Outcomes.{HoldsAlone}
use Rattle.pkt_buf.specs.BufferView.{Buffer}
use Rattle.node_stage.specs.FrontedTerms.{FrontedPacket}
use Rattle.node_stage.proofs.ReadingLemmas.{front_alone, front_packet}
use Rattle.node_stage.proofs.ip6_packet.Packet.at_front.Goals as goal

stated : (c : goal.After-from) → c.from.result ≡ stated_len c.args.bytes.bytes
stated c =
    c.from.ensures ∙ c.payload_len-len.ensures
    ∙ ap (λ (q : Packet). length q.payload) (c.over.ensures ∙ ap packet_at c.view.ensures)
    ∙ holds_payload_len c.args.bytes.bytes c.requires

cut : (c : goal.After-truncate) → c.truncate.new.self.bytes ≡ take (header_len + stated_len c.args.bytes.bytes) c.args.bytes.bytes
cut c =
    let len : c.from.result ≡ stated_len c.args.bytes.bytes =
    c.from.ensures ∙ c.payload_len-len.ensures
    ∙ ap (λ (q : Packet). length q.payload) (c.over.ensures ∙ ap packet_at c.view.ensures)
    ∙ holds_payload_len c.args.bytes.bytes c.requires in
    ap (λ (b : Buffer). b.bytes) c.truncate.ensures ∙ ap (λ n. take (header_len + n) c.args.bytes.bytes) len

pub truncate-requires : goal.truncate-requires
truncate-requires c =
    let len = stated c in let whole = c.requires.whole in
    omega arith

pub invariant_of-result : goal.invariant_of-result
invariant_of-result c = subst (λ xs. HoldsAlone xs) (sym (cut c)) (front_alone c.args.bytes.bytes c.requires)

pub returns : goal.returns
returns c =
    let made : Packet → ℕ → FrontedPacket = λ q n. record { packet = q; front = n } in
    ap₂ made (ap packet_at (cut c) ∙ front_packet c.args.bytes.bytes c.requires) (ap (λ (b : Buffer). b.front) c.truncate.ensures)
