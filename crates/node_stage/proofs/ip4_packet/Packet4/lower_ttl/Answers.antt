use Rattle.std.proofs.Common.{◌≡◌, ◌∙◌, List, ℕ, length, slice_index, ap, sym, subst, arith}
use Rattle.srv6_rules.specs.Packet4.{packet4_at, lowered4, ttl, ttl_lowered}
use Rattle.srv6_rules.proofs.PublicLaws.{ttl_lowered_length}
use Rattle.ip6_headers.proofs.PublicLaws.{holds4_byte}
use Rattle.pkt_buf.specs.BufferLending.{left_in}
use Rattle.pkt_buf.proofs.PublicLaws.{left_whole}
use Rattle.node_stage.specs.FrontedTerms.{FrontedPacket4}
use Rattle.node_stage.specs.Alone4.{HoldsAlone4}
use Rattle.node_stage.proofs.ReadingLemmas4.{lowered4_alone, lowered4_packet}
use Rattle.node_stage.proofs.ip4_packet.Packet4.lower_ttl.Goals as goal

-- the bytes that were lent end as they were lowered
left : (bytes lent new : List ℕ) → HoldsAlone4 bytes → lent ≡ bytes → new ≡ ttl_lowered lent → left_in bytes new ≡ ttl_lowered bytes
left bytes lent new alone same is =
    let h = alone.holds in let least = h.least in let header = h.header in let whole = h.whole in
    let lowered : new ≡ ttl_lowered bytes = is ∙ ap ttl_lowered same in
    left_whole bytes new (ap length lowered ∙ ttl_lowered_length bytes (omega arith)) ∙ lowered

pub lower_ttl-requires-clause-some : goal.lower_ttl-requires-clause-some
lower_ttl-requires-clause-some c =
    let there : slice_index c.view_mut.result.now 8 ≡ ttl c.args.self.now.packet =
    ap (λ xs. slice_index xs 8) c.view_mut.ensures.value
    ∙ sym (holds4_byte c.self.inside.bytes.bytes 8 c.self.invariant.holds (omega arith))
    ∙ ap (λ (v : FrontedPacket4). ttl v.packet) c.self.view_is in
    omega arith

pub invariant_of-self : goal.invariant_of-self
invariant_of-self c =
    subst (λ xs. HoldsAlone4 xs)
    (sym (left c.self.inside.bytes.bytes c.view_mut.result.now c.lower_ttl.new.bytes c.self.invariant c.view_mut.ensures.value
    c.lower_ttl.ensures.bytes)) (lowered4_alone c.self.inside.bytes.bytes c.self.invariant)

pub returns-clause-packet : goal.returns-clause-packet
returns-clause-packet c =
    ap packet4_at (left c.self.inside.bytes.bytes c.view_mut.result.now c.lower_ttl.new.bytes c.self.invariant c.view_mut.ensures.value
    c.lower_ttl.ensures.bytes) ∙ lowered4_packet c.self.inside.bytes.bytes c.self.invariant
    ∙ ap (λ (v : FrontedPacket4). lowered4 v.packet) c.self.view_is
