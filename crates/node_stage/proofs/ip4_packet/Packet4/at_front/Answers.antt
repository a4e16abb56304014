use Rattle.std.proofs.Common.{◌≡◌, ℕ, ◌∙◌, length, take, ap, ap₂, sym, subst, arith}
use Rattle.srv6_rules.specs.Packet4.{Packet4, packet4_at, spelling4, total_len}
use Rattle.ip6_headers.proofs.PublicLaws.{holds4_length}
use Rattle.pkt_buf.specs.BufferView.{Buffer}
use Rattle.node_stage.specs.FrontedTerms.{FrontedPacket4}
use Rattle.node_stage.specs.Alone4.{HoldsAlone4}
use Rattle.node_stage.proofs.ReadingLemmas4.{front4_alone, front4_packet}
use Rattle.node_stage.proofs.ip4_packet.Packet4.at_front.Goals as goal

total : (c : goal.After-from) → c.from.result ≡ total_len c.args.bytes.bytes
total c =
    c.from.ensures ∙ c.total_len-len.ensures.length
    ∙ ap (λ (q : Packet4). length (spelling4 q)) (c.view_of.ensures ∙ ap packet4_at c.view.ensures)
    ∙ holds4_length c.args.bytes.bytes c.requires

cut : (c : goal.After-truncate) → c.truncate.new.self.bytes ≡ take (total_len c.args.bytes.bytes) c.args.bytes.bytes
cut c =
    let len : c.from.result ≡ total_len c.args.bytes.bytes =
    c.from.ensures ∙ c.total_len-len.ensures.length
    ∙ ap (λ (q : Packet4). length (spelling4 q)) (c.view_of.ensures ∙ ap packet4_at c.view.ensures)
    ∙ holds4_length c.args.bytes.bytes c.requires in
    ap (λ (b : Buffer). b.bytes) c.truncate.ensures ∙ ap (λ n. take n c.args.bytes.bytes) len

pub truncate-requires : goal.truncate-requires
truncate-requires c =
    let len = total c in let whole = c.requires.whole in
    omega arith

pub invariant_of-result : goal.invariant_of-result
invariant_of-result c = subst (λ xs. HoldsAlone4 xs) (sym (cut c)) (front4_alone c.args.bytes.bytes c.requires)

pub returns : goal.returns
returns c =
    let made : Packet4 → ℕ → FrontedPacket4 = λ q n. record { packet = q; front = n } in
    ap₂ made (ap packet4_at (cut c) ∙ front4_packet c.args.bytes.bytes c.requires) (ap (λ (b : Buffer). b.front) c.truncate.ensures)
