use Rattle.std.proofs.Common.{ℕ, ◌++◌, List, length, take, drop, slice_index, slice_set, ap, ◌∙◌, arith}
use Rattle.pkt_buf.specs.BufferView.{Buffer}
use Rattle.srv6_rules.specs.Packet.{two_bytes}
use Rattle.endpoint_chain.proofs.ChainRemovalLemmas.{set_two}
use Rattle.endpoint_chain.proofs.removal.state_payload_len.Goals as goal

pub returns-clause-bytes : goal.returns-clause-bytes
unfolding two_bytes
returns-clause-bytes c =
    let xs : List ℕ = c.args.buf.now.bytes in
    let bs : List ℕ = c.to_be_bytes-bytes.result in
    let room = c.requires in
    ap (λ (b : Buffer). b.bytes) c.set-2.ensures
    ∙ ap (λ (b : Buffer). slice_set b.bytes 5 (slice_index bs 1)) c.set.ensures
    ∙ set_two xs bs (omega arith) (ap length c.to_be_bytes-bytes.ensures)
    ∙ ap (λ (ys : List ℕ). take 4 xs ++ (ys ++ drop 6 xs)) c.to_be_bytes-bytes.ensures
