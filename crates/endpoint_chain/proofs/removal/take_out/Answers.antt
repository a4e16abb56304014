use Rattle.std.proofs.Common.{ℕ, ◌+◌, ◌-◌, ◌≡◌, List, length, take, drop, slice_index, slice_set, ap, ◌∙◌, arith, length-append, length-drop}
use Rattle.std.proofs.lemmas.List.{length-set, length-take-le}
use Rattle.pkt_buf.specs.BufferView.{Buffer}
use Rattle.ip6_headers.specs.ChainStepping.{place_view}
use Rattle.endpoint_chain.proofs.ChainRemovalLemmas.{alone_most, taken_out}
use Rattle.endpoint_chain.proofs.removal.take_out.Goals as goal

pub overflow_cast-payload_len : goal.overflow_cast-payload_len
overflow_cast-payload_len c =
    let most = alone_most c.args.buf.now.bytes c.requires.packet in
    let within = c.requires.within in
    let some = c.requires.some in
    let xs : List ℕ = c.set.new.self.bytes in
    let set : length xs ≡ length c.args.buf.now.bytes =
    ap (λ (b : Buffer). length b.bytes) c.set.ensures ∙ length-set c.args.buf.now.bytes c.args.place.named_at _ in
    let front = length-take-le c.args.place.at xs (omega arith) in
    let back = length-drop (c.args.place.at + c.args.len) xs in
    let cut : length c.cut.new.self.bytes ≡ length (take c.args.place.at xs) + length (drop (c.args.place.at + c.args.len) xs) =
    ap (λ (b : Buffer). length b.bytes) c.cut.ensures
    ∙ length-append (take c.args.place.at xs) (drop (c.args.place.at + c.args.len) xs) in
    let len = c.len-payload_len.ensures in
    omega arith

pub returns-clause-packet : goal.returns-clause-packet
returns-clause-packet c =
    let bytes : List ℕ = c.args.buf.now.bytes in
    let place = place_view c.args.place in
    let named : List ℕ = c.set.new.self.bytes in
    let read : slice_index c.view.result.now c.args.place.at ≡ slice_index bytes c.args.place.at =
    ap (λ xs. slice_index xs c.args.place.at) c.view.ensures in
    taken_out bytes place c.args.len c.requires.packet c.requires.behind c.requires.earlier c.requires.some c.requires.within
    c.requires.field named c.cut.new.self.bytes c.state_payload_len.new.buf.bytes (c.len-payload_len.result - 40)
    (ap (λ (b : Buffer). b.bytes) c.set.ensures ∙ ap (λ n. slice_set bytes c.args.place.named_at n) read)
    (ap (λ (b : Buffer). b.bytes) c.cut.ensures)
    (ap (λ n. n - 40) c.len-payload_len.ensures)
    c.state_payload_len.ensures.bytes
