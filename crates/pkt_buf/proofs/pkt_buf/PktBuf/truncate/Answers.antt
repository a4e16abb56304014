use Rattle.std.proofs.Common.{◌≡◌, ◌∙◌, List, ℕ, take, drop, ap}
use Rattle.std.proofs.lemmas.List.{drop-take}
use Rattle.pkt_buf.specs.BufferView.{Buffer}
use Rattle.pkt_buf.proofs.BufferLemmas.{same_buffer}
use Rattle.pkt_buf.proofs.pkt_buf.PktBuf.truncate.Goals as goal

pub returns : goal.returns
returns c =
    let b : Buffer = c.args.self.now in
    let front : ℕ = c.self.inside.front in
    let held : List ℕ = c.self.inside.held.items in
    let len : ℕ = c.args.len in
    let bytes : drop front held ≡ b.bytes = ap (λ (v : Buffer). v.bytes) c.self.view_is in
    let room : front ≡ b.front = ap (λ (v : Buffer). v.front) c.self.view_is in
    let want : Buffer = record { bytes = take len b.bytes; front = b.front } in
    same_buffer want (drop front c.truncate.new.self.items) front
    (ap (drop front) c.truncate.ensures.items ∙ drop-take front len held ∙ ap (take len) bytes) room
