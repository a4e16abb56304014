use Rattle.std.proofs.Common.{◌≡◌, ◌+◌, ◌∙◌, List, ℕ, drop, slice_set, ap}
use Rattle.std.proofs.lemmas.List.{drop-set-add}
use Rattle.pkt_buf.specs.BufferView.{Buffer}
use Rattle.pkt_buf.proofs.BufferLemmas.{same_buffer}
use Rattle.pkt_buf.proofs.pkt_buf.PktBuf.set.Goals as goal

pub returns : goal.returns
returns c =
    let b : Buffer = c.args.self.now in
    let front : ℕ = c.self.inside.front in
    let held : List ℕ = c.self.inside.held.items in
    let at : ℕ = c.args.at in
    let byte : ℕ = c.args.byte in
    let bytes : drop front held ≡ b.bytes = ap (λ (v : Buffer). v.bytes) c.self.view_is in
    let room : front ≡ b.front = ap (λ (v : Buffer). v.front) c.self.view_is in
    let want : Buffer = record { bytes = slice_set b.bytes at byte; front = b.front } in
    same_buffer want (drop front (slice_set held (front + at) byte)) front
    (drop-set-add front held at byte ∙ ap (λ xs. slice_set xs at byte) bytes) room
