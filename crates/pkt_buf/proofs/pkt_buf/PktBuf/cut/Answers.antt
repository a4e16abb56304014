use Rattle.std.proofs.Common.{◌≡◌, ◌+◌, ◌≤◌, ◌++◌, ◌∙◌, List, ℕ, length, take, drop, ap, sym, arith, length-drop}
use Rattle.pkt_buf.specs.BufferView.{Buffer}
use Rattle.pkt_buf.proofs.BufferLemmas.{same_buffer, cut_behind}
use Rattle.pkt_buf.proofs.pkt_buf.PktBuf.cut.Goals as goal

pub returns : goal.returns
returns c =
    let b : Buffer = c.args.self.now in
    let front : ℕ = c.self.inside.front in
    let held : List ℕ = c.self.inside.held.items in
    let at : ℕ = c.args.at in
    let n : ℕ = c.args.n in
    let bytes : drop front held ≡ b.bytes = ap (λ (v : Buffer). v.bytes) c.self.view_is in
    let room : front ≡ b.front = ap (λ (v : Buffer). v.front) c.self.view_is in
    let want : Buffer = record { bytes = take at b.bytes ++ drop (at + n) b.bytes; front = b.front } in
    let long : length b.bytes ≡ length (drop front held) = ap length (sym bytes) in
    let spare = c.self.invariant in
    let whole = c.self.inside.held.ok.0 in
    let within : front + at + n ≤ length held = omega (arith, length-drop front held) in
    same_buffer want (drop front c.drop-drain.new.self.0.items) front
    (ap (drop front) (c.drop-drain.ensures.items ∙ c.drain.ensures.kept) ∙ cut_behind front at n held within
    ∙ ap (λ xs. take at xs ++ drop (at + n) xs) bytes) room
