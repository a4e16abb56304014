use Rattle.std.proofs.Common.{◌≡◌, ℕ, List, length, take, min, ap, ◌∙◌}
use Rattle.std.proofs.lemmas.List.{take_min}
use Rattle.srv6_rules.specs.declared.family.Family.{Family}
use Rattle.srv6_rules.specs.Packet.{Content, read_as, most_len}
use Rattle.pkt_buf.specs.BufferView.{Buffer}
use Rattle.node_stage.specs.Fronted.{FrontedContent, fronted}
use Rattle.node_stage.proofs.content_buf.ContentBuf.enter_buf.Goals as goal

kept : (family : Family) (bytes : List ℕ) (len most : ℕ) → len ≡ length bytes
    → read_as family (take (min most len) bytes) ≡ read_as family (take most bytes)
kept family bytes len most is =
    ap (λ n. read_as family (take (min most n) bytes)) is ∙ ap (read_as family) (take_min most bytes)

pub returns : goal.returns
returns c =
    let family = c.args.family in
    let bytes : List ℕ = c.args.buf.bytes in
    let front : ℕ = c.args.buf.front in
    let read : Buffer → FrontedContent = λ b. fronted (read_as family b.bytes) b.front in
    c.read_as.ensures ∙ ap read c.truncate.ensures
    ∙ ap (λ (n : ℕ). fronted (read_as family (take n bytes)) front) c.min-len.ensures
    ∙ ap (λ (x : Content). fronted x front) (kept family bytes c.len.result most_len c.len.ensures)
