use Rattle.std.proofs.Common.{◌≡◌, ◌∙◌, [], List, ℕ, ap, sym}
use Rattle.std.specs.Prelude.{Err}
use Rattle.srv6_rules.specs.Packet.{Content, Unreadable, content4_by}
use Rattle.srv6_rules.specs.Packet4.{read4}
use Rattle.ip6_headers.specs.Ip4Reading.{reason_of}
use Rattle.node_stage.specs.Fronted.{fronted}
use Rattle.node_stage.proofs.ReadingLemmas4.{reason_is}
use Rattle.node_stage.proofs.content_buf.ContentBuf.read4.Goals as goal

pub returns-in-Some : goal.returns-in-Some
returns-in-Some c =
    let bytes : List ℕ = c.args.bytes.bytes in
    let why = reason_is c.in-Some.fault c.reason.result (c.reason.ensures []) in
    let reads : read4 bytes ≡ Err (reason_of c.in-Some.fault) = ap read4 (sym c.view.ensures) ∙ c.in-Some.ensures in
    c.unreadable.ensures
    ∙ ap (λ (x : Content). fronted x c.args.bytes.front) (ap (Unreadable bytes) why ∙ ap (content4_by bytes) (sym reads))
