use Rattle.std.proofs.Common.{◌^◌, ◌<◌, All, w8}
use Rattle.std.proofs.Math.Facts.{Fits-lt-pow}
use Rattle.std.proofs.lemmas.List.Elements.{All-from_get_or}
use Rattle.srh_codec.proofs.ViewLemmas.{begins_with}
use Rattle.srh_codec.proofs.view.SrhView.read.Goals as goal

pub returns : goal.returns
returns c =
    let bytes = c.args.bytes.now in
    let all : All (λ b. b < 2 ^ 8) bytes =
    All-from_get_or (λ b. b < 2 ^ 8) bytes 0 (λ k within. Fits-lt-pow {w = w8} (c.type_inv.bytes k)) in
    rw c.split_at.ensures.front (begins_with c.in-Header.len bytes all c.in-Header.ensures)
