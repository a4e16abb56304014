use Rattle.std.proofs.Common.{◌≡◌, ◌∙◌, sym, ap}
use Rattle.pcap_io.specs.CaptureTerms.{Reader}
use Rattle.pcap_io.specs.FedPieces.{fed}
use Rattle.pcap_io.specs.Feeding.{PiecesSeen, pieces_seen}
use Rattle.pcap_io.proofs.FeedingLemmas.{found_frame}
use Rattle.pcap_io.proofs.pieces.CapturePieces.next.Goals as goal

pub returns-in-Frame : goal.returns-in-Frame
returns-in-Frame c =
    let inside = c.self.inside in
    let more = inside.feeding.more.now in
    let view : c.args.self.now ≡ pieces_seen inside.at_hand inside.feeding = cc in
    rw c.in-Frame.is (found_frame c.args.self.now (record { reader = c.put_down.new.reader; more = inside.feeding.more }) c.ready.new.self
    (ap (λ (p : PiecesSeen). p.left) view ∙ ap (λ (r : Reader). fed r more) (sym c.put_down.ensures))
    (rw c.in-Frame.is at c.in_ok-found.ensures))
