-- A reader that is fed a capture in pieces.
use Rattle.std.proofs.Common.{◌≡◌, ℕ, ◌+◌, true, List, Some, Ok, sym, ap, ◌∙◌, subst}
use Rattle.pcap_io.specs.Frames.{Spelled, numbered}
use Rattle.pcap_io.specs.CaptureTerms.{Reader, HasFrame, next_frame, after_frame}
use Rattle.pcap_io.specs.FedPieces.{fed}
use Rattle.pcap_io.specs.declared.pieces.Feeding.{Feeding}
use Rattle.pcap_io.specs.declared.pieces.FrameNext.TheVariants as nexts
use Rattle.pcap_io.specs.Feeding.{GoesOn, PiecesSeen, Readies, all_fed, pieces_seen}
use Rattle.pcap_io.proofs.CapturePieceLemmas.{behind_more, first_frame_more, longer}

-- what a reader has, it has when more is fed
pub frame_fed : (r : Reader) (more : List ℕ) → HasFrame r → HasFrame (fed r more)
frame_fed r more has = (has.0, longer r.head 0 0 r.rest more has.1)

pub next_fed : (r : Reader) (more : List ℕ) → HasFrame r → next_frame (fed r more) ≡ next_frame r
next_fed r more has =
    ap (λ (f : Spelled). numbered r.head.link (r.taken + 1) f) (first_frame_more r.head.little r.rest more has.1)

pub after_fed : (r : Reader) (more : List ℕ) → HasFrame r → fed (after_frame r) more ≡ after_frame (fed r more)
after_fed r more has =
    ap (λ (rest : List ℕ). let made : Reader = record { head = r.head; taken = r.taken + 1; rest = rest } in made)
    (sym (behind_more r.head 0 0 r.rest more has.1))

-- so a frame that is whole is the next of a capture
pub found_frame : (old : PiecesSeen) (first new : Feeding) → old.left ≡ all_fed first → Readies first (Ok nexts.Frame) new
    → GoesOn old (Ok nexts.Frame) (pieces_seen true new)
found_frame old first new same ready =
    let whole : old.left ≡ all_fed new = same ∙ ready.0 in (
      subst HasFrame (sym whole) (frame_fed new.reader new.more.now ready.1),
      ap Some (sym (next_fed new.reader new.more.now ready.1)) ∙ ap (λ (r : Reader). Some (next_frame r)) (sym whole),
      after_fed new.reader new.more.now ready.1 ∙ ap after_frame (sym whole),
    )
