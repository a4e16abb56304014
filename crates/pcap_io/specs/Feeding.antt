-- Need not be believed: helps proofs and other laws.
-- The frames of a capture that stands in memory whole, one by one.
use Rattle.std.specs.Prelude.{◌≡◌, ℕ, ◌+◌, ◌<◌, Bool, true, false, List, length, Option, Some, None, Result, Ok, Err, ⊤}
use Rattle.base.specs.declared.no_memory.NoMemory.{NoMemory}
use Rattle.pcap_io.specs.declared.frame.Frame.{Frame}
use Rattle.pcap_io.specs.declared.capture_head.CaptureHead.{CaptureHead}
use Rattle.pcap_io.specs.declared.pieces.CaptureEnd.{CaptureEnd}
use Rattle.pcap_io.specs.declared.pieces.CaptureEnd.TheVariants as ends
use Rattle.pcap_io.specs.declared.pieces.Feeding.{Feeding}
use Rattle.pcap_io.specs.declared.pieces.FrameNext.{FrameNext}
use Rattle.pcap_io.specs.declared.pieces.FrameNext.TheVariants as nexts
use Rattle.pcap_io.specs.CaptureTerms.{Reader, HasFrame, IsAtLimit, IsDone, next_frame, after_frame}
use Rattle.pcap_io.specs.FedPieces.{fed}

-- the frame at hand, if one is, and a reader that was fed all bytes and has taken this frame
pub record PiecesSeen : Type 0 where
  pub at : Option Frame
  pub left : Reader

-- before the first frame
abbrev pub before_all : CaptureHead → List ℕ → PiecesSeen
before_all head bytes = record { at = None; left = record { head = head; taken = 0; rest = bytes } }

-- how a reader ends that has no further frame
abbrev pub EndsWith : Reader → CaptureEnd → Type 0
EndsWith r ends.Whole = IsDone r × (length r.rest ≡ 0)
EndsWith r (ends.CutIn number) = IsDone r × (0 < length r.rest) × (number ≡ r.taken + 1)
EndsWith r ends.AtLimit = IsAtLimit r

-- what `next` finds: a frame, or the end
abbrev pub GoesOn : PiecesSeen → Result FrameNext NoMemory → PiecesSeen → Type 0
GoesOn old (Ok nexts.Frame) new =
    HasFrame old.left × (new.at ≡ Some (next_frame old.left)) × (new.left ≡ after_frame old.left)
GoesOn old (Ok (nexts.End end)) new = EndsWith old.left end
GoesOn old (Err want) new = ⊤

-- ---- a reader and the bytes that it wasn't fed yet

-- a reader that was fed all
abbrev pub all_fed : Feeding → Reader
all_fed f = fed f.reader f.more.now

-- a piece was fed
pub record Feeds (old new : Feeding) : Type 0 where
  pub same : all_fed old ≡ all_fed new
  pub less : 0 < length old.more.now → length new.more.now < length old.more.now

-- a frame is whole, or none is left
abbrev pub Readies : Feeding → Result FrameNext NoMemory → Feeding → Type 0
Readies old (Ok nexts.Frame) new = (all_fed old ≡ all_fed new) × HasFrame new.reader
Readies old (Ok (nexts.End end)) new = EndsWith (all_fed old) end
Readies old (Err want) new = ⊤

-- the frame at hand is the next of the reader
abbrev pub HasAtHand : Bool → Reader → Type 0
HasAtHand true r = HasFrame r
HasAtHand false r = ⊤

abbrev pub after_hand : Bool → Reader → Reader
after_hand true r = after_frame r
after_hand false r = r

abbrev pub hand_of : Bool → Reader → Option Frame
hand_of true r = Some (next_frame r)
hand_of false r = None

abbrev pub pieces_seen : Bool → Feeding → PiecesSeen
pieces_seen at_hand f = record { at = hand_of at_hand f.reader; left = fed (after_hand at_hand f.reader) f.more.now }
