-- Need not be believed: helps proofs and other laws.
-- The frames of an input one by one, wherever they come from.
use Rattle.std.specs.Prelude.{◌≡◌, ℕ, ◌+◌, ◌≤◌, Bool, true, false, List, [], ◌∷◌, length, Option, Some, None, Result, Ok, Err, ⊤}
use Rattle.base.specs.declared.no_memory.NoMemory.{NoMemory}
use Rattle.pcap_io.specs.declared.frame.Body.TheVariants as bodies
use Rattle.pcap_io.specs.declared.frame.Frame.{Frame}
use Rattle.pcap_io.specs.declared.numbers.TheConstants.{MAX_FRAMES}
use Rattle.pcap_io.specs.CaptureTerms.{Reader}
use Rattle.pcapng_io.specs.NgPieces.{NgComing}
use Rattle.command_output.specs.declared.refusal.Refusal.{Refusal}
use Rattle.command_inputs.specs.declared.frames.Found.{Found}
use Rattle.command_inputs.specs.declared.frames.Found.TheVariants as founds
use Rattle.command_inputs.specs.InputPackets.{InputFrames, fault_behind, fault_of, refusal_of_ng_end}
use Rattle.command_inputs.specs.InputPacketsTerms.{left_of}

-- the frame at hand, if one is; the frames that will come, and the refusal of what is after the last of them, if anything is; and
-- how many came
pub record FramesSeen : Type 0 where
  pub at : Option Frame
  pub frames : List Frame
  pub end : Option Refusal
  pub taken : ℕ

-- one more frame is at hand: the first of those that were to come, with the next number
pub record FindsFrame (old new : FramesSeen) : Type 0 where
  pub frame : Frame
  pub at : new.at ≡ Some frame
  pub front : old.frames ≡ frame ∷ new.frames
  pub end : new.end ≡ old.end
  pub number : frame.number ≡ old.taken + 1
  pub taken : new.taken ≡ old.taken + 1
  pub few : new.taken ≤ MAX_FRAMES

-- what `next` finds: a frame, or that none is left
abbrev pub Finds : FramesSeen → Result Found NoMemory → FramesSeen → Type 0
Finds old (Ok founds.Frame) new = FindsFrame old new
Finds old (Ok (founds.End fault)) new = (old.frames ≡ []) × (fault ≡ old.end)
Finds old (Err want) new = ⊤

-- all frames of an input, before the first
abbrev pub all_frames : InputFrames → FramesSeen
all_frames read = record { at = None; frames = read.frames; end = fault_of read; taken = 0 }

-- those that a reader has left, with the one at hand
abbrev pub seen_at : Option Frame → Reader → FramesSeen
seen_at at reader = record {
  at = at;
  frames = (left_of reader).frames;
  end = fault_behind (reader.taken + length (left_of reader).frames) (left_of reader).rest;
  taken = reader.taken;
}

-- those of a pcapng file that will come, with the one at hand
abbrev pub ng_seen_at : Option Frame → NgComing → FramesSeen
ng_seen_at at coming = record {
  at = at;
  frames = coming.reading.frames;
  end = refusal_of_ng_end coming.reading.end;
  taken = coming.taken;
}

-- the only frame, of a bare packet, before it came and after
abbrev pub bare_frame : List ℕ → Frame
bare_frame packet = record { number = 1; body = bodies.V6 packet }

abbrev pub bare_by : Bool → List ℕ → FramesSeen
bare_by false packet = record { at = None; frames = bare_frame packet ∷ []; end = None; taken = 0 }
bare_by true packet = record { at = Some (bare_frame packet); frames = []; end = None; taken = 1 }

-- frames numbered from n on
abbrev pub AreFrom : ℕ → List Frame → Type 0
AreFrom n [] = ⊤
AreFrom n (frame ∷ more) = (frame.number ≡ n) × AreFrom (n + 1) more
