-- Loops over frames: what is written of those that are done, with what is to be written of the others.
use Rattle.std.proofs.Common.{◌≡◌, List, [], ◌∷◌, ◌++◌, Option, IfSome, refl, sym, ap, subst, ◌∙◌, append_assoc, append-nil}
use Rattle.std.specs.List.{flat_map}
use Rattle.std.proofs.lemmas.Grind.{flat_map-append}
use Rattle.pcap_io.specs.declared.frame.Frame.{Frame}
use Rattle.srx_edge.specs.CallSteps.{Whole, Memory}
use Rattle.command_output.specs.declared.halt.Failure.{Failure}
use Rattle.command_output.specs.declared.halt.Failure.TheVariants as failures
use Rattle.command_output.specs.CommandAnswers.{ending_of_failure}
use Rattle.command_inputs.specs.InputFrames.{FramesSeen, FindsFrame}
use Rattle.command_output.specs.GatheredTerms.{Goes, Pooled}
use Rattle.command_output.specs.OutputPieces.{Piece}
use Rattle.command_output.proofs.PublicLaws.{goes_behind, goes_both, goes_kept, goes_longer, goes_nowhere}

-- of the frames that were to come some are done, and the others are still to come
pub record FramesLeft (whole now : FramesSeen) : Type 0 where
  pub done : List Frame
  pub frames : whole.frames ≡ done ++ now.frames
  pub end : now.end ≡ whole.end

abbrev pub all_left : (whole : FramesSeen) → FramesLeft whole whole
all_left whole = record { done = []; frames = refl; end = refl }

module _ (whole old new : FramesSeen) (p : FramesLeft whole old) (h : FindsFrame old new) where
  pub frames_on : whole.frames ≡ (p.done ++ h.frame ∷ []) ++ new.frames
  frames_on = p.frames ∙ (ap (λ (fs : List Frame). p.done ++ fs) h.front ∙ sym (append_assoc p.done (h.frame ∷ []) new.frames))

  abbrev pub one_done : FramesLeft whole new
  one_done = record { done = p.done ++ h.frame ∷ []; frames = frames_on; end = h.end ∙ p.end }

  -- what all frames give, by those that are done, this one and the others

  pub flat_one : {A : Type 0} (f : Frame → List A) → flat_map f (p.done ++ h.frame ∷ []) ≡ flat_map f p.done ++ f h.frame
  flat_one {A} f = flat_map-append f p.done (h.frame ∷ []) ∙ ap (λ (last : List A). flat_map f p.done ++ last) (append-nil (f h.frame))

  flat_each : {A : Type 0} (f : Frame → List A)
      → (flat_map f p.done ++ f h.frame) ++ flat_map f new.frames ≡ flat_map f whole.frames
  flat_each {A} f =
      ap (λ (all : List A). all ++ flat_map f new.frames) (sym (flat_one f))
      ∙ (sym (flat_map-append f (p.done ++ h.frame ∷ []) new.frames) ∙ ap (λ (fs : List Frame). flat_map f fs) (sym frames_on))

  -- at hand is the frame that was found
  pub at_hand : (P : Frame → Type 0) → IfSome new.at P → P h.frame
  at_hand P some = subst (λ (o : Option Frame). IfSome o P) h.at some

-- at the end all are done
pub frames_done : (whole now : FramesSeen) (p : FramesLeft whole now) → now.frames ≡ [] → p.done ≡ whole.frames
frames_done whole now p none = sym (p.frames ∙ (ap (λ (fs : List Frame). p.done ++ fs) none ∙ append-nil p.done))

flat_left : {A : Type 0} (f : Frame → List A) (whole now : FramesSeen) (p : FramesLeft whole now)
    → flat_map f p.done ++ flat_map f now.frames ≡ flat_map f whole.frames
flat_left f whole now p = sym (flat_map-append f p.done now.frames) ∙ ap (λ (fs : List Frame). flat_map f fs) (sym p.frames)

-- the pieces of the frames that are done went out or wait, by the pool

pub record FramesPut (f : Frame → List Piece) (whole now : FramesSeen) (first pool : Pooled) : Type 0 where
  pub left : FramesLeft whole now
  pub went : Goes Whole (flat_map f left.done) first pool

abbrev pub none_put : (f : Frame → List Piece) (whole : FramesSeen) (pool : Pooled) → FramesPut f whole whole pool pool
none_put f whole pool = record { left = all_left whole; went = goes_nowhere pool }

module _ (f : Frame → List Piece) (whole old new : FramesSeen) (first mid pool : Pooled)
    (p : FramesPut f whole old first mid) (h : FindsFrame old new) where
  pub put_one : IfSome new.at (λ frame. Goes Whole (f frame) mid pool) → FramesPut f whole new first pool
  put_one next = record {
    left = one_done whole old new p.left h;
    went = subst (λ (pieces : List Piece). Goes Whole pieces first pool) (sym (flat_one whole old new p.left h f))
        (goes_both (flat_map f p.left.done) (f h.frame) first mid pool p.went
        (at_hand whole old new p.left h (λ frame. Goes Whole (f frame) mid pool) next));
  }

  pub put_cut : (failure : Failure) → IfSome new.at (λ frame. Goes (ending_of_failure failure) (f frame) mid pool)
      → Goes (ending_of_failure failure) (flat_map f whole.frames) first pool
  put_cut failure wrote = subst (λ (pieces : List Piece). Goes (ending_of_failure failure) pieces first pool)
      (flat_each whole old new p.left h f)
      (goes_longer failure (flat_map f p.left.done ++ f h.frame) (flat_map f new.frames) first pool
      (goes_behind failure (flat_map f p.left.done) (f h.frame) first mid pool p.went
      (at_hand whole old new p.left h (λ frame. Goes (ending_of_failure failure) (f frame) mid pool) wrote)))

pub put_to_the_end : (f : Frame → List Piece) (whole now : FramesSeen) (first pool : Pooled)
    → FramesPut f whole now first pool → now.frames ≡ [] → Goes Whole (flat_map f whole.frames) first pool
put_to_the_end f whole now first pool p none =
    subst (λ (frames : List Frame). Goes Whole (flat_map f frames) first pool) (frames_done whole now p.left none) p.went

pub put_in_part : (f : Frame → List Piece) (whole now : FramesSeen) (first pool : Pooled) → FramesPut f whole now first pool
    → Goes Memory (flat_map f whole.frames) first pool
put_in_part f whole now first pool p = subst (λ (pieces : List Piece). Goes Memory pieces first pool)
    (flat_left f whole now p.left)
    (goes_behind failures.NoMemory (flat_map f p.left.done) (flat_map f now.frames) first pool pool p.went
    (goes_kept (flat_map f now.frames) pool))
