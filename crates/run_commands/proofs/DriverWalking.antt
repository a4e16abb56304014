-- Output while walking: what went out so far with the frames of the rest is the frames of the whole walk.
use Rattle.std.proofs.Common.{◌≡◌, ℕ, suc, ◌+◌, Bool, true, false, is_some, List, [], ◌∷◌, ◌++◌, Option, Some, None, refl, sym, ap, ◌∙◌, append_assoc, append-nil, subst}
use Rattle.pcap_io.specs.Capture.{written_frame_bytes}
use Rattle.srx_edge.specs.CallSteps.{Ending, Whole, Memory}
use Rattle.srv6_rules.specs.declared.reason.Reason.{Reason}
use Rattle.srv6_rules.specs.Packet.{Packet, Content}
use Rattle.icmp6_errors.specs.Answer.{error_bytes}
use Rattle.net_model.specs.Network.{Network}
use Rattle.walk_rules.specs.declared.place.Place.{Place}
use Rattle.walk_rules.specs.declared.place.Outcome.TheVariants as outcomes
use Rattle.walk_rules.specs.declared.place.Ended.TheVariants as ends
use Rattle.walk_rules.specs.Treatment.{Gave, step_of}
use Rattle.walk_rules.specs.Walk.{Stage, walk_of, next_place, decisions, end_by, end_of}
use Rattle.walk_rules.proofs.PublicLaws.{walk_of_suc, walk_of_zero, walk_of_none}
use Rattle.packet_walk.proofs.PublicLaws.{end_of_cons, goes_on}
use Rattle.command_output.specs.declared.halt.Failure.{Failure}
use Rattle.command_output.specs.declared.halt.Failure.TheVariants as failures
use Rattle.command_output.specs.CommandAnswers.{ending_of_failure}
use Rattle.command_output.specs.GatheredTerms.{Goes, Pooled}
use Rattle.command_output.specs.OutputPieces.{ForOut}
use Rattle.run_commands.specs.WrittenCapture.{frames_of, frame_by, frame_of_gave}
use Rattle.command_output.proofs.PublicLaws.{goes_kept, goes_out_both, goes_out_longer, goes_out_none}

-- of a whole walk some stages are left: what went out before is a front of its frames, and its end is theirs
pub record Progress (number : ℕ) (net : Network) (left whole : List Stage) (first now : Pooled) : Type 0 where
  pub bytes : List ℕ
  pub went : Goes Whole (ForOut bytes ∷ []) first now
  pub frames : bytes ++ frames_of number left ≡ frames_of number whole
  pub ends : end_of net left ≡ end_of net whole

-- none went out yet
abbrev pub progress_starts : (number : ℕ) (net : Network) (whole : List Stage) (now : Pooled) → Progress number net whole whole now now
progress_starts number net whole now = record { bytes = []; went = goes_out_none now; frames = refl; ends = refl }

module _ (number : ℕ) (net : Network) (left whole rest : List Stage) (s : Stage) (first now later : Pooled) (begins : left ≡ s ∷ rest)
    (p : Progress number net left whole first now) where
  -- what went out, and then the stage's frames and those of the rest
  frames_on : (p.bytes ++ frame_of_gave number s.gave) ++ frames_of number rest ≡ frames_of number whole
  frames_on = append_assoc p.bytes (frame_of_gave number s.gave) (frames_of number rest)
      ∙ (ap (λ (steps : List Stage). p.bytes ++ frames_of number steps) (sym begins) ∙ p.frames)

  -- after a stage whose frames went out
  pub progress_on : end_by net s.place s.gave.outcome ≡ ends.Stages → Goes Whole (ForOut (frame_of_gave number s.gave) ∷ []) now later
      → Progress number net rest whole first later
  progress_on goes went = record {
    bytes = p.bytes ++ frame_of_gave number s.gave;
    went = goes_out_both Whole p.bytes (frame_of_gave number s.gave) first now later p.went went;
    frames = frames_on;
    ends = sym (end_of_cons net s rest goes) ∙ (ap (end_of net) (sym begins) ∙ p.ends);
  }

  -- frames that went out in part
  pub progress_cut : (failure : Failure) → Goes (ending_of_failure failure) (ForOut (frame_of_gave number s.gave) ∷ []) now later
      → Goes (ending_of_failure failure) (ForOut (frames_of number whole) ∷ []) first later
  progress_cut failure wrote = subst (λ (bytes : List ℕ). Goes (ending_of_failure failure) (ForOut bytes ∷ []) first later) frames_on
      (goes_out_longer failure (p.bytes ++ frame_of_gave number s.gave) (frames_of number rest) first later
      (goes_out_both (ending_of_failure failure) p.bytes (frame_of_gave number s.gave) first now later p.went wrote))

-- memory was wanting before a stage
pub progress_wants : (number : ℕ) (net : Network) (left whole : List Stage) (first now : Pooled)
    → Progress number net left whole first now
    → Goes (ending_of_failure failures.NoMemory) (ForOut (frames_of number whole) ∷ []) first now
progress_wants number net left whole first now p =
    subst (λ (bytes : List ℕ). Goes Memory (ForOut bytes ∷ []) first now) p.frames
    (goes_out_both Memory p.bytes (frames_of number left) first now now p.went (goes_kept (ForOut (frames_of number left) ∷ []) now))

-- no stage is left: all went out, and the walk ended as the last stage did

pub progress_stops : (number : ℕ) (net : Network) (left whole : List Stage) (first now : Pooled) → left ≡ []
    → Progress number net left whole first now
    → Goes Whole (ForOut (frames_of number whole) ∷ []) first now × (ends.Stages ≡ end_of net whole)
progress_stops number net left whole first now none p = (
  subst (λ (bytes : List ℕ). Goes Whole (ForOut bytes ∷ []) first now)
      (sym (append-nil p.bytes) ∙ (ap (λ (steps : List Stage). p.bytes ++ frames_of number steps) (sym none) ∙ p.frames)) p.went,
  ap (end_of net) (sym none) ∙ p.ends,
)

pub progress_ends : (number : ℕ) (net : Network) (left whole : List Stage) (s : Stage) (first now later : Pooled) → left ≡ s ∷ []
    → Progress number net left whole first now
    → Goes Whole (ForOut (frame_of_gave number s.gave) ∷ []) now later
    → Goes Whole (ForOut (frames_of number whole) ∷ []) first later × (end_by net s.place s.gave.outcome ≡ end_of net whole)
progress_ends number net left whole s first now later last p went = (
  subst (λ (bytes : List ℕ). Goes Whole (ForOut bytes ∷ []) first later)
      (sym (append-nil (p.bytes ++ frame_of_gave number s.gave)) ∙ frames_on number net left whole [] s first now later last p)
      (goes_out_both Whole p.bytes (frame_of_gave number s.gave) first now later p.went went),
  ap (end_of net) (sym last) ∙ p.ends,
)

-- a walk's first stage by what it gave, and the walk from where it leads

module _ (net : Network) (all more : ℕ) (place : Place) (content : Content) (pick : ℕ → ℕ) (taken : ℕ) (gave : Gave) (is : all ≡ suc more)
    (gives : step_of net place content (pick taken) ≡ gave) where
  abbrev pub step_by : Stage
  step_by = record { place = place; before = content; gave = gave }

  pub walk_begins : walk_of all net (Some place) content pick taken
      ≡ step_by ∷ walk_of more net (next_place net place gave.outcome) gave.after pick (taken + decisions gave.outcome)
  walk_begins = ap (λ (n : ℕ). walk_of n net (Some place) content pick taken) is
      ∙ subst (λ (g : Gave). walk_of (suc more) net (Some place) content pick taken
      ≡ record { place = place; before = content; gave = g }
      ∷ walk_of more net (next_place net place g.outcome) g.after pick (taken + decisions g.outcome))
      gives (walk_of_suc more net place content pick taken)

  pub walk_goes_on : (next : Place) → next_place net place gave.outcome ≡ Some next
      → walk_of all net (Some place) content pick taken
      ≡ step_by ∷ walk_of more net (Some next) gave.after pick (taken + decisions gave.outcome)
  walk_goes_on next goes = walk_begins
      ∙ ap (λ (o : Option Place). step_by ∷ walk_of more net o gave.after pick (taken + decisions gave.outcome)) goes

  pub walk_ends : next_place net place gave.outcome ≡ None → walk_of all net (Some place) content pick taken ≡ step_by ∷ []
  walk_ends stops = walk_begins
      ∙ ap (λ (o : Option Place). step_by ∷ walk_of more net o gave.after pick (taken + decisions gave.outcome)) stops
      ∙ ap (λ (steps : List Stage). step_by ∷ steps) (walk_of_none more net gave.after pick (taken + decisions gave.outcome))

pub walk_is_over : (net : Network) (left : ℕ) (place : Option Place) (content : Content) (pick : ℕ → ℕ) (taken : ℕ) → left ≡ 0
    → walk_of left net place content pick taken ≡ []
walk_is_over net left place content pick taken is =
    ap (λ (n : ℕ). walk_of n net place content pick taken) is ∙ walk_of_zero net place content pick taken

-- a stage of the loop, by what it gave

module _ (number : ℕ) (net : Network) (all more : ℕ) (place : Place) (content : Content) (pick : ℕ → ℕ) (taken : ℕ) (gave : Gave)
    (whole : List Stage)
    (first now later : Pooled) (is : all ≡ suc more) (gives : step_of net place content (pick taken) ≡ gave)
    (p : Progress number net (walk_of all net (Some place) content pick taken) whole first now) where
  pub staged_on : (next : Place) → next_place net place gave.outcome ≡ Some next
      → Goes Whole (ForOut (frame_of_gave number gave) ∷ []) now later
      → Progress number net (walk_of more net (Some next) gave.after pick (taken + decisions gave.outcome)) whole first later
  staged_on next goes went = progress_on number net (walk_of all net (Some place) content pick taken) whole
      (walk_of more net (Some next) gave.after pick (taken + decisions gave.outcome))
      (step_by net all more place content pick taken gave is gives) first now later
      (walk_goes_on net all more place content pick taken gave is gives next goes) p (goes_on net place next gave.outcome goes) went

  pub staged_end : next_place net place gave.outcome ≡ None → Goes Whole (ForOut (frame_of_gave number gave) ∷ []) now later
      → Goes Whole (ForOut (frames_of number whole) ∷ []) first later × (end_by net place gave.outcome ≡ end_of net whole)
  staged_end stops went = progress_ends number net (walk_of all net (Some place) content pick taken) whole
      (step_by net all more place content pick taken gave is gives) first now later
      (walk_ends net all more place content pick taken gave is gives stops) p went

  pub staged_cut : (failure : Failure) → Goes (ending_of_failure failure) (ForOut (frame_of_gave number gave) ∷ []) now later
      → Goes (ending_of_failure failure) (ForOut (frames_of number whole) ∷ []) first later
  staged_cut failure wrote = progress_cut number net (walk_of all net (Some place) content pick taken) whole
      (walk_of more net (next_place net place gave.outcome) gave.after pick (taken + decisions gave.outcome))
      (step_by net all more place content pick taken gave is gives) first now later
      (walk_begins net all more place content pick taken gave is gives) p failure wrote

-- the frame of a drop is that of its error, and a drop without one has none

error_frame : (number : ℕ) (reason : Reason) (sends : Bool) (after : Content) (told : Option Packet) (bytes : List ℕ) → sends ≡ true
    → sends ≡ is_some told → bytes ≡ error_bytes told
    → written_frame_bytes number 0 bytes ≡ frame_by number (outcomes.Drop reason sends) after told
error_frame number reason sends after None bytes is tells has = cc
error_frame number reason sends after (Some error) bytes is tells has = ap (written_frame_bytes number 0) has

no_error_frame : (number : ℕ) (reason : Reason) (sends : Bool) (after : Content) (told : Option Packet) → sends ≡ false
    → sends ≡ is_some told → [] ≡ frame_by number (outcomes.Drop reason sends) after told
no_error_frame number reason sends after None is tells = refl
no_error_frame number reason sends after (Some error) is tells = cc

pub error_went : (ending : Ending) (number : ℕ) (reason : Reason) (sends : Bool) (after : Content) (told : Option Packet) (bytes : List ℕ)
    → (first now : Pooled) → sends ≡ true → sends ≡ is_some told → bytes ≡ error_bytes told
    → Goes ending (ForOut (written_frame_bytes number 0 bytes) ∷ []) first now
    → Goes ending (ForOut (frame_by number (outcomes.Drop reason sends) after told) ∷ []) first now
error_went ending number reason sends after told bytes first now is tells has wrote =
    subst (λ (frame : List ℕ). Goes ending (ForOut frame ∷ []) first now)
    (error_frame number reason sends after told bytes is tells has) wrote

pub no_error_went : (number : ℕ) (reason : Reason) (sends : Bool) (after : Content) (told : Option Packet)
    → (now : Pooled) → sends ≡ false → sends ≡ is_some told
    → Goes Whole (ForOut (frame_by number (outcomes.Drop reason sends) after told) ∷ []) now now
no_error_went number reason sends after told now is tells =
    subst (λ (frame : List ℕ). Goes Whole (ForOut frame ∷ []) now now) (no_error_frame number reason sends after told is tells)
    (goes_out_none now)

pub ruleset errors = (error_went, no_error_went, goes_out_none)
