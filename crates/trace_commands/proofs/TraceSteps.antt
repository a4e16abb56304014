-- Lines while walking: what went out so far with the lines of the rest is the text of the whole walk.
use Rattle.std.proofs.Common.{◌≡◌, ℕ, suc, ◌+◌, List, [], ◌∷◌, ◌++◌, Option, Some, None, refl, sym, ap, ◌∙◌, append_assoc, append-nil, subst}
use Rattle.std.specs.List.{flat_map}
use Rattle.std.proofs.lemmas.Grind.{flat_map-append}
use Rattle.pcap_io.specs.declared.frame.Frame.{Frame}
use Rattle.srx_edge.specs.CallSteps.{Ending, Whole, Memory}
use Rattle.srv6_rules.specs.Packet.{Content}
use Rattle.net_model.specs.Network.{Network}
use Rattle.walk_rules.specs.declared.place.Place.{Place}
use Rattle.walk_rules.specs.Treatment.{Gave, step_of}
use Rattle.walk_rules.specs.Walk.{Stage, walk_of, next_place, decisions}
use Rattle.trace_replay.specs.TraceLaws.{walk_lines}
use Rattle.trace_replay.specs.TraceLines.{stage_text, stages_text}
use Rattle.trace_replay.specs.Written.{Traced, fed, packet_trace, packets_trace, trace_end_bytes, trace_head_bytes, unended_text}
use Rattle.command_output.specs.declared.halt.Failure.{Failure}
use Rattle.command_output.specs.declared.refusal.Refusal.{Refusal}
use Rattle.command_output.specs.CommandAnswers.{ending_of_failure}
use Rattle.command_output.specs.GatheredTerms.{Goes, Pooled}
use Rattle.command_output.specs.OutputLines.{line}
use Rattle.command_output.specs.OutputPieces.{Piece, ForOut}
use Rattle.trace_commands.specs.TraceCommand.{text_by, traced_of, traced_of_frame}
use Rattle.run_commands.proofs.PublicLaws.{outs_went, step_by, walk_begins, walk_goes_on, walk_ends}
use Rattle.command_output.proofs.PublicLaws.{goes_kept, goes_out_both, goes_out_longer, goes_out_none}

-- bytes for `out`
abbrev pub out_piece : List ℕ → List Piece
out_piece bytes = ForOut bytes ∷ []

-- a line, and then others

pub line_then : (ending : Ending) (text more : List ℕ) (old mid new : Pooled) → Goes Whole (out_piece (line text)) old mid
    → Goes ending (out_piece more) mid new → Goes ending (out_piece (text ++ 10 ∷ more)) old new
line_then ending text more old mid new first h = subst (λ (bytes : List ℕ). Goes ending (out_piece bytes) old new)
    (append_assoc text (10 ∷ []) more) (goes_out_both ending (line text) more old mid new first h)

pub line_longer : (failure : Failure) (text more : List ℕ) (old new : Pooled)
    → Goes (ending_of_failure failure) (out_piece (line text)) old new
    → Goes (ending_of_failure failure) (out_piece (text ++ 10 ∷ more)) old new
line_longer failure text more old new h = subst (λ (bytes : List ℕ). Goes (ending_of_failure failure) (out_piece bytes) old new)
    (append_assoc text (10 ∷ []) more) (goes_out_longer failure (line text) more old new h)

-- of a text the lines of these stages from a place are left: what went out before is its front
pub record Written (net : Network) (place : Option Place) (left : List Stage) (whole : List ℕ) (first now : Pooled) : Type 0 where
  pub bytes : List ℕ
  pub went : Goes Whole (out_piece bytes) first now
  pub text : bytes ++ fed (walk_lines net place left) ≡ whole

-- none went out yet
abbrev pub none_written : (net : Network) (place : Option Place) (left : List Stage) (now : Pooled)
    → Written net place left (fed (walk_lines net place left)) now now
none_written net place left now = record { bytes = []; went = goes_out_none now; text = refl }

module _ (net : Network) (place : Option Place) (left rest : List Stage) (s : Stage) (whole : List ℕ) (first now later : Pooled)
    (begins : left ≡ s ∷ rest) (p : Written net place left whole first now) where
  abbrev stage_line : List ℕ
  stage_line = line (stage_text net s.gave)

  abbrev next : Option Place
  next = next_place net s.place s.gave.outcome

  -- what went out, and then the stage's line and those of the rest
  lines_on : (p.bytes ++ stage_line) ++ fed (walk_lines net next rest) ≡ whole
  lines_on = append_assoc p.bytes stage_line (fed (walk_lines net next rest))
      ∙ (ap (λ (bytes : List ℕ). p.bytes ++ bytes) (append_assoc (stage_text net s.gave) (10 ∷ []) (fed (walk_lines net next rest)))
      ∙ (ap (λ (steps : List Stage). p.bytes ++ fed (walk_lines net place steps)) (sym begins) ∙ p.text))

  -- after a stage whose line went out
  pub stage_on : Goes Whole (out_piece stage_line) now later → Written net next rest whole first later
  stage_on went = record {
    bytes = p.bytes ++ stage_line;
    went = goes_out_both Whole p.bytes stage_line first now later p.went went;
    text = lines_on;
  }

  -- a line that went out in part
  pub stage_cut : (failure : Failure) → Goes (ending_of_failure failure) (out_piece stage_line) now later
      → Goes (ending_of_failure failure) (out_piece whole) first later
  stage_cut failure wrote = subst (λ (bytes : List ℕ). Goes (ending_of_failure failure) (out_piece bytes) first later) lines_on
      (goes_out_longer failure (p.bytes ++ stage_line) (fed (walk_lines net next rest)) first later
      (goes_out_both (ending_of_failure failure) p.bytes stage_line first now later p.went wrote))

-- memory was wanting before a stage's line
pub written_wants : (net : Network) (place : Option Place) (left : List Stage) (whole : List ℕ) (first now : Pooled)
    → Written net place left whole first now
    → Goes Memory (out_piece whole) first now
written_wants net place left whole first now p =
    subst (λ (bytes : List ℕ). Goes Memory (out_piece bytes) first now) p.text
    (goes_out_both Memory p.bytes (fed (walk_lines net place left)) first now now p.went
    (goes_kept (out_piece (fed (walk_lines net place left))) now))

-- no stage is left, and the packet doesn't go on: all went out
pub written_all : (net : Network) (whole : List ℕ) (first now : Pooled) → Written net None [] whole first now
    → Goes Whole (out_piece whole) first now
written_all net whole first now p =
    subst (λ (bytes : List ℕ). Goes Whole (out_piece bytes) first now) (sym (append-nil p.bytes) ∙ p.text) p.went

-- or it could go on, which one more line says
pub written_stopped : (ending : Ending) (net : Network) (place : Place) (left : List Stage) (whole : List ℕ)
    (first now later : Pooled) → left ≡ []
    → Written net (Some place) left whole first now → Goes ending (out_piece (line stages_text)) now later
    → Goes ending (out_piece whole) first later
written_stopped ending net place left whole first now later none p wrote =
    let last : p.bytes ++ line stages_text ≡ whole =
    ap (λ (steps : List Stage). p.bytes ++ fed (walk_lines net (Some place) steps)) (sym none) ∙ p.text in
    subst (λ (bytes : List ℕ). Goes ending (out_piece bytes) first later) last
    (goes_out_both ending p.bytes (line stages_text) first now later p.went wrote)

-- a stage of the loop, by what it gave

module _ (net : Network) (all more : ℕ) (place : Place) (content : Content) (pick : ℕ → ℕ) (taken : ℕ) (gave : Gave)
    (whole : List ℕ)
    (first now later : Pooled) (is : all ≡ suc more) (gives : step_of net place content (pick taken) ≡ gave)
    (p : Written net (Some place) (walk_of all net (Some place) content pick taken) whole first now) where
  pub line_on : (next : Place) → next_place net place gave.outcome ≡ Some next
      → Goes Whole (out_piece (line (stage_text net gave))) now later
      → Written net (Some next) (walk_of more net (Some next) gave.after pick (taken + decisions gave.outcome)) whole first later
  line_on next goes went = subst (λ (o : Option Place). Written net o
      (walk_of more net (Some next) gave.after pick (taken + decisions gave.outcome)) whole first later) goes
      (stage_on net (Some place) (walk_of all net (Some place) content pick taken)
      (walk_of more net (Some next) gave.after pick (taken + decisions gave.outcome))
      (step_by net all more place content pick taken gave is gives) whole first now later
      (walk_goes_on net all more place content pick taken gave is gives next goes) p went)

  pub line_end : next_place net place gave.outcome ≡ None → Goes Whole (out_piece (line (stage_text net gave))) now later
      → Goes Whole (out_piece whole) first later
  line_end stops went = written_all net whole first later
      (subst (λ (o : Option Place). Written net o [] whole first later) stops
      (stage_on net (Some place) (walk_of all net (Some place) content pick taken) []
      (step_by net all more place content pick taken gave is gives) whole first now later
      (walk_ends net all more place content pick taken gave is gives stops) p went))

  pub line_cut : (failure : Failure) → Goes (ending_of_failure failure) (out_piece (line (stage_text net gave))) now later
      → Goes (ending_of_failure failure) (out_piece whole) first later
  line_cut failure wrote = stage_cut net (Some place) (walk_of all net (Some place) content pick taken)
      (walk_of more net (next_place net place gave.outcome) gave.after pick (taken + decisions gave.outcome))
      (step_by net all more place content pick taken gave is gives) whole first now later
      (walk_begins net all more place content pick taken gave is gives) p failure wrote

pub ruleset lines = (line_longer, line_then, goes_kept)

-- one packet
pub wrote_one : (ending : Ending) (net : Network) (p : Traced) (old new : Pooled) → Goes ending (out_piece (packet_trace net p)) old new
    → Goes ending (out_piece (packets_trace net (p ∷ []))) old new
wrote_one ending net p old new h =
    subst (λ (bytes : List ℕ). Goes ending (out_piece bytes) old new) (sym (append-nil (packet_trace net p))) h

pub ruleset packet = (wrote_one, goes_kept, goes_out_none)

-- the packets of frames, one frame after the other

frames_packets : (net : Network) (node : ℕ) (choices : List ℕ) (frames : List Frame)
    → flat_map (λ frame. packets_trace net (traced_of_frame node choices frame)) frames
    ≡ packets_trace net (traced_of node choices frames)
frames_packets net node choices [] = refl
frames_packets net node choices (frame ∷ frames) =
    ap (λ (bytes : List ℕ). packets_trace net (traced_of_frame node choices frame) ++ bytes) (frames_packets net node choices frames)
    ∙ sym (flat_map-append (packet_trace net) (traced_of_frame node choices frame) (traced_of node choices frames))

pub wrote_frames : (ending : Ending) (net : Network) (node : ℕ) (choices : List ℕ) (frames : List Frame) (old new : Pooled)
    → Goes ending (flat_map (λ (frame : Frame). out_piece (packets_trace net (traced_of_frame node choices frame))) frames) old new
    → Goes ending (out_piece (packets_trace net (traced_of node choices frames))) old new
wrote_frames ending net node choices frames old new h =
    subst (λ (bytes : List ℕ). Goes ending (out_piece bytes) old new) (frames_packets net node choices frames)
    (outs_went (λ frame. packets_trace net (traced_of_frame node choices frame)) frames ending old new h)

-- a trace's text: the head, the packets, and the end where nothing that is refused follows

module _ (net : Network) (packets : List Traced) where
  -- what wasn't done with the head, or with the packets after it, wasn't done with the text

  pub head_cut : (failure : Failure) (fault : Option Refusal) (old new : Pooled)
      → Goes (ending_of_failure failure) (out_piece trace_head_bytes) old new
      → Goes (ending_of_failure failure) (out_piece (text_by net packets fault)) old new
  head_cut failure fault old new h = unended_cut failure fault old new
      (goes_out_longer failure trace_head_bytes (packets_trace net packets) old new h)
    where
      unended_cut : (failure : Failure) (fault : Option Refusal) (old new : Pooled)
          → Goes (ending_of_failure failure) (out_piece (unended_text net packets)) old new
          → Goes (ending_of_failure failure) (out_piece (text_by net packets fault)) old new
      unended_cut failure None old new h = goes_out_longer failure (unended_text net packets) trace_end_bytes old new h
      unended_cut failure (Some refusal) old new h = h

  pub packets_cut : (failure : Failure) (fault : Option Refusal) (old mid new : Pooled)
      → Goes Whole (out_piece trace_head_bytes) old mid → Goes (ending_of_failure failure) (out_piece (packets_trace net packets)) mid new
      → Goes (ending_of_failure failure) (out_piece (text_by net packets fault)) old new
  packets_cut failure None old mid new head h = goes_out_longer failure (unended_text net packets) trace_end_bytes old new
      (goes_out_both (ending_of_failure failure) trace_head_bytes (packets_trace net packets) old mid new head h)
  packets_cut failure (Some refusal) old mid new head h =
      goes_out_both (ending_of_failure failure) trace_head_bytes (packets_trace net packets) old mid new head h

  -- they were written whole, where something that is refused follows

  unended : (old mid new : Pooled) → Goes Whole (out_piece trace_head_bytes) old mid
      → Goes Whole (out_piece (packets_trace net packets)) mid new → Goes Whole (out_piece (unended_text net packets)) old new
  unended old mid new head h = goes_out_both Whole trace_head_bytes (packets_trace net packets) old mid new head h

  pub unended_whole : (fault : Option Refusal) (refusal : Refusal) (old mid new : Pooled) → fault ≡ Some refusal
      → Goes Whole (out_piece trace_head_bytes) old mid → Goes Whole (out_piece (packets_trace net packets)) mid new
      → Goes Whole (out_piece (text_by net packets fault)) old new
  unended_whole fault refusal old mid new is head h =
      subst (λ (f : Option Refusal). Goes Whole (out_piece (text_by net packets f)) old new) (sym is) (unended old mid new head h)

  -- and else the end after it
  pub ended_then : (ending : Ending) (fault : Option Refusal) (old mid later new : Pooled) → fault ≡ None
      → Goes Whole (out_piece trace_head_bytes) old mid → Goes Whole (out_piece (packets_trace net packets)) mid later
      → Goes ending (out_piece trace_end_bytes) later new
      → Goes ending (out_piece (text_by net packets fault)) old new
  ended_then ending fault old mid later new is head h last =
      subst (λ (f : Option Refusal). Goes ending (out_piece (text_by net packets f)) old new) (sym is)
      (goes_out_both ending (unended_text net packets) trace_end_bytes old later new (unended old mid later head h) last)
