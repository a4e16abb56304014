-- What `show` leaves, by where it ends.
use Rattle.std.proofs.Common.{◌≡◌, inl, inr, ℕ, List, [], ◌∷◌, Option, None, Some, IfSome, Ok, Err, refl, sym, ap, ◌∙◌, subst}
use Rattle.srx_edge.specs.FilesRead.{FilesSeen}
use Rattle.srx_edge.specs.Sources.{SourceSeen}
use Rattle.srx_edge.specs.Sinks.{SinkSeen, sent}
use Rattle.srx_edge.specs.CallSteps.{How}
use Rattle.srx_edge.specs.CallStepsTerms.{Wrote}
use Rattle.command_output.specs.declared.halt.Failure.{Failure}
use Rattle.command_output.specs.declared.halt.Failure.TheVariants as failures
use Rattle.command_output.specs.declared.halt.Halt.{Halt}
use Rattle.command_output.specs.declared.halt.Halt.TheVariants as halts
use Rattle.command_output.specs.declared.refusal.Refusal.{Refusal}
use Rattle.command_output.specs.declared.status.Status.TheVariants as statuses
use Rattle.command_inputs.specs.declared.input_packets.Packets.{Packets}
use Rattle.command_output.specs.declared.conclusion.Conclusion.{Conclusion}
use Rattle.command_output.specs.CommandAnswers.{ending_of_failure, JudgesInput, CommandsOut}
use Rattle.command_output.specs.Outputs.{refused, ended_by}
use Rattle.command_output.specs.OutputLines.{refusal_line}
use Rattle.command_output.specs.OutputLinesTerms.{bytes_of_text}
use Rattle.command_output.specs.Outside.{outside, AsksAs, FailsBy, Reads, ReadsAs, ReadsWhole, files_left_by}
use Rattle.command_inputs.specs.InputPackets.{packets_in, reading_of, fault_of}
use Rattle.command_output.specs.OutputPieces.{ForOut, Output, Stop, Never, AtInput, At, Elsewhere, ToOut}
use Rattle.command_output.specs.OutputPiecesTerms.{stop_at}
use Rattle.run_commands.specs.ShowCommand.{frames_lines, shown, show_output, show_spec}
use Rattle.command_output.specs.Endings.{Takes}
use Rattle.command_output.specs.CommandSpec.{Held, names_of, WantedOf}
use Rattle.command_output.proofs.PublicLaws.{each, reads_its_whole, refused_commands, input_fault, memory_wants, written_whole, written_cut, pieces_refused}
use Rattle.std.proofs.lemmas.Result.{err_from_is_err_and}
use Rattle.run_commands.proofs.show_command.show.Goals as goal

-- an output that is wanted of the input that is told
show_wants : (told : Option Held) (left : Option (List ℕ)) (Q : List ℕ → Type 0) (output : Output) → IfSome left Q
    → ((input : List ℕ) → Q input → output ≡ show_output input) → WantedOf show_spec told left output
show_wants told None Q output q f = tt
show_wants told (Some input) Q output q f = f input q

-- no file is asked for
takes : (stop : Stop) (f : FilesSeen) (s t : SourceSeen) → AsksAs stop [] [] → FailsBy stop [] f → f ≡ files_left_by stop f
    → Reads stop s t → ReadsAs stop s t → Takes show_spec stop f f s t
takes stop f s t those fails seen reads whole = record {
  asks = record {
    names = [];
    in_order = record { rest = []; whole = refl };
    those = each f.told (λ held. AsksAs stop (names_of show_spec held) []) (λ held. those);
    fails = fails;
    seen = seen;
  };
  reads = reads;
  unread = each f.told (λ held. ⊥ → t ≡ s) (λ held no. absurd no);
  reads_none = λ no. cc;
  reads_its = reads_its_whole show_spec f.told stop s t whole;
}

module _ (f : FilesSeen) (s t : SourceSeen) (o : SinkSeen) where
  -- the input was refused, wasn't read, or memory was wanting
  show_halted_at_input : (halt : Halt) → JudgesInput packets_in (Err halt) s t → CommandsOut show_spec (Err halt) f f s t o o
  show_halted_at_input (halts.Refused refusal) h = refused_commands show_spec refusal f f s t o
      (show_wants f.told s.left (λ input. packets_in input ≡ Err refusal) (refused refusal) h.0 (λ input bad. rw bad refl))
      (inr (inl refl)) (takes Never f s t refl tt refl (inr h.1) h.1)
  show_halted_at_input (halts.Failed failures.Fault) h = input_fault show_spec f f s t o (takes AtInput f s t refl tt refl h tt)
  show_halted_at_input (halts.Failed failures.NoMemory) h =
      memory_wants show_spec f f s t o (takes Elsewhere f s t (record { rest = []; whole = refl }) tt refl (inr (inr h)) tt)

  module _ (packets : Packets) (drawn : JudgesInput packets_in (Ok packets) s t) (p : SinkSeen) where
    abbrev bytes : List ℕ
    bytes = frames_lines (reading_of packets).frames

    wanted : WantedOf show_spec f.told s.left (shown packets)
    wanted = show_wants f.told s.left (λ input. packets_in input ≡ Ok packets) (shown packets) drawn.0 (λ input good. rw good refl)

    wanted_by : (fault : Option Refusal) → fault ≡ fault_of (reading_of packets)
        → WantedOf show_spec f.told s.left (ended_by (ForOut bytes ∷ []) fault)
    wanted_by fault is = subst (λ (g : Option Refusal). WantedOf show_spec f.told s.left (ended_by (ForOut bytes ∷ []) g)) (sym is) wanted

    reads : ReadsWhole s t
    reads = inl drawn.1

    takes_how : (how : Option How) → Takes show_spec (stop_at ToOut how) f f s t
    takes_how None = takes Elsewhere f s t (record { rest = []; whole = refl }) tt refl (inr (inl reads)) tt
    takes_how (Some how) = takes (At ToOut how) f s t refl tt refl (inr reads) reads

    -- the lines didn't go out whole
    cut_by : (fault : Option Refusal) (failure : Failure) → WantedOf show_spec f.told s.left (ended_by (ForOut bytes ∷ []) fault)
        → Wrote (ending_of_failure failure) bytes o p → CommandsOut show_spec (Err (halts.Failed failure)) f f s t o p
    cut_by None failure w wrote = written_cut show_spec failure bytes [] statuses.Done f f s t o p wrote w takes_how
    cut_by (Some refusal) failure w wrote =
        written_cut show_spec failure bytes (refusal_line refusal) statuses.Refused f f s t o p wrote w takes_how

    show_halted_at_out : (failure : Failure) → Wrote (ending_of_failure failure) bytes o p
        → CommandsOut show_spec (Err (halts.Failed failure)) f f s t o p
    show_halted_at_out failure wrote = cut_by (fault_of (reading_of packets)) failure wanted wrote

    -- they did, and nothing is after the frames
    show_done : (told : Conclusion) → None ≡ fault_of (reading_of packets) → bytes_of_text told.line ≡ [] → told.status ≡ statuses.Done
        → p ≡ sent bytes o → CommandsOut show_spec (Ok told) f f s t o p
    show_done told whole line status went = written_whole show_spec told bytes f f s t o p went
        (rw (line, status) (wanted_by None whole)) (rw status refl) (inl status)
        (takes Never f s t refl tt refl (inr reads) reads) (λ _ _. drawn.1.1)

    -- something is, which is refused
    show_refused : (refusal : Refusal) → Some refusal ≡ fault_of (reading_of packets) → p ≡ sent bytes o
        → CommandsOut show_spec (Err (halts.Refused refusal)) f f s t o p
    show_refused refusal more went = λ err. pieces_refused show_spec (ForOut bytes ∷ []) (outside f s o err) (outside f t p err) refusal
        (ap (λ (q : SinkSeen). (outside f t q err).sinks) went) (wanted_by (Some refusal) more) (inr (inl refl))
        (takes Never f s t refl tt refl (inr reads) reads)

-- the goals

pub returns-in_err-packets : goal.returns-in_err-packets
returns-in_err-packets g c =
    let p = err_from_is_err_and c.from_residual.result c.from_residual.ensures.1 in
    rw (p.1, p.2) (λ (files : FilesSeen). show_halted_at_input files _ _ (g.O.Sink.seen c.args.out.now) c.in_err-packets.field-0.0
    c.in_err-packets.ensures.judged)

pub returns-in_err-refusal : goal.returns-in_err-refusal
returns-in_err-refusal g c =
    let p = err_from_is_err_and c.from_residual-in_err-refusal.result c.from_residual-in_err-refusal.ensures.1 in
    rw (p.1, p.2) (λ (files : FilesSeen). show_halted_at_out files _ _ (g.O.Sink.seen c.args.out.now) c.in_ok-packets.packets
    c.in_ok-packets.ensures.judged (g.O.Sink.seen c.show_packets.new.out) c.in_err-refusal.field-0.0 c.in_err-refusal.ensures.wrote)

pub returns-in-Some : goal.returns-in-Some
returns-in-Some g c = λ (files : FilesSeen). show_refused files _ _ (g.O.Sink.seen c.args.out.now) c.in_ok-packets.packets
    c.in_ok-packets.ensures.judged (g.O.Sink.seen c.show_packets.new.out) c.in-Some.refusal
    (sym c.in-Some.is ∙ c.in_ok-refusal.ensures.fault) c.in_ok-refusal.ensures.wrote

pub returns : goal.returns
returns g c = λ (files : FilesSeen). show_done files _ _ (g.O.Sink.seen c.args.out.now) c.in_ok-packets.packets
    c.in_ok-packets.ensures.judged (g.O.Sink.seen c.show_packets.new.out) _
    (sym c.in-None.is ∙ c.in_ok-refusal.ensures.fault) refl refl c.in_ok-refusal.ensures.wrote
