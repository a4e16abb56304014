-- What `trace` leaves, by where it ends.
use Rattle.std.proofs.Common.{◌≡◌, inl, inr, ℕ, true, false, List, [], ◌∷◌, Option, None, Some, IfSome, Ok, Err, refl, sym, ap, ◌∙◌, subst}
use Rattle.std.specs.Prelude.{IsSomeAnd}
use Rattle.srx_edge.specs.Edge.{file_named}
use Rattle.srx_edge.specs.FilesRead.{FilesSeen, asked_for}
use Rattle.srx_edge.specs.Sources.{SourceSeen}
use Rattle.srx_edge.specs.Sinks.{SinkSeen, sent}
use Rattle.srx_edge.specs.CallSteps.{How}
use Rattle.srx_edge.specs.CallStepsTerms.{Wrote}
use Rattle.net_model.specs.Network.{Network}
use Rattle.command_output.specs.declared.halt.Failure.{Failure}
use Rattle.command_output.specs.declared.halt.Failure.TheVariants as failures
use Rattle.command_output.specs.declared.halt.Halt.{Halt}
use Rattle.command_output.specs.declared.halt.Halt.TheVariants as halts
use Rattle.command_output.specs.declared.refusal.Refusal.{Refusal}
use Rattle.command_output.specs.declared.status.Status.TheVariants as statuses
use Rattle.command_inputs.specs.declared.input_packets.Packets.{Packets}
use Rattle.command_output.specs.declared.conclusion.Conclusion.{Conclusion}
use Rattle.command_output.specs.CommandAnswers.{ending_of_failure, JudgesFile, JudgesInput, CommandsOut}
use Rattle.command_inputs.specs.Judgements.{network_in, node_in}
use Rattle.command_output.specs.Outputs.{refused, ended_by}
use Rattle.command_output.specs.OutputLines.{refusal_line}
use Rattle.command_output.specs.OutputLinesTerms.{bytes_of_text}
use Rattle.command_output.specs.Outside.{outside, FailsBy, IsFrontOf, Asks, Reads, ReadsAs, ReadsWhole, files_left_by}
use Rattle.command_inputs.specs.InputPackets.{packets_in, reading_of, fault_of}
use Rattle.command_output.specs.OutputPieces.{ForOut, Output, Stop, Never, AtFiles, AtInput, At, Elsewhere, ToOut}
use Rattle.command_output.specs.OutputPiecesTerms.{stop_at}
use Rattle.run_commands.specs.RunCommand.{has_start, reads_input}
use Rattle.trace_commands.specs.TraceCommand.{text_of, traced, trace_output, trace_spec}
use Rattle.command_output.specs.Endings.{ReadsIts, Takes}
use Rattle.command_output.specs.CommandSpec.{Held, names_of, WantedOf}
use Rattle.command_output.proofs.PublicLaws.{each, each_map, some_map, front_whole, asks_all, asks_front, is_at_input, reads_its_early, reads_its_whole, reads_nothing, refused_commands, files_fault, input_fault, memory_wants, written_whole, written_cut, pieces_refused}
use Rattle.std.proofs.lemmas.Result.{err_from_is_err_and}
use Rattle.trace_commands.proofs.trace_command.trace.Goals as goal

-- an output that is wanted of the text, and of the input, that are told
trace_wants : (told : Option Held) (left : Option (List ℕ)) (file name choices : List ℕ) (P Q : List ℕ → Type 0) (output : Output)
    → IfSome told (λ held. IsSomeAnd (file_named held file) P) → IfSome left Q
    → ((text input : List ℕ) → P text → Q input → output ≡ trace_output text name choices input)
    → WantedOf (trace_spec file name choices) told left output
trace_wants None left file name choices P Q output p q f = tt
trace_wants (Some held) None file name choices P Q output p q f = tt
trace_wants (Some held) (Some input) file name choices P Q output p q f =
    some_map (file_named held file) P (λ text. output ≡ trace_output text name choices input) (λ text h. f text input h q) p

-- of any input
any_input : (left : Option (List ℕ)) → IfSome left (λ input. Unit {0})
any_input None = tt
any_input (Some input) = tt

asks_file : (file name choices : List ℕ) (stop : Stop) (f g : FilesSeen) → FailsBy stop (file ∷ []) f
    → g ≡ files_left_by stop (asked_for file f) → Asks (trace_spec file name choices) stop f g
asks_file file name choices stop f g fails seen =
    asks_all (trace_spec file name choices) stop (file ∷ []) f g (front_whole (file ∷ [])) fails
    (each f.told (λ held. names_of (trace_spec file name choices) held ≡ file ∷ []) (λ held. refl)) seen

-- the input as it was
takes_unread : (file name choices : List ℕ) (stop : Stop) (f g : FilesSeen) (s : SourceSeen)
    → Asks (trace_spec file name choices) stop f g → is_at_input stop ≡ false
    → ReadsIts (trace_spec file name choices) f.told stop s s
    → Takes (trace_spec file name choices) stop f g s s
takes_unread file name choices stop f g s asks other its = record {
  asks = asks;
  reads = reads_nothing stop s other;
  unread = each f.told (λ held. reads_input (file_named held file) name ≡ false → s ≡ s) (λ held _. refl);
  reads_none = λ _. refl;
  reads_its = its;
}

-- the input isn't read where the description or the node's name is refused

leaves_refused : (name : List ℕ) (refusal : Refusal) (o : Option (List ℕ)) → IsSomeAnd o (λ text. network_in text ≡ Err refusal)
    → reads_input o name ≡ false
leaves_refused name refusal None h = absurd h
leaves_refused name refusal (Some text) h = rw h refl

leaves_nameless : (name : List ℕ) (net : Network) (refusal : Refusal) (o : Option (List ℕ)) → node_in net name ≡ Err refusal
    → IsSomeAnd o (λ text. network_in text ≡ Ok net) → reads_input o name ≡ false
leaves_nameless name net refusal None node h = absurd h
leaves_nameless name net refusal (Some text) node h = rw (h, node) refl

module _ (file name choices : List ℕ) (f g : FilesSeen) (s t : SourceSeen) (o : SinkSeen) where
  -- the file was refused, wasn't read, or memory was wanting
  trace_halted_at_file : (halt : Halt) → JudgesFile network_in file (Err halt) f g
      → CommandsOut (trace_spec file name choices) (Err halt) f g s s o o
  trace_halted_at_file (halts.Refused refusal) h = refused_commands (trace_spec file name choices) refusal f g s s o
      (trace_wants f.told s.left file name choices (λ text. network_in text ≡ Err refusal) (λ input. Unit {0}) (refused refusal)
      h.0 (any_input s.left)
      (λ text input is _. rw is refl))
      (inr (inl refl)) (takes_unread file name choices Never f g s (asks_file file name choices Never f g tt h.1) refl
      (reads_its_early (trace_spec file name choices) f.told Never s s refl
      (each_map f.told (λ held. IsSomeAnd (file_named held file) (λ text. network_in text ≡ Err refusal))
      (λ held. reads_input (file_named held file) name ≡ false)
      (λ held is. leaves_refused name refusal (file_named held file) is) h.0)))
  trace_halted_at_file (halts.Failed failures.Fault) h =
      files_fault (trace_spec file name choices) f g s o (takes_unread file name choices AtFiles f g s
      (asks_file file name choices AtFiles f g h.0 h.1) refl (reads_its_whole (trace_spec file name choices) f.told AtFiles s s tt))
  trace_halted_at_file (halts.Failed failures.NoMemory) h = memory_wants (trace_spec file name choices) f g s s o
      (takes_unread file name choices Elsewhere f g s (asks_front (trace_spec file name choices) h.names f g h.front
      (each f.told (λ held. IsFrontOf (names_of (trace_spec file name choices) held) h.names) (λ held. h.front)) h.seen) refl
      (reads_its_whole (trace_spec file name choices) f.told Elsewhere s s tt))

  module _ (net : Network) (judged : JudgesFile network_in file (Ok net) f g) where
    -- the node's name was refused
    trace_halted_at_node : (refusal : Refusal) → node_in net name ≡ Err refusal
        → CommandsOut (trace_spec file name choices) (Err (halts.Refused refusal)) f g s s o o
    trace_halted_at_node refusal node = refused_commands (trace_spec file name choices) refusal f g s s o
        (trace_wants f.told s.left file name choices (λ text. network_in text ≡ Ok net) (λ input. Unit {0}) (refused refusal)
        judged.0 (any_input s.left)
        (λ text input is _. rw (is, node) refl))
        (inr (inl refl)) (takes_unread file name choices Never f g s (asks_file file name choices Never f g tt judged.1) refl
        (reads_its_early (trace_spec file name choices) f.told Never s s refl
        (each_map f.told (λ held. IsSomeAnd (file_named held file) (λ text. network_in text ≡ Ok net))
        (λ held. reads_input (file_named held file) name ≡ false)
        (λ held is. leaves_nameless name net refusal (file_named held file) node is) judged.0)))

    module _ (node : ℕ) (found : node_in net name ≡ Ok node) where
      starts : (o : Option (List ℕ)) → IsSomeAnd o (λ text. network_in text ≡ Ok net) → reads_input o name ≡ false → ⊥
      starts None h early = absurd h
      starts (Some text) h early = let begins : has_start (network_in text) name ≡ true = rw (h, found) refl in cc

      unread : (told : Option Held) → IfSome told (λ held. IsSomeAnd (file_named held file) (λ text. network_in text ≡ Ok net))
          → IfSome told (λ held. reads_input (file_named held file) name ≡ false → t ≡ s)
      unread None h = tt
      unread (Some held) h = λ early. absurd (starts (file_named held file) h early)

      takes : (stop : Stop) → FailsBy stop (file ∷ []) f → g ≡ files_left_by stop (asked_for file f) → Reads stop s t → ReadsAs stop s t
          → Takes (trace_spec file name choices) stop f g s t
      takes stop fails seen reads whole = record {
        asks = asks_file file name choices stop f g fails seen;
        reads = reads;
        unread = unread f.told judged.0;
        reads_none = λ no. cc;
        reads_its = reads_its_whole (trace_spec file name choices) f.told stop s t whole;
      }

      -- the input was refused, wasn't read, or memory was wanting
      trace_halted_at_input : (halt : Halt) → JudgesInput packets_in (Err halt) s t
          → CommandsOut (trace_spec file name choices) (Err halt) f g s t o o
      trace_halted_at_input (halts.Refused refusal) h = refused_commands (trace_spec file name choices) refusal f g s t o
          (trace_wants f.told s.left file name choices (λ text. network_in text ≡ Ok net) (λ input. packets_in input ≡ Err refusal)
          (refused refusal)
          judged.0 h.0 (λ text input is bad. rw (is, found, bad) refl))
          (inr (inl refl)) (takes Never tt judged.1 (inr h.1) h.1)
      trace_halted_at_input (halts.Failed failures.Fault) h =
          input_fault (trace_spec file name choices) f g s t o (takes AtInput tt judged.1 h tt)
      trace_halted_at_input (halts.Failed failures.NoMemory) h =
          memory_wants (trace_spec file name choices) f g s t o (takes Elsewhere tt judged.1 (inr (inr h)) tt)

      module _ (packets : Packets) (drawn : JudgesInput packets_in (Ok packets) s t) (p : SinkSeen) where
        abbrev bytes : List ℕ
        bytes = text_of net node choices (reading_of packets)

        wanted : WantedOf (trace_spec file name choices) f.told s.left (traced net node choices packets)
        wanted = trace_wants f.told s.left file name choices (λ text. network_in text ≡ Ok net) (λ input. packets_in input ≡ Ok packets)
            (traced net node choices packets) judged.0 drawn.0 (λ text input is good. rw (is, found, good) refl)

        wanted_by : (fault : Option Refusal) → fault ≡ fault_of (reading_of packets)
            → WantedOf (trace_spec file name choices) f.told s.left (ended_by (ForOut bytes ∷ []) fault)
        wanted_by fault is = subst (λ (o : Option Refusal). WantedOf (trace_spec file name choices) f.told s.left
            (ended_by (ForOut bytes ∷ []) o)) (sym is) wanted

        reads : ReadsWhole s t
        reads = inl drawn.1

        takes_how : (how : Option How) → Takes (trace_spec file name choices) (stop_at ToOut how) f g s t
        takes_how None = takes Elsewhere tt judged.1 (inr (inl reads)) tt
        takes_how (Some how) = takes (At ToOut how) tt judged.1 (inr reads) reads

        -- the text didn't go out whole
        cut_by : (fault : Option Refusal) (failure : Failure)
            → WantedOf (trace_spec file name choices) f.told s.left (ended_by (ForOut bytes ∷ []) fault)
            → Wrote (ending_of_failure failure) bytes o p
            → CommandsOut (trace_spec file name choices) (Err (halts.Failed failure)) f g s t o p
        cut_by None failure w wrote =
            written_cut (trace_spec file name choices) failure bytes [] statuses.Done f g s t o p wrote w takes_how
        cut_by (Some refusal) failure w wrote =
            written_cut (trace_spec file name choices) failure bytes (refusal_line refusal) statuses.Refused f g s t o p wrote w takes_how

        trace_halted_at_out : (failure : Failure) → Wrote (ending_of_failure failure) bytes o p
            → CommandsOut (trace_spec file name choices) (Err (halts.Failed failure)) f g s t o p
        trace_halted_at_out failure wrote = cut_by (fault_of (reading_of packets)) failure wanted wrote

        -- it did, and nothing is after the frames
        trace_done : (told : Conclusion) → None ≡ fault_of (reading_of packets) → bytes_of_text told.line ≡ [] → told.status ≡ statuses.Done
            → p ≡ sent bytes o → CommandsOut (trace_spec file name choices) (Ok told) f g s t o p
        trace_done told whole line status went = written_whole (trace_spec file name choices) told bytes f g s t o p went
            (rw (line, status) (wanted_by None whole)) (rw status refl) (inl status)
            (takes Never tt judged.1 (inr reads) reads) (λ _ _. drawn.1.1)

        -- something is, which is refused
        trace_refused : (refusal : Refusal) → Some refusal ≡ fault_of (reading_of packets) → p ≡ sent bytes o
            → CommandsOut (trace_spec file name choices) (Err (halts.Refused refusal)) f g s t o p
        trace_refused refusal more went = λ err. pieces_refused (trace_spec file name choices) (ForOut bytes ∷ []) (outside f s o err)
            (outside g t p err) refusal
            (ap (λ (q : SinkSeen). (outside g t q err).sinks) went) (wanted_by (Some refusal) more) (inr (inl refl))
            (takes Never tt judged.1 (inr reads) reads)

-- the goals

pub returns-in_err-net : goal.returns-in_err-net
returns-in_err-net g c =
    let p = err_from_is_err_and c.from_residual.result c.from_residual.ensures.1 in
    rw (p.1, p.2) (trace_halted_at_file c.args.file.now c.args.node.now c.args.choices.now _ _ (g.S.Source.seen c.args.input.now)
    (g.S.Source.seen c.args.input.now)
    (g.O.Sink.seen c.args.out.now)
    c.in_err-net.field-0.0 c.in_err-net.ensures.judged)

pub returns-in_err-node : goal.returns-in_err-node
returns-in_err-node g c =
    let p = err_from_is_err_and c.from_residual-in_err-node.result c.from_residual-in_err-node.ensures.1 in
    rw (p.1, p.2) (trace_halted_at_node c.args.file.now c.args.node.now c.args.choices.now _ _ (g.S.Source.seen c.args.input.now)
    (g.S.Source.seen c.args.input.now)
    (g.O.Sink.seen c.args.out.now)
    c.in_ok-net.net c.in_ok-net.ensures.judged c.in_err-node.field-0.0 (sym c.in_err-node.ensures.judged))

pub returns-in_err-packets : goal.returns-in_err-packets
returns-in_err-packets g c =
    let p = err_from_is_err_and c.from_residual-in_err-packets.result c.from_residual-in_err-packets.ensures.1 in
    rw (p.1, p.2) (trace_halted_at_input c.args.file.now c.args.node.now c.args.choices.now _ _ _ _ (g.O.Sink.seen c.args.out.now)
    c.in_ok-net.net c.in_ok-net.ensures.judged c.in_ok-node.node (sym c.in_ok-node.ensures.judged)
    c.in_err-packets.field-0.0 c.in_err-packets.ensures.judged)

pub returns-in_err-refusal : goal.returns-in_err-refusal
returns-in_err-refusal g c =
    let p = err_from_is_err_and c.from_residual-in_err-refusal.result c.from_residual-in_err-refusal.ensures.1 in
    rw (p.1, p.2) (trace_halted_at_out c.args.file.now c.args.node.now c.args.choices.now _ _ _ _ (g.O.Sink.seen c.args.out.now)
    c.in_ok-net.net c.in_ok-net.ensures.judged c.in_ok-node.node (sym c.in_ok-node.ensures.judged) c.in_ok-packets.packets
    c.in_ok-packets.ensures.judged (g.O.Sink.seen c.write_trace.new.out)
    c.in_err-refusal.field-0.0 c.in_err-refusal.ensures.wrote)

pub returns-in-Some : goal.returns-in-Some
returns-in-Some g c = trace_refused c.args.file.now c.args.node.now c.args.choices.now _ _ _ _ (g.O.Sink.seen c.args.out.now)
    c.in_ok-net.net c.in_ok-net.ensures.judged c.in_ok-node.node (sym c.in_ok-node.ensures.judged) c.in_ok-packets.packets
    c.in_ok-packets.ensures.judged (g.O.Sink.seen c.write_trace.new.out)
    c.in-Some.refusal (sym c.in-Some.is ∙ c.in_ok-refusal.ensures.fault) c.in_ok-refusal.ensures.wrote

pub returns : goal.returns
returns g c = trace_done c.args.file.now c.args.node.now c.args.choices.now _ _ _ _ (g.O.Sink.seen c.args.out.now)
    c.in_ok-net.net c.in_ok-net.ensures.judged c.in_ok-node.node (sym c.in_ok-node.ensures.judged) c.in_ok-packets.packets
    c.in_ok-packets.ensures.judged (g.O.Sink.seen c.write_trace.new.out)
    _ (sym c.in-None.is ∙ c.in_ok-refusal.ensures.fault) refl refl c.in_ok-refusal.ensures.wrote
