-- What `run` leaves, by where it ends.
use Rattle.std.proofs.Common.{◌≡◌, inl, inr, ℕ, true, false, List, [], ◌∷◌, Option, None, Some, IfSome, Ok, Err, refl, sym, ◌∙◌, subst}
use Rattle.std.specs.Prelude.{IsSomeAnd}
use Rattle.srx_edge.specs.Edge.{file_named}
use Rattle.srx_edge.specs.FilesRead.{FilesSeen, asked_for}
use Rattle.srx_edge.specs.Sources.{SourceSeen}
use Rattle.srx_edge.specs.Sinks.{SinkSeen}
use Rattle.srx_edge.specs.CallSteps.{How}
use Rattle.net_model.specs.Network.{Network}
use Rattle.command_output.specs.declared.halt.Failure.{Failure}
use Rattle.command_output.specs.declared.halt.Failure.TheVariants as failures
use Rattle.command_output.specs.declared.halt.Halt.{Halt}
use Rattle.command_output.specs.declared.halt.Halt.TheVariants as halts
use Rattle.command_output.specs.declared.refusal.Refusal.{Refusal}
use Rattle.command_output.specs.declared.status.Status.TheVariants as statuses
use Rattle.command_inputs.specs.declared.input_packets.Packets.{Packets}
use Rattle.command_output.specs.declared.conclusion.Conclusion.{Conclusion}
use Rattle.command_output.specs.CommandAnswers.{ending_of_failure, JudgesFile, JudgesInput, Commands}
use Rattle.command_inputs.specs.Judgements.{network_in, node_in}
use Rattle.command_output.specs.Outputs.{refused, ended_by}
use Rattle.command_output.specs.OutputLines.{refusal_line}
use Rattle.command_output.specs.OutputLinesTerms.{bytes_of_text}
use Rattle.command_output.specs.Outside.{outside, FailsBy, IsFrontOf, Asks, Reads, ReadsAs, ReadsWhole, files_left_by}
use Rattle.command_inputs.specs.InputPackets.{packets_in, reading_of, fault_of}
use Rattle.command_output.specs.GatheredTerms.{WroteInGroups}
use Rattle.command_output.specs.OutputPieces.{Piece, Output, Which, Stop, Never, AtFiles, AtInput, At, Elsewhere, gone}
use Rattle.command_output.specs.OutputPiecesTerms.{sinks_of, stop_at}
use Rattle.run_commands.specs.RunCommand.{packets_pieces, ran, run_output, has_start, reads_input, run_spec}
use Rattle.command_output.specs.Endings.{ReadsIts, Takes}
use Rattle.command_output.specs.CommandSpec.{Held, names_of, WantedOf}
use Rattle.command_output.proofs.PublicLaws.{each, each_map, some_map, front_whole, asks_all, asks_front, is_at_input, reads_its_early, reads_its_whole, reads_nothing, refused_commands, files_fault, input_fault, memory_wants, pieces_whole, pieces_refused, pieces_cut}
use Rattle.std.proofs.lemmas.Result.{err_from_is_err_and}
use Rattle.run_commands.proofs.Writable.{at_node_within}
use Rattle.run_commands.proofs.run_command.run.Goals as goal

-- an output that is wanted of the text, and of the input, that are told
run_wants : (told : Option Held) (left : Option (List ℕ)) (file name choices schedule : List ℕ) (P Q : List ℕ → Type 0) (output : Output)
    → IfSome told (λ held. IsSomeAnd (file_named held file) P) → IfSome left Q
    → ((text input : List ℕ) → P text → Q input → output ≡ run_output text name choices schedule input)
    → WantedOf (run_spec file name choices schedule) told left output
run_wants None left file name choices schedule P Q output p q f = tt
run_wants (Some held) None file name choices schedule P Q output p q f = tt
run_wants (Some held) (Some input) file name choices schedule P Q output p q f =
    some_map (file_named held file) P (λ text. output ≡ run_output text name choices schedule input) (λ text h. f text input h q) p

-- of any input
any_input : (left : Option (List ℕ)) → IfSome left (λ input. Unit {0})
any_input None = tt
any_input (Some input) = tt

asks_file : (file name choices schedule : List ℕ) (stop : Stop) (f g : FilesSeen) → FailsBy stop (file ∷ []) f
    → g ≡ files_left_by stop (asked_for file f) → Asks (run_spec file name choices schedule) stop f g
asks_file file name choices schedule stop f g fails seen =
    asks_all (run_spec file name choices schedule) stop (file ∷ []) f g (front_whole (file ∷ [])) fails
    (each f.told (λ held. names_of (run_spec file name choices schedule) held ≡ file ∷ []) (λ held. refl)) seen

-- the input as it was
takes_unread : (file name choices schedule : List ℕ) (stop : Stop) (f g : FilesSeen) (s : SourceSeen)
    → Asks (run_spec file name choices schedule) stop f g → is_at_input stop ≡ false
    → ReadsIts (run_spec file name choices schedule) f.told stop s s
    → Takes (run_spec file name choices schedule) stop f g s s
takes_unread file name choices schedule stop f g s asks other its = record {
  asks = asks;
  reads = reads_nothing stop s other;
  unread = each f.told (λ held. reads_input (file_named held file) name ≡ false → s ≡ s) (λ held _. refl);
  reads_none = λ _. refl;
  reads_its = its;
}

-- the input isn't read where the description or the node's name is refused

leaves_refused : (name : List ℕ) (refusal : Refusal) (o : Option (List ℕ)) → IsSomeAnd o (λ text. network_in text ≡ Err refusal)
    → reads_input o name ≡ false
leaves_refused name refusal None h = absurd h
leaves_refused name refusal (Some text) h = rw h refl

leaves_nameless : (name : List ℕ) (net : Network) (refusal : Refusal) (o : Option (List ℕ)) → node_in net name ≡ Err refusal
    → IsSomeAnd o (λ text. network_in text ≡ Ok net) → reads_input o name ≡ false
leaves_nameless name net refusal None node h = absurd h
leaves_nameless name net refusal (Some text) node h = rw (h, node) refl

module _ (file name choices schedule : List ℕ) (f g : FilesSeen) (s t : SourceSeen) (o e : SinkSeen) where
  -- the file was refused, wasn't read, or memory was wanting
  run_halted_at_file : (halt : Halt) → JudgesFile network_in file (Err halt) f g
      → Commands (run_spec file name choices schedule) (Err halt) (outside f s o e) (outside g s o e)
  run_halted_at_file (halts.Refused refusal) h = refused_commands (run_spec file name choices schedule) refusal f g s s o
      (run_wants f.told s.left file name choices schedule (λ text. network_in text ≡ Err refusal) (λ input. Unit {0}) (refused refusal)
      h.0 (any_input s.left)
      (λ text input is _. rw is refl))
      (inr (inl refl)) (takes_unread file name choices schedule Never f g s (asks_file file name choices schedule Never f g tt h.1) refl
      (reads_its_early (run_spec file name choices schedule) f.told Never s s refl
      (each_map f.told (λ held. IsSomeAnd (file_named held file) (λ text. network_in text ≡ Err refusal))
      (λ held. reads_input (file_named held file) name ≡ false)
      (λ held is. leaves_refused name refusal (file_named held file) is) h.0))) e
  run_halted_at_file (halts.Failed failures.Fault) h =
      files_fault (run_spec file name choices schedule) f g s o (takes_unread file name choices schedule AtFiles f g s
      (asks_file file name choices schedule AtFiles f g h.0 h.1) refl
      (reads_its_whole (run_spec file name choices schedule) f.told AtFiles s s tt)) e
  run_halted_at_file (halts.Failed failures.NoMemory) h = memory_wants (run_spec file name choices schedule) f g s s o
      (takes_unread file name choices schedule Elsewhere f g s (asks_front (run_spec file name choices schedule) h.names f g h.front
      (each f.told (λ held. IsFrontOf (names_of (run_spec file name choices schedule) held) h.names) (λ held. h.front)) h.seen) refl
      (reads_its_whole (run_spec file name choices schedule) f.told Elsewhere s s tt)) e

  module _ (net : Network) (judged : JudgesFile network_in file (Ok net) f g) where
    -- the node's name was refused
    run_halted_at_node : (refusal : Refusal) → node_in net name ≡ Err refusal
        → Commands (run_spec file name choices schedule) (Err (halts.Refused refusal)) (outside f s o e) (outside g s o e)
    run_halted_at_node refusal node = refused_commands (run_spec file name choices schedule) refusal f g s s o
        (run_wants f.told s.left file name choices schedule (λ text. network_in text ≡ Ok net) (λ input. Unit {0}) (refused refusal)
        judged.0 (any_input s.left)
        (λ text input is _. rw (is, node) refl))
        (inr (inl refl)) (takes_unread file name choices schedule Never f g s
        (asks_file file name choices schedule Never f g tt judged.1) refl
        (reads_its_early (run_spec file name choices schedule) f.told Never s s refl
        (each_map f.told (λ held. IsSomeAnd (file_named held file) (λ text. network_in text ≡ Ok net))
        (λ held. reads_input (file_named held file) name ≡ false)
        (λ held is. leaves_nameless name net refusal (file_named held file) node is) judged.0))) e

    module _ (node : ℕ) (found : node_in net name ≡ Ok node) where
      starts : (o : Option (List ℕ)) → IsSomeAnd o (λ text. network_in text ≡ Ok net) → reads_input o name ≡ false → ⊥
      starts None h early = absurd h
      starts (Some text) h early = let begins : has_start (network_in text) name ≡ true = rw (h, found) refl in cc

      unread : (told : Option Held) → IfSome told (λ held. IsSomeAnd (file_named held file) (λ text. network_in text ≡ Ok net))
          → IfSome told (λ held. reads_input (file_named held file) name ≡ false → t ≡ s)
      unread None h = tt
      unread (Some held) h = λ early. absurd (starts (file_named held file) h early)

      takes : (stop : Stop) → FailsBy stop (file ∷ []) f → g ≡ files_left_by stop (asked_for file f) → Reads stop s t → ReadsAs stop s t
          → Takes (run_spec file name choices schedule) stop f g s t
      takes stop fails seen reads whole = record {
        asks = asks_file file name choices schedule stop f g fails seen;
        reads = reads;
        unread = unread f.told judged.0;
        reads_none = λ no. cc;
        reads_its = reads_its_whole (run_spec file name choices schedule) f.told stop s t whole;
      }

      -- the input was refused, wasn't read, or memory was wanting
      run_halted_at_input : (halt : Halt) → JudgesInput packets_in (Err halt) s t
          → Commands (run_spec file name choices schedule) (Err halt) (outside f s o e) (outside g t o e)
      run_halted_at_input (halts.Refused refusal) h = refused_commands (run_spec file name choices schedule) refusal f g s t o
          (run_wants f.told s.left file name choices schedule (λ text. network_in text ≡ Ok net) (λ input. packets_in input ≡ Err refusal)
          (refused refusal)
          judged.0 h.0 (λ text input is bad. rw (is, found, bad) refl))
          (inr (inl refl)) (takes Never tt judged.1 (inr h.1) h.1) e
      run_halted_at_input (halts.Failed failures.Fault) h =
          input_fault (run_spec file name choices schedule) f g s t o (takes AtInput tt judged.1 h tt) e
      run_halted_at_input (halts.Failed failures.NoMemory) h =
          memory_wants (run_spec file name choices schedule) f g s t o (takes Elsewhere tt judged.1 (inr (inr h)) tt) e

      module _ (packets : Packets) (drawn : JudgesInput packets_in (Ok packets) s t) (p q : SinkSeen) where
        abbrev before : List Piece
        before = packets_pieces net node choices schedule (reading_of packets).frames

        wanted : WantedOf (run_spec file name choices schedule) f.told s.left (ran net node choices schedule packets)
        wanted = run_wants f.told s.left file name choices schedule (λ text. network_in text ≡ Ok net)
            (λ input. packets_in input ≡ Ok packets)
            (ran net node choices schedule packets) judged.0 drawn.0 (λ text input is good. rw (is, found, good) refl)

        reads : ReadsWhole s t
        reads = inl drawn.1

        takes_how : (sink : Which) (how : Option How) → Takes (run_spec file name choices schedule) (stop_at sink how) f g s t
        takes_how sink None = takes Elsewhere tt judged.1 (inr (inl reads)) tt
        takes_how sink (Some how) = takes (At sink how) tt judged.1 (inr reads) reads

        -- the packets' pieces didn't go out whole
        cut_by : (fault : Option Refusal) (failure : Failure)
            → WantedOf (run_spec file name choices schedule) f.told s.left (ended_by before fault)
            → WroteInGroups (ending_of_failure failure) before (sinks_of o e) (sinks_of p q)
            → Commands (run_spec file name choices schedule) (Err (halts.Failed failure)) (outside f s o e) (outside g t p q)
        cut_by None failure w wrote = pieces_cut (run_spec file name choices schedule) before (outside f s o e)
            (outside g t p q) failure [] statuses.Done
            refl wrote w takes_how
        cut_by (Some refusal) failure w wrote =
            pieces_cut (run_spec file name choices schedule) before (outside f s o e) (outside g t p q) failure
            (refusal_line refusal) statuses.Refused refl wrote w takes_how

        run_halted_at_pieces : (failure : Failure) → WroteInGroups (ending_of_failure failure) before (sinks_of o e) (sinks_of p q)
            → Commands (run_spec file name choices schedule) (Err (halts.Failed failure)) (outside f s o e) (outside g t p q)
        run_halted_at_pieces failure wrote = cut_by (fault_of (reading_of packets)) failure wanted wrote

        -- they did, and nothing is after the frames
        run_done : (told : Conclusion) → None ≡ fault_of (reading_of packets) → bytes_of_text told.line ≡ [] → told.status ≡ statuses.Done
            → sinks_of p q ≡ gone before (sinks_of o e)
            → Commands (run_spec file name choices schedule) (Ok told) (outside f s o e) (outside g t p q)
        run_done told whole line status went =
            let none : WantedOf (run_spec file name choices schedule) f.told s.left (ended_by before None) =
            subst (λ (fault : Option Refusal). WantedOf (run_spec file name choices schedule) f.told s.left (ended_by before fault))
            (sym whole) wanted in
            pieces_whole (run_spec file name choices schedule) before (outside f s o e) (outside g t p q) told went
            (rw (line, status) none) (rw status refl) (inl status) (takes Never tt judged.1 (inr reads) reads) (λ _ _. drawn.1.1)

        -- something is, which is refused
        run_refused : (refusal : Refusal) → Some refusal ≡ fault_of (reading_of packets) → sinks_of p q ≡ gone before (sinks_of o e)
            → Commands (run_spec file name choices schedule) (Err (halts.Refused refusal)) (outside f s o e) (outside g t p q)
        run_refused refusal more went = pieces_refused (run_spec file name choices schedule) before (outside f s o e)
            (outside g t p q) refusal went
            (subst (λ (fault : Option Refusal). WantedOf (run_spec file name choices schedule) f.told s.left (ended_by before fault))
            (sym more) wanted)
            (inr (inl refl)) (takes Never tt judged.1 (inr reads) reads)

-- the goals

pub drive-requires-clause-within : goal.drive-requires-clause-within
drive-requires-clause-within g c = at_node_within c.in_ok-net.net c.in_ok-node.node c.in_ok-node.ensures.within

pub returns-in_err-net : goal.returns-in_err-net
returns-in_err-net g c =
    let p = err_from_is_err_and c.from_residual.result c.from_residual.ensures.1 in
    rw (p.1, p.2) (run_halted_at_file c.args.words.now.file.now c.args.words.now.node.now
    c.args.words.now.choices.items c.args.words.now.schedule.items _ _ (g.S.Source.seen c.args.input.now)
    (g.S.Source.seen c.args.input.now)
    (g.O.Sink.seen c.args.out.now) (g.E.Sink.seen c.args.err.now)
    c.in_err-net.field-0.0 c.in_err-net.ensures.judged)

pub returns-in_err-node : goal.returns-in_err-node
returns-in_err-node g c =
    let p = err_from_is_err_and c.from_residual-in_err-node.result c.from_residual-in_err-node.ensures.1 in
    rw (p.1, p.2) (run_halted_at_node c.args.words.now.file.now c.args.words.now.node.now
    c.args.words.now.choices.items c.args.words.now.schedule.items _ _ (g.S.Source.seen c.args.input.now)
    (g.S.Source.seen c.args.input.now)
    (g.O.Sink.seen c.args.out.now) (g.E.Sink.seen c.args.err.now)
    c.in_ok-net.net c.in_ok-net.ensures.judged c.in_err-node.field-0.0 (sym c.in_err-node.ensures.judged))

pub returns-in_err-packets : goal.returns-in_err-packets
returns-in_err-packets g c =
    let p = err_from_is_err_and c.from_residual-in_err-packets.result c.from_residual-in_err-packets.ensures.1 in
    rw (p.1, p.2) (run_halted_at_input c.args.words.now.file.now c.args.words.now.node.now
    c.args.words.now.choices.items c.args.words.now.schedule.items _ _ _ _ (g.O.Sink.seen c.args.out.now)
    (g.E.Sink.seen c.args.err.now)
    c.in_ok-net.net c.in_ok-net.ensures.judged c.in_ok-node.node (sym c.in_ok-node.ensures.judged)
    c.in_err-packets.field-0.0 c.in_err-packets.ensures.judged)

pub returns-in_err-refusal : goal.returns-in_err-refusal
returns-in_err-refusal g c =
    let p = err_from_is_err_and c.from_residual-in_err-refusal.result c.from_residual-in_err-refusal.ensures.1 in
    rw (p.1, p.2) (run_halted_at_pieces c.args.words.now.file.now c.args.words.now.node.now
    c.args.words.now.choices.items c.args.words.now.schedule.items _ _ _ _ (g.O.Sink.seen c.args.out.now)
    (g.E.Sink.seen c.args.err.now)
    c.in_ok-net.net c.in_ok-net.ensures.judged c.in_ok-node.node (sym c.in_ok-node.ensures.judged) c.in_ok-packets.packets
    c.in_ok-packets.ensures.judged (g.O.Sink.seen c.drive.new.out) (g.E.Sink.seen c.drive.new.err)
    c.in_err-refusal.field-0.0 (rw (c.as_slice-choices.ensures.value, c.as_slice-schedule.ensures.value) at c.in_err-refusal.ensures.wrote))

pub returns-in-Some : goal.returns-in-Some
returns-in-Some g c = run_refused c.args.words.now.file.now c.args.words.now.node.now
    c.args.words.now.choices.items c.args.words.now.schedule.items _ _ _ _ (g.O.Sink.seen c.args.out.now)
    (g.E.Sink.seen c.args.err.now)
    c.in_ok-net.net c.in_ok-net.ensures.judged c.in_ok-node.node (sym c.in_ok-node.ensures.judged) c.in_ok-packets.packets
    c.in_ok-packets.ensures.judged (g.O.Sink.seen c.drive.new.out) (g.E.Sink.seen c.drive.new.err)
    c.in-Some.refusal (sym c.in-Some.is ∙ c.in_ok-refusal.ensures.fault)
    (rw (c.as_slice-choices.ensures.value, c.as_slice-schedule.ensures.value) at c.in_ok-refusal.ensures.wrote)

pub returns : goal.returns
returns g c = run_done c.args.words.now.file.now c.args.words.now.node.now
    c.args.words.now.choices.items c.args.words.now.schedule.items _ _ _ _ (g.O.Sink.seen c.args.out.now)
    (g.E.Sink.seen c.args.err.now)
    c.in_ok-net.net c.in_ok-net.ensures.judged c.in_ok-node.node (sym c.in_ok-node.ensures.judged) c.in_ok-packets.packets
    c.in_ok-packets.ensures.judged (g.O.Sink.seen c.drive.new.out) (g.E.Sink.seen c.drive.new.err)
    _ (sym c.in-None.is ∙ c.in_ok-refusal.ensures.fault) refl refl
    (rw (c.as_slice-choices.ensures.value, c.as_slice-schedule.ensures.value) at c.in_ok-refusal.ensures.wrote)
