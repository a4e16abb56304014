-- What `replay` leaves, by where it ends.
use Rattle.std.proofs.Common.{◌≡◌, inl, inr, ℕ, true, false, List, [], ◌∷◌, Option, None, Some, IfSome, Result, Ok, Err, refl, sym, ap, ◌∙◌, ap₂, subst}
use Rattle.std.specs.Prelude.{IsSomeAnd, if◌then◌else◌}
use Rattle.srx_edge.specs.Edge.{file_named}
use Rattle.srx_edge.specs.FilesRead.{FilesSeen, FailsAt, asked_for}
use Rattle.srx_edge.specs.Sources.{SourceSeen}
use Rattle.srx_edge.specs.Sinks.{SinkSeen, sent}
use Rattle.srx_edge.specs.CallSteps.{How}
use Rattle.srx_edge.specs.CallStepsTerms.{Wrote}
use Rattle.net_model.specs.Network.{Network}
use Rattle.trace_replay.specs.Replays.{Wrong, first_wrong, counts_of}
use Rattle.trace_replay.specs.declared.verdict.Replayed.{Replayed}
use Rattle.command_output.specs.declared.halt.Failure.{Failure}
use Rattle.command_output.specs.declared.halt.Failure.TheVariants as failures
use Rattle.command_output.specs.declared.halt.Halt.{Halt}
use Rattle.command_output.specs.declared.halt.Halt.TheVariants as halts
use Rattle.command_output.specs.declared.refusal.Refusal.{Refusal}
use Rattle.command_output.specs.declared.status.Status.{Status}
use Rattle.command_output.specs.declared.status.Status.TheVariants as statuses
use Rattle.command_output.specs.declared.conclusion.Judgement.{Judgement}
use Rattle.command_output.specs.declared.conclusion.Conclusion.{Conclusion}
use Rattle.command_output.specs.CommandAnswers.{ending_of_failure, JudgesFile, CommandsUnread}
use Rattle.command_output.specs.OutputsTerms.{output_of_judgement}
use Rattle.command_output.specs.Outputs.{reported, refused, after}
use Rattle.trace_commands.specs.ReplayCommand.{ReplayWants, replay_spec, replayed, replayed_by}
use Rattle.command_inputs.specs.Judgements.{network_in, trace_in, asks_behind_network}
use Rattle.command_output.specs.OutputLinesTerms.{bytes_of_text}
use Rattle.command_output.specs.Outside.{FailsBy, IsFrontOf, Asks, asked_for_all, files_left_by}
use Rattle.command_output.specs.OutputPieces.{Output, Stop, Never, AtFiles, At, Elsewhere, ToOut}
use Rattle.command_output.specs.OutputPiecesTerms.{stop_at}
use Rattle.command_output.specs.Endings.{Takes}
use Rattle.command_output.specs.CommandSpec.{Held, goes_on_with, names_of, WantedOf, IsOneOf}
use Rattle.command_output.proofs.PublicLaws.{judgement_status, each, each_map, some_map, front_whole, front_longer, front_after, asks_all, asks_fault, asks_front, is_at_input, reads_its_none, reads_nothing, refused_commands, files_fault, memory_wants, written_whole, written_cut}
use Rattle.std.proofs.lemmas.Result.{err_from_is_err_and}
use Rattle.trace_commands.proofs.replay_command.replay.Goals as goal

-- the names that are asked for, by the judgement of the description

goes_on_ok : (net : Network) (o : Option (List ℕ)) → IsSomeAnd o (λ text. network_in text ≡ Ok net)
    → goes_on_with asks_behind_network [] o ≡ true
goes_on_ok net None h = absurd h
goes_on_ok net (Some text) h = rw h refl

goes_on_refused : (refusal : Refusal) (o : Option (List ℕ)) → IsSomeAnd o (λ text. network_in text ≡ Err refusal)
    → goes_on_with asks_behind_network [] o ≡ false
goes_on_refused refusal None h = absurd h
goes_on_refused refusal (Some text) h = rw h refl

-- what is said of a trace has a status of a whole call, and one of the command's
own_status : (counts : Replayed) (wrong : Option Wrong) (judgement : Judgement) → output_of_judgement judgement ≡ replayed_by counts wrong
    → IsOneOf (statuses.Done ∷ statuses.SaysNo ∷ []) judgement.status
own_status counts None judgement is = inl (ap (λ (o : Output). o.status) is)
own_status counts (Some wrong) judgement is = inr (inl (ap (λ (o : Output). o.status) is))

module _ (file trace : List ℕ) where
  names_ok : (net : Network) (told : Option Held)
      → IfSome told (λ held. IsSomeAnd (file_named held file) (λ text. network_in text ≡ Ok net))
      → IfSome told (λ held. names_of (replay_spec file trace) held ≡ file ∷ trace ∷ [])
  names_ok net told h = each_map told (λ held. IsSomeAnd (file_named held file) (λ text. network_in text ≡ Ok net))
      (λ held. names_of (replay_spec file trace) held ≡ file ∷ trace ∷ [])
      (λ held h. rw (goes_on_ok net (file_named held file) h) refl) h

  names_refused : (refusal : Refusal) (told : Option Held)
      → IfSome told (λ held. IsSomeAnd (file_named held file) (λ text. network_in text ≡ Err refusal))
      → IfSome told (λ held. names_of (replay_spec file trace) held ≡ file ∷ [])
  names_refused refusal told h = each_map told (λ held. IsSomeAnd (file_named held file) (λ text. network_in text ≡ Err refusal))
      (λ held. names_of (replay_spec file trace) held ≡ file ∷ [])
      (λ held h. rw (goes_on_refused refusal (file_named held file) h) refl) h

  -- what is asked for after the description
  abbrev behind : Held → List (List ℕ)
  behind held = if goes_on_with asks_behind_network [] (file_named held file) then trace ∷ [] else []

  -- an output that is wanted of the description's judgement
  wants : (judged : Result Network Refusal) (told : Option Held) (left : Option (List ℕ)) (output : Output)
      → IfSome told (λ held. IsSomeAnd (file_named held file) (λ text. network_in text ≡ judged))
      → IfSome told (λ held. ReplayWants judged (file_named held trace) output) → WantedOf (replay_spec file trace) told left output
  wants judged None left output h w = tt
  wants judged (Some held) left output h w = some_map (file_named held file) (λ text. network_in text ≡ judged)
      (λ text. ReplayWants (network_in text) (file_named held trace) output)
      (λ text is. subst (λ (j : Result Network Refusal). ReplayWants j (file_named held trace) output) (sym is) w) h

  takes : (stop : Stop) (f g : FilesSeen) (s : SourceSeen) → Asks (replay_spec file trace) stop f g → is_at_input stop ≡ false
      → Takes (replay_spec file trace) stop f g s s
  takes stop f g s asks other = record {
    asks = asks;
    reads = reads_nothing stop s other;
    unread = each f.told (λ held. Unit {0} → s ≡ s) (λ held _. refl);
    reads_none = λ _. refl;
    reads_its = reads_its_none (replay_spec file trace) f.told stop s s refl;
  }

  -- the description was refused, wasn't read, or memory was wanting
  pub replay_halted_at_file : (f g : FilesSeen) (o : SinkSeen) (halt : Halt) → JudgesFile network_in file (Err halt) f g
      → CommandsUnread (replay_spec file trace) (Err halt) f g o o
  replay_halted_at_file f g o (halts.Refused refusal) h = λ s. refused_commands (replay_spec file trace) refusal f g s s o
      (wants (Err refusal) f.told s.left (refused refusal) h.0 (each f.told (λ held. refused refusal ≡ refused refusal) (λ held. refl)))
      (inr (inl refl))
      (takes Never f g s (asks_all (replay_spec file trace) Never (file ∷ []) f g (record { rest = trace ∷ []; whole = refl }) tt
      (names_refused refusal f.told h.0) h.1) refl)
  replay_halted_at_file f g o (halts.Failed failures.Fault) h = λ s. files_fault (replay_spec file trace) f g s o
      (takes AtFiles f g s (asks_fault (replay_spec file trace) (file ∷ []) f g (record { rest = trace ∷ []; whole = refl }) h.0
      (each f.told (λ held. IsFrontOf (names_of (replay_spec file trace) held) (file ∷ []))
      (λ held. record { rest = behind held; whole = refl })) h.1) refl)
  replay_halted_at_file f g o (halts.Failed failures.NoMemory) h = λ s. memory_wants (replay_spec file trace) f g s s o
      (takes Elsewhere f g s (asks_front (replay_spec file trace) h.names f g (front_longer (file ∷ []) h.names (trace ∷ []) h.front)
      (each f.told (λ held. IsFrontOf (names_of (replay_spec file trace) held) h.names)
      (λ held. front_longer (file ∷ []) h.names (behind held) h.front)) h.seen) refl)

  module _ (f mid g : FilesSeen) (o p : SinkSeen) (net : Network) (judged : JudgesFile network_in file (Ok net) f mid) where
    -- what is told is told of the files as they were
    of_first : (P : Held → Type 0) → IfSome mid.told P → IfSome f.told P
    of_first P h = subst (λ (files : FilesSeen). IfSome files.told P) judged.1 h

    wants-trace : (read : Result (List (List ℕ)) Refusal) (left : Option (List ℕ)) (output : Output)
        → IfSome mid.told (λ held. IsSomeAnd (file_named held trace) (λ text. trace_in net text ≡ read))
        → output ≡ after read (replayed net)
        → WantedOf (replay_spec file trace) f.told left output
    wants-trace read left output h w = wants (Ok net) f.told left output judged.0
        (of_first (λ held. ReplayWants (Ok net) (file_named held trace) output)
        (each_map mid.told (λ held. IsSomeAnd (file_named held trace) (λ text. trace_in net text ≡ read))
        (λ held. ReplayWants (Ok net) (file_named held trace) output)
        (λ held there. some_map (file_named held trace) (λ text. trace_in net text ≡ read)
        (λ text. output ≡ after (trace_in net text) (replayed net))
        (λ text is. subst (λ (r : Result (List (List ℕ)) Refusal). output ≡ after r (replayed net)) (sym is) w) there) h))

    -- both files were asked for
    asks_both : (stop : Stop) → FailsBy stop (file ∷ trace ∷ []) f → g ≡ files_left_by stop (asked_for trace mid)
        → Asks (replay_spec file trace) stop f g
    asks_both stop fails seen = asks_all (replay_spec file trace) stop (file ∷ trace ∷ []) f g (front_whole (file ∷ trace ∷ [])) fails
        (names_ok net f.told judged.0) (seen ∙ ap (λ (files : FilesSeen). files_left_by stop (asked_for trace files)) judged.1)

    -- the trace was refused, wasn't read, or memory was wanting
    pub replay_halted_at_trace : (halt : Halt) → JudgesFile (trace_in net) trace (Err halt) mid g
        → CommandsUnread (replay_spec file trace) (Err halt) f g o o
    replay_halted_at_trace (halts.Refused refusal) h = λ s. refused_commands (replay_spec file trace) refusal f g s s o
        (wants-trace (Err refusal) s.left (refused refusal) h.0 refl) (inr (inl refl)) (takes Never f g s (asks_both Never tt h.1) refl)
    replay_halted_at_trace (halts.Failed failures.Fault) h = λ s. files_fault (replay_spec file trace) f g s o
        (takes AtFiles f g s (asks_both AtFiles (subst (FailsAt trace) judged.1 h.0) h.1) refl)
    replay_halted_at_trace (halts.Failed failures.NoMemory) h = λ s. memory_wants (replay_spec file trace) f g s s o
        (takes Elsewhere f g s (asks_front (replay_spec file trace) (file ∷ h.names) f g (front_after file (trace ∷ []) h.names h.front)
        (each_map f.told (λ held. names_of (replay_spec file trace) held ≡ file ∷ trace ∷ [])
        (λ held. IsFrontOf (names_of (replay_spec file trace) held) (file ∷ h.names))
        (λ held e. subst (λ (names : List (List ℕ)). IsFrontOf names (file ∷ h.names)) (sym e)
        (front_after file (trace ∷ []) h.names h.front))
        (names_ok net f.told judged.0))
        (h.seen ∙ ap (asked_for_all h.names) judged.1)) refl)

    module _ (lines : List (List ℕ)) (read : JudgesFile (trace_in net) trace (Ok lines) mid g) where
      -- memory was wanting for the line
      pub replay_halted_at_judgement : CommandsUnread (replay_spec file trace) (Err (halts.Failed failures.NoMemory)) f g o o
      replay_halted_at_judgement = λ s. memory_wants (replay_spec file trace) f g s s o
          (takes Elsewhere f g s (asks_both Elsewhere tt read.1) refl)

      module _ (judgement : Judgement) (says : output_of_judgement judgement ≡ replayed net lines) where
        wants_judgement : (left : Option (List ℕ)) → WantedOf (replay_spec file trace) f.told left (output_of_judgement judgement)
        wants_judgement left = wants-trace (Ok lines) left (output_of_judgement judgement) read.0 says

        takes_how : (s : SourceSeen) (how : Option How) → Takes (replay_spec file trace) (stop_at ToOut how) f g s s
        takes_how s None = takes Elsewhere f g s (asks_both Elsewhere tt read.1) refl
        takes_how s (Some how) = takes (At ToOut how) f g s (asks_both (At ToOut how) tt read.1) refl

        -- the line didn't go out whole
        pub replay_halted_at_out : (failure : Failure) → Wrote (ending_of_failure failure) (bytes_of_text judgement.line) o p
            → CommandsUnread (replay_spec file trace) (Err (halts.Failed failure)) f g o p
        replay_halted_at_out failure wrote = λ s. written_cut (replay_spec file trace) failure (bytes_of_text judgement.line) []
            judgement.status f g s s o p wrote (wants_judgement s.left) (takes_how s)

        -- it did
        pub replay_done : (told : Conclusion) → bytes_of_text told.line ≡ [] → told.status ≡ judgement.status
            → p ≡ sent (bytes_of_text judgement.line) o → CommandsUnread (replay_spec file trace) (Ok told) f g o p
        replay_done told line status went = λ s. written_whole (replay_spec file trace) told (bytes_of_text judgement.line)
            f g s s o p went
            (subst (λ (output : Output). WantedOf (replay_spec file trace) f.told s.left output)
            (ap₂ (λ (l : List ℕ) (t : Status). reported (bytes_of_text judgement.line) l t) (sym line) (sym status))
            (wants_judgement s.left))
            (judgement_status told.status own).0 (judgement_status told.status own).1
            (takes Never f g s (asks_both Never tt read.1) refl) (λ _ no. cc)
          where
            own : IsOneOf (statuses.Done ∷ statuses.SaysNo ∷ []) told.status
            own = subst (IsOneOf (statuses.Done ∷ statuses.SaysNo ∷ [])) (sym status)
                (own_status (counts_of lines) (first_wrong net lines) judgement says)

-- the goals

pub returns-in_err-net : goal.returns-in_err-net
returns-in_err-net g c =
    let p = err_from_is_err_and c.from_residual.result c.from_residual.ensures.1 in
    rw (p.1, p.2) (replay_halted_at_file c.args.file.now c.args.trace.now _ _ (g.O.Sink.seen c.args.out.now)
    c.in_err-net.field-0.0 c.in_err-net.ensures.judged)

pub returns-in_err-trace : goal.returns-in_err-trace
returns-in_err-trace g c =
    let p = err_from_is_err_and c.from_residual-in_err-trace.result c.from_residual-in_err-trace.ensures.1 in
    rw (p.1, p.2) (replay_halted_at_trace c.args.file.now c.args.trace.now _ _ _
    (g.O.Sink.seen c.args.out.now) (g.O.Sink.seen c.args.out.now)
    c.in_ok-net.net c.in_ok-net.ensures.judged c.in_err-trace.field-0.0 c.in_err-trace.ensures.judged)

pub returns-in_err-judgement : goal.returns-in_err-judgement
returns-in_err-judgement g c =
    let p = err_from_is_err_and c.from_residual-in_err-judgement.result c.from_residual-in_err-judgement.ensures.1 in
    rw (p.1, p.2) (replay_halted_at_judgement c.args.file.now c.args.trace.now _ _ _
    (g.O.Sink.seen c.args.out.now) (g.O.Sink.seen c.args.out.now)
    c.in_ok-net.net c.in_ok-net.ensures.judged c.in_ok-trace.trace c.in_ok-trace.ensures.judged)

pub returns-in_err-write_all : goal.returns-in_err-write_all
returns-in_err-write_all g c =
    let p = err_from_is_err_and c.from_residual-in_err-write_all.result c.from_residual-in_err-write_all.ensures.1 in
    rw (p.1, p.2) (replay_halted_at_out c.args.file.now c.args.trace.now _ _ _ _ _
    c.in_ok-net.net c.in_ok-net.ensures.judged c.in_ok-trace.trace c.in_ok-trace.ensures.judged
    c.in_ok-judgement.judgement c.in_ok-judgement.ensures c.in_err-write_all.field-0.0
    (rw c.as_bytes.ensures at c.in_err-write_all.ensures.wrote))

pub returns : goal.returns
returns g c =
    replay_done c.args.file.now c.args.trace.now _ _ _ _ _
    c.in_ok-net.net c.in_ok-net.ensures.judged c.in_ok-trace.trace c.in_ok-trace.ensures.judged
    c.in_ok-judgement.judgement c.in_ok-judgement.ensures _ refl refl
    (rw c.as_bytes.ensures at c.in_ok-write_all.ensures.wrote)
