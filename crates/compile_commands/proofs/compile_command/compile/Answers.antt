-- What `compile` leaves, by where it ends.
use Rattle.std.proofs.Common.{◌≡◌, inl, inr, ℕ, true, false, List, [], ◌∷◌, Option, None, Some, IfSome, Result, Ok, Err, refl, sym, ap, ◌∙◌, subst}
use Rattle.std.specs.Prelude.{IsSomeAnd, if◌then◌else◌}
use Rattle.srx_edge.specs.Edge.{file_named}
use Rattle.srx_edge.specs.FilesRead.{FilesSeen, FailsAt, asked_for}
use Rattle.srx_edge.specs.Sources.{SourceSeen}
use Rattle.srx_edge.specs.Sinks.{SinkSeen, sent}
use Rattle.srx_edge.specs.CallSteps.{Whole, How}
use Rattle.srx_edge.specs.CallStepsTerms.{Wrote}
use Rattle.net_model.specs.Network.{Network}
use Rattle.intent_reader.specs.declared.intent.Intent.{Intent}
use Rattle.compile_commands.specs.declared.compile_command.Answer.{Answer}
use Rattle.command_output.specs.declared.halt.Failure.{Failure}
use Rattle.command_output.specs.declared.halt.Failure.TheVariants as failures
use Rattle.command_output.specs.declared.halt.Halt.{Halt}
use Rattle.command_output.specs.declared.halt.Halt.TheVariants as halts
use Rattle.command_output.specs.declared.refusal.Refusal.{Refusal}
use Rattle.command_output.specs.declared.status.Status.{Status}
use Rattle.command_output.specs.declared.status.Status.TheVariants as statuses
use Rattle.command_output.specs.CommandAnswers.{ending_of_failure, JudgesFile, CommandsUnread}
use Rattle.compile_commands.specs.CompileCommand.{AnswerWants, IntentWants, NetworkWants, compile_spec}
use Rattle.compile_commands.specs.CompileCommandTerms.{output_of_answer, GivesOf}
use Rattle.command_inputs.specs.Judgements.{network_in, intent_in, asks_behind_network}
use Rattle.command_output.specs.Outputs.{refused}
use Rattle.command_output.specs.OutputLinesTerms.{bytes_of_text}
use Rattle.command_output.specs.Outside.{FailsBy, IsFrontOf, Asks, asked_for_all, files_left_by}
use Rattle.command_output.specs.OutputPieces.{Output, Stop, Never, AtFiles, At, Elsewhere, ToOut}
use Rattle.command_output.specs.OutputPiecesTerms.{stop_at}
use Rattle.command_output.specs.Endings.{ending_of_status, Takes}
use Rattle.command_output.specs.CommandSpec.{Held, goes_on_with, names_of, WantedOf, IsOneOf}
use Rattle.command_output.proofs.PublicLaws.{each, each_map, some_map, front_whole, front_longer, front_after, asks_all, asks_fault, asks_front, is_at_input, reads_its_none, reads_nothing, refused_commands, files_fault, memory_wants, written_whole, written_cut}
use Rattle.std.proofs.lemmas.Result.{err_from_is_err_and}
use Rattle.compile_commands.proofs.compile_command.compile.Goals as goal

-- the names that are asked for, by the judgement of the description

goes_on_ok : (net : Network) (o : Option (List ℕ)) → IsSomeAnd o (λ text. network_in text ≡ Ok net)
    → goes_on_with asks_behind_network [] o ≡ true
goes_on_ok net None h = absurd h
goes_on_ok net (Some text) h = rw h refl

goes_on_refused : (refusal : Refusal) (o : Option (List ℕ)) → IsSomeAnd o (λ text. network_in text ≡ Err refusal)
    → goes_on_with asks_behind_network [] o ≡ false
goes_on_refused refusal None h = absurd h
goes_on_refused refusal (Some text) h = rw h refl

-- an answer's status is one of a whole call, and one of the command's
answer_status : (status : Status) → IsOneOf (statuses.Done ∷ statuses.NoAnswer ∷ []) status
    → (ending_of_status status ≡ Whole) × IsOneOf (statuses.Done ∷ statuses.Refused ∷ statuses.NoAnswer ∷ []) status
answer_status status (inl e) = (ap ending_of_status e, inl e)
answer_status status (inr (inl e)) = (ap ending_of_status e, inr (inr (inl e)))
answer_status status (inr (inr none)) = absurd none

module _ (file intent : List ℕ) where
  names_ok : (net : Network) (told : Option Held)
      → IfSome told (λ held. IsSomeAnd (file_named held file) (λ text. network_in text ≡ Ok net))
      → IfSome told (λ held. names_of (compile_spec file intent) held ≡ file ∷ intent ∷ [])
  names_ok net told h = each_map told (λ held. IsSomeAnd (file_named held file) (λ text. network_in text ≡ Ok net))
      (λ held. names_of (compile_spec file intent) held ≡ file ∷ intent ∷ [])
      (λ held h. rw (goes_on_ok net (file_named held file) h) refl) h

  names_refused : (refusal : Refusal) (told : Option Held)
      → IfSome told (λ held. IsSomeAnd (file_named held file) (λ text. network_in text ≡ Err refusal))
      → IfSome told (λ held. names_of (compile_spec file intent) held ≡ file ∷ [])
  names_refused refusal told h = each_map told (λ held. IsSomeAnd (file_named held file) (λ text. network_in text ≡ Err refusal))
      (λ held. names_of (compile_spec file intent) held ≡ file ∷ [])
      (λ held h. rw (goes_on_refused refusal (file_named held file) h) refl) h

  -- what is asked for after the description
  abbrev behind : Held → List (List ℕ)
  behind held = if goes_on_with asks_behind_network [] (file_named held file) then intent ∷ [] else []

  -- an output that is wanted of the description's judgement
  wants : (judged : Result Network Refusal) (told : Option Held) (left : Option (List ℕ)) (output : Output)
      → IfSome told (λ held. IsSomeAnd (file_named held file) (λ text. network_in text ≡ judged))
      → IfSome told (λ held. NetworkWants AnswerWants judged (file_named held intent) output)
      → WantedOf (compile_spec file intent) told left output
  wants judged None left output h w = tt
  wants judged (Some held) left output h w = some_map (file_named held file) (λ text. network_in text ≡ judged)
      (λ text. NetworkWants AnswerWants (network_in text) (file_named held intent) output)
      (λ text is. subst (λ (j : Result Network Refusal). NetworkWants AnswerWants j (file_named held intent) output) (sym is) w) h

  takes : (stop : Stop) (f g : FilesSeen) (s : SourceSeen) → Asks (compile_spec file intent) stop f g → is_at_input stop ≡ false
      → Takes (compile_spec file intent) stop f g s s
  takes stop f g s asks other = record {
    asks = asks;
    reads = reads_nothing stop s other;
    unread = each f.told (λ held. Unit {0} → s ≡ s) (λ held _. refl);
    reads_none = λ _. refl;
    reads_its = reads_its_none (compile_spec file intent) f.told stop s s refl;
  }

  -- the description was refused, wasn't read, or memory was wanting
  pub compile_halted_at_file : (f g : FilesSeen) (o : SinkSeen) (halt : Halt) → JudgesFile network_in file (Err halt) f g
      → CommandsUnread (compile_spec file intent) (Err halt) f g o o
  compile_halted_at_file f g o (halts.Refused refusal) h = λ s. refused_commands (compile_spec file intent) refusal f g s s o
      (wants (Err refusal) f.told s.left (refused refusal) h.0 (each f.told (λ held. refused refusal ≡ refused refusal) (λ held. refl)))
      (inr (inl refl))
      (takes Never f g s (asks_all (compile_spec file intent) Never (file ∷ []) f g (record { rest = intent ∷ []; whole = refl }) tt
      (names_refused refusal f.told h.0) h.1) refl)
  compile_halted_at_file f g o (halts.Failed failures.Fault) h = λ s. files_fault (compile_spec file intent) f g s o
      (takes AtFiles f g s (asks_fault (compile_spec file intent) (file ∷ []) f g (record { rest = intent ∷ []; whole = refl }) h.0
      (each f.told (λ held. IsFrontOf (names_of (compile_spec file intent) held) (file ∷ []))
      (λ held. record { rest = behind held; whole = refl })) h.1) refl)
  compile_halted_at_file f g o (halts.Failed failures.NoMemory) h = λ s. memory_wants (compile_spec file intent) f g s s o
      (takes Elsewhere f g s (asks_front (compile_spec file intent) h.names f g (front_longer (file ∷ []) h.names (intent ∷ []) h.front)
      (each f.told (λ held. IsFrontOf (names_of (compile_spec file intent) held) h.names)
      (λ held. front_longer (file ∷ []) h.names (behind held) h.front)) h.seen) refl)

  module _ (f mid g : FilesSeen) (o p : SinkSeen) (net : Network) (judged : JudgesFile network_in file (Ok net) f mid) where
    -- what is told is told of the files as they were
    of_first : (P : Held → Type 0) → IfSome mid.told P → IfSome f.told P
    of_first P h = subst (λ (files : FilesSeen). IfSome files.told P) judged.1 h

    wants_intent : (read : Result Intent Refusal) (left : Option (List ℕ)) (output : Output)
        → IfSome mid.told (λ held. IsSomeAnd (file_named held intent) (λ text. intent_in net text ≡ read))
        → IntentWants AnswerWants net read output
        → WantedOf (compile_spec file intent) f.told left output
    wants_intent read left output h w = wants (Ok net) f.told left output judged.0
        (of_first (λ held. NetworkWants AnswerWants (Ok net) (file_named held intent) output)
        (each_map mid.told (λ held. IsSomeAnd (file_named held intent) (λ text. intent_in net text ≡ read))
        (λ held. NetworkWants AnswerWants (Ok net) (file_named held intent) output)
        (λ held there. some_map (file_named held intent) (λ text. intent_in net text ≡ read)
        (λ text. IntentWants AnswerWants net (intent_in net text) output)
        (λ text is. subst (λ (r : Result Intent Refusal). IntentWants AnswerWants net r output) (sym is) w) there) h))

    -- both files were asked for
    asks_both : (stop : Stop) → FailsBy stop (file ∷ intent ∷ []) f → g ≡ files_left_by stop (asked_for intent mid)
        → Asks (compile_spec file intent) stop f g
    asks_both stop fails seen = asks_all (compile_spec file intent) stop (file ∷ intent ∷ []) f g (front_whole (file ∷ intent ∷ [])) fails
        (names_ok net f.told judged.0) (seen ∙ ap (λ (files : FilesSeen). files_left_by stop (asked_for intent files)) judged.1)

    -- the intent was refused, wasn't read, or memory was wanting
    pub compile_halted_at_intent : (halt : Halt) → JudgesFile (intent_in net) intent (Err halt) mid g
        → CommandsUnread (compile_spec file intent) (Err halt) f g o o
    compile_halted_at_intent (halts.Refused refusal) h = λ s. refused_commands (compile_spec file intent) refusal f g s s o
        (wants_intent (Err refusal) s.left (refused refusal) h.0 refl) (inr (inl refl)) (takes Never f g s (asks_both Never tt h.1) refl)
    compile_halted_at_intent (halts.Failed failures.Fault) h = λ s. files_fault (compile_spec file intent) f g s o
        (takes AtFiles f g s (asks_both AtFiles (subst (FailsAt intent) judged.1 h.0) h.1) refl)
    compile_halted_at_intent (halts.Failed failures.NoMemory) h = λ s. memory_wants (compile_spec file intent) f g s s o
        (takes Elsewhere f g s (asks_front (compile_spec file intent) (file ∷ h.names) f g (front_after file (intent ∷ []) h.names h.front)
        (each_map f.told (λ held. names_of (compile_spec file intent) held ≡ file ∷ intent ∷ [])
        (λ held. IsFrontOf (names_of (compile_spec file intent) held) (file ∷ h.names))
        (λ held e. subst (λ (names : List (List ℕ)). IsFrontOf names (file ∷ h.names)) (sym e)
        (front_after file (intent ∷ []) h.names h.front))
        (names_ok net f.told judged.0))
        (h.seen ∙ ap (asked_for_all h.names) judged.1)) refl)

    module _ (value : Intent) (read : JudgesFile (intent_in net) intent (Ok value) mid g) where
      wants_answer : (left : Option (List ℕ)) (output : Output) → IntentWants AnswerWants net (Ok value) output
          → WantedOf (compile_spec file intent) f.told left output
      wants_answer left output w = wants_intent (Ok value) left output read.0 w

      -- the network isn't flat, or memory was wanting
      pub compile_halted_at_answer : (halt : Halt) → GivesOf net value (Err halt)
          → CommandsUnread (compile_spec file intent) (Err halt) f g o o
      compile_halted_at_answer (halts.Refused refusal) h = λ s. refused_commands (compile_spec file intent) refusal f g s s o
          (wants_answer s.left (refused refusal) h) (inr (inl refl)) (takes Never f g s (asks_both Never tt read.1) refl)
      compile_halted_at_answer (halts.Failed failures.Fault) h = absurd h
      compile_halted_at_answer (halts.Failed failures.NoMemory) h = λ s. memory_wants (compile_spec file intent) f g s s o
          (takes Elsewhere f g s (asks_both Elsewhere tt read.1) refl)

      module _ (answer : Answer) (gives : GivesOf net value (Ok answer)) where
        takes_how : (s : SourceSeen) (how : Option How) → Takes (compile_spec file intent) (stop_at ToOut how) f g s s
        takes_how s None = takes Elsewhere f g s (asks_both Elsewhere tt read.1) refl
        takes_how s (Some how) = takes (At ToOut how) f g s (asks_both (At ToOut how) tt read.1) refl

        -- the report didn't go out whole
        pub compile_halted_at_out : (failure : Failure) → Wrote (ending_of_failure failure) (bytes_of_text answer.report) o p
            → CommandsUnread (compile_spec file intent) (Err (halts.Failed failure)) f g o p
        compile_halted_at_out failure wrote = λ s. written_cut (compile_spec file intent) failure
            (bytes_of_text answer.report) (bytes_of_text answer.told.line)
            answer.told.status f g s s o p wrote (wants_answer s.left (output_of_answer answer) gives.0) (takes_how s)

        -- it did
        pub compile_done : p ≡ sent (bytes_of_text answer.report) o → CommandsUnread (compile_spec file intent) (Ok answer.told) f g o p
        compile_done went = λ s. written_whole (compile_spec file intent) answer.told (bytes_of_text answer.report) f g s s o p went
            (wants_answer s.left (output_of_answer answer) gives.0)
            (answer_status answer.told.status gives.1).0 (answer_status answer.told.status gives.1).1
            (takes Never f g s (asks_both Never tt read.1) refl) (λ _ no. cc)

-- the goals

pub returns-in_err-net : goal.returns-in_err-net
returns-in_err-net g c =
    let p = err_from_is_err_and c.from_residual.result c.from_residual.ensures.1 in
    rw (p.1, p.2) (compile_halted_at_file c.args.file.now c.args.intent.now _ _ (g.O.Sink.seen c.args.out.now)
    c.in_err-net.field-0.0 c.in_err-net.ensures.judged)

pub returns-in_err-intent : goal.returns-in_err-intent
returns-in_err-intent g c =
    let p = err_from_is_err_and c.from_residual-in_err-intent.result c.from_residual-in_err-intent.ensures.1 in
    rw (p.1, p.2) (compile_halted_at_intent c.args.file.now c.args.intent.now _ _ _
    (g.O.Sink.seen c.args.out.now) (g.O.Sink.seen c.args.out.now)
    c.in_ok-net.net c.in_ok-net.ensures.judged c.in_err-intent.field-0.0 c.in_err-intent.ensures.judged)

pub returns-in_err-answer : goal.returns-in_err-answer
returns-in_err-answer g c =
    let p = err_from_is_err_and c.from_residual-in_err-answer.result c.from_residual-in_err-answer.ensures.1 in
    rw (p.1, p.2) (compile_halted_at_answer c.args.file.now c.args.intent.now _ _ _
    (g.O.Sink.seen c.args.out.now) (g.O.Sink.seen c.args.out.now)
    c.in_ok-net.net c.in_ok-net.ensures.judged c.in_ok-intent.intent c.in_ok-intent.ensures.judged
    c.in_err-answer.field-0.0 c.in_err-answer.ensures)

pub returns-in_err-write_all : goal.returns-in_err-write_all
returns-in_err-write_all g c =
    let p = err_from_is_err_and c.from_residual-in_err-write_all.result c.from_residual-in_err-write_all.ensures.1 in
    rw (p.1, p.2) (compile_halted_at_out c.args.file.now c.args.intent.now _ _ _ _ _
    c.in_ok-net.net c.in_ok-net.ensures.judged c.in_ok-intent.intent c.in_ok-intent.ensures.judged
    c.in_ok-answer.answer c.in_ok-answer.ensures c.in_err-write_all.field-0.0
    (rw c.as_bytes.ensures at c.in_err-write_all.ensures.wrote))

pub returns : goal.returns
returns g c =
    compile_done c.args.file.now c.args.intent.now _ _ _ _ _
    c.in_ok-net.net c.in_ok-net.ensures.judged c.in_ok-intent.intent c.in_ok-intent.ensures.judged
    c.in_ok-answer.answer c.in_ok-answer.ensures (rw c.as_bytes.ensures at c.in_ok-write_all.ensures.wrote)
