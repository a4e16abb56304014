-- What `walk` leaves, by where it ends.
use Rattle.std.proofs.Common.{◌≡◌, inl, inr, ℕ, true, false, List, [], ◌∷◌, Option, None, Some, IfSome, Result, Ok, Err, refl, sym, ap, ◌∙◌, subst, ◌<◌, ◌^◌, length}
use Rattle.std.specs.Prelude.{IsSomeAnd, if◌then◌else◌}
use Rattle.srx_edge.specs.Edge.{file_named}
use Rattle.srx_edge.specs.FilesRead.{FilesSeen, FailsAt, asked_for}
use Rattle.srx_edge.specs.Sources.{SourceSeen}
use Rattle.srx_edge.specs.Sinks.{SinkSeen}
use Rattle.srx_edge.specs.CallSteps.{How}
use Rattle.net_model.specs.Network.{Network}
use Rattle.net_model.specs.NetworkRulesTerms.{IsNetwork}
use Rattle.intent_reader.specs.declared.intent.Intent.{Intent}
use Rattle.walk_commands.specs.declared.headend.Headend.{Headend}
use Rattle.walk_commands.specs.declared.opening.Opening.TheVariants as starts
use Rattle.command_output.specs.declared.halt.Failure.{Failure}
use Rattle.command_output.specs.declared.halt.Failure.TheVariants as failures
use Rattle.command_output.specs.declared.halt.Halt.{Halt}
use Rattle.command_output.specs.declared.halt.Halt.TheVariants as halts
use Rattle.command_inputs.specs.declared.input_packets.Packets.{Packets}
use Rattle.command_output.specs.declared.refusal.Refusal.{Refusal}
use Rattle.command_output.specs.declared.status.Status.TheVariants as statuses
use Rattle.command_output.specs.declared.conclusion.Text.{Text}
use Rattle.command_output.specs.declared.conclusion.Conclusion.{Conclusion}
use Rattle.command_output.specs.CommandAnswers.{ending_of_failure, JudgesFile, JudgesInput, Commands}
use Rattle.compile_commands.specs.CompileCommand.{CompiledWants, IntentWants, NetworkWants}
use Rattle.walk_commands.specs.WalkCommand.{WalkWants, HasList, HasListIn, ReadsInput, no_list, walk_pieces, walk_output, walked, walk_spec}
use Rattle.walk_commands.specs.WalkCommandTerms.{StartsAs}
use Rattle.command_inputs.specs.Judgements.{network_in, intent_in, asks_behind_network}
use Rattle.command_output.specs.Outputs.{refused, ended_by}
use Rattle.command_output.specs.OutputLines.{refusal_line}
use Rattle.command_output.specs.OutputLinesTerms.{bytes_of_text}
use Rattle.command_output.specs.Outside.{outside, FailsBy, IsFrontOf, Asks, Reads, ReadsAs, ReadsWhole, asked_for_all, files_left_by}
use Rattle.command_inputs.specs.InputPackets.{packets_in, reading_of, fault_of}
use Rattle.command_output.specs.GatheredTerms.{WroteInGroups}
use Rattle.command_output.specs.OutputPieces.{Piece, Output, Which, Stop, Never, AtFiles, AtInput, At, Elsewhere, gone}
use Rattle.command_output.specs.OutputPiecesTerms.{sinks_of, stop_at}
use Rattle.command_output.specs.Endings.{Takes, ReadsIts}
use Rattle.command_output.specs.CommandSpec.{Held, goes_on_with, names_of, WantedOf}
use Rattle.command_output.proofs.PublicLaws.{each, each_map, some_map, front_whole, front_longer, front_after, asks_all, asks_fault, asks_front, is_at_input, reads_its_early, reads_its_whole, reads_nothing, refused_commands, files_fault, input_fault, memory_wants, pieces_whole, pieces_refused, pieces_cut}
use Rattle.walk_commands.proofs.WalkKeeping.{walks_keep}
use Rattle.walk_commands.proofs.NoList.{no_list_of_file, no_list_of_intent, none_has_list}

-- the names that are asked for, by the judgement of the description

goes_on_ok : (net : Network) (o : Option (List ℕ)) → IsSomeAnd o (λ text. network_in text ≡ Ok net)
    → goes_on_with asks_behind_network [] o ≡ true
goes_on_ok net None h = absurd h
goes_on_ok net (Some text) h = rw h refl

goes_on_refused : (refusal : Refusal) (o : Option (List ℕ)) → IsSomeAnd o (λ text. network_in text ≡ Err refusal)
    → goes_on_with asks_behind_network [] o ≡ false
goes_on_refused refusal None h = absurd h
goes_on_refused refusal (Some text) h = rw h refl

-- of any input
any_input : (left : Option (List ℕ)) → IfSome left (λ input. Unit {0})
any_input None = tt
any_input (Some input) = tt

module _ (file intent choices schedule : List ℕ) where
  abbrev DescriptionIs : Result Network Refusal → Held → Type 0
  DescriptionIs judged held = IsSomeAnd (file_named held file) (λ text. network_in text ≡ judged)

  abbrev IntentIs : Network → Result Intent Refusal → Held → Type 0
  IntentIs net read held = IsSomeAnd (file_named held intent) (λ text. intent_in net text ≡ read)

  names_ok : (net : Network) (told : Option Held) → IfSome told (DescriptionIs (Ok net))
      → IfSome told (λ held. names_of (walk_spec file intent choices schedule) held ≡ file ∷ intent ∷ [])
  names_ok net told h = each_map told (DescriptionIs (Ok net))
      (λ held. names_of (walk_spec file intent choices schedule) held ≡ file ∷ intent ∷ [])
      (λ held h. rw (goes_on_ok net (file_named held file) h) refl) h

  names_refused : (refusal : Refusal) (told : Option Held) → IfSome told (DescriptionIs (Err refusal))
      → IfSome told (λ held. names_of (walk_spec file intent choices schedule) held ≡ file ∷ [])
  names_refused refusal told h = each_map told (DescriptionIs (Err refusal))
      (λ held. names_of (walk_spec file intent choices schedule) held ≡ file ∷ [])
      (λ held h. rw (goes_on_refused refusal (file_named held file) h) refl) h

  -- what is asked for after the description
  abbrev behind : Held → List (List ℕ)
  behind held = if goes_on_with asks_behind_network [] (file_named held file) then intent ∷ [] else []

  -- an output that is wanted of the description's judgement, and of the input
  wants : (judged : Result Network Refusal) (Q : List ℕ → Type 0) (told : Option Held) (left : Option (List ℕ)) (output : Output)
      → IfSome told (DescriptionIs judged) → IfSome left Q
      → IfSome told (λ held. (input : List ℕ) → Q input
      → NetworkWants (WalkWants choices schedule input) judged (file_named held intent) output)
      → WantedOf (walk_spec file intent choices schedule) told left output
  wants judged Q None left output h q w = tt
  wants judged Q (Some held) None output h q w = tt
  wants judged Q (Some held) (Some input) output h q w = some_map (file_named held file) (λ text. network_in text ≡ judged)
      (λ text. NetworkWants (WalkWants choices schedule input) (network_in text) (file_named held intent) output)
      (λ text is. subst (λ (j : Result Network Refusal). NetworkWants (WalkWants choices schedule input) j
      (file_named held intent) output) (sym is)
      (w input q)) h

  -- the input as it was
  takes_unread : (stop : Stop) (f g : FilesSeen) (s : SourceSeen) → Asks (walk_spec file intent choices schedule) stop f g
      → is_at_input stop ≡ false → ReadsIts (walk_spec file intent choices schedule) f.told stop s s
      → Takes (walk_spec file intent choices schedule) stop f g s s
  takes_unread stop f g s asks other its = record {
    asks = asks;
    reads = reads_nothing stop s other;
    unread = each f.told (λ held. (¬ ReadsInput file intent held) → s ≡ s) (λ held _. refl);
    reads_none = λ _. refl;
    reads_its = its;
  }

  -- the call ended before the input, of which what is told says so; or it stopped before that

  unread_early : (told : Option Held) (s : SourceSeen) → IfSome told (λ held. ¬ ReadsInput file intent held)
      → ReadsIts (walk_spec file intent choices schedule) told Never s s
  unread_early told s early = reads_its_early (walk_spec file intent choices schedule) told Never s s refl early

  unread_files : (told : Option Held) (s : SourceSeen) → ReadsIts (walk_spec file intent choices schedule) told AtFiles s s
  unread_files told s = reads_its_whole (walk_spec file intent choices schedule) told AtFiles s s tt

  unread_memory : (told : Option Held) (s : SourceSeen) → ReadsIts (walk_spec file intent choices schedule) told Elsewhere s s
  unread_memory told s = reads_its_whole (walk_spec file intent choices schedule) told Elsewhere s s tt

  refused_early : (refusal : Refusal) (told : Option Held) → IfSome told (DescriptionIs (Err refusal))
      → IfSome told (λ held. ¬ ReadsInput file intent held)
  refused_early refusal told h = each_map told (DescriptionIs (Err refusal)) (λ held. ¬ ReadsInput file intent held)
      (λ held is. no_list_of_file refusal (file_named held file) (file_named held intent) is) h

  listless_early : (net : Network) (read : Result Intent Refusal) (told : Option Held) → (¬ HasList net read)
      → IfSome told (DescriptionIs (Ok net)) → IfSome told (IntentIs net read) → IfSome told (λ held. ¬ ReadsInput file intent held)
  listless_early net read None none is i = tt
  listless_early net read (Some held) none is i =
      no_list_of_intent net read (file_named held file) (file_named held intent) none is i

  -- the description was refused, wasn't read, or memory was wanting
  pub walk_halted_at_file : (f g : FilesSeen) (s : SourceSeen) (o e : SinkSeen) (halt : Halt) → JudgesFile network_in file (Err halt) f g
      → Commands (walk_spec file intent choices schedule) (Err halt) (outside f s o e) (outside g s o e)
  walk_halted_at_file f g s o e (halts.Refused refusal) h = refused_commands (walk_spec file intent choices schedule) refusal f g s s o
      (wants (Err refusal) (λ input. Unit {0}) f.told s.left (refused refusal) h.0 (any_input s.left)
      (each f.told (λ held. (input : List ℕ) → Unit {0} → refused refusal ≡ refused refusal) (λ held input _. refl)))
      (inr (inl refl))
      (takes_unread Never f g s (asks_all (walk_spec file intent choices schedule) Never (file ∷ []) f g
      (record { rest = intent ∷ []; whole = refl }) tt (names_refused refusal f.told h.0) h.1) refl
      (unread_early f.told s (refused_early refusal f.told h.0))) e
  walk_halted_at_file f g s o e (halts.Failed failures.Fault) h = files_fault (walk_spec file intent choices schedule) f g s o
      (takes_unread AtFiles f g s (asks_fault (walk_spec file intent choices schedule) (file ∷ []) f g
      (record { rest = intent ∷ []; whole = refl }) h.0
      (each f.told (λ held. IsFrontOf (names_of (walk_spec file intent choices schedule) held) (file ∷ []))
      (λ held. record { rest = behind held; whole = refl })) h.1) refl (unread_files f.told s)) e
  walk_halted_at_file f g s o e (halts.Failed failures.NoMemory) h = memory_wants (walk_spec file intent choices schedule) f g s s o
      (takes_unread Elsewhere f g s (asks_front (walk_spec file intent choices schedule) h.names f g
      (front_longer (file ∷ []) h.names (intent ∷ []) h.front)
      (each f.told (λ held. IsFrontOf (names_of (walk_spec file intent choices schedule) held) h.names)
      (λ held. front_longer (file ∷ []) h.names (behind held) h.front)) h.seen) refl (unread_memory f.told s)) e

  module _ (f mid g : FilesSeen) (s t : SourceSeen) (o e : SinkSeen) (net : Network)
      (judged : JudgesFile network_in file (Ok net) f mid) where
    -- what is told is told of the files as they were
    of_first : (P : Held → Type 0) → IfSome mid.told P → IfSome f.told P
    of_first P h = subst (λ (files : FilesSeen). IfSome files.told P) judged.1 h

    wants_intent : (read : Result Intent Refusal) (Q : List ℕ → Type 0) (output : Output)
        → IfSome mid.told (IntentIs net read) → IfSome s.left Q
        → ((input : List ℕ) → Q input → IntentWants (WalkWants choices schedule input) net read output)
        → WantedOf (walk_spec file intent choices schedule) f.told s.left output
    wants_intent read Q output h q w = wants (Ok net) Q f.told s.left output judged.0 q
        (of_first (λ held. (input : List ℕ) → Q input
        → NetworkWants (WalkWants choices schedule input) (Ok net) (file_named held intent) output)
        (each_map mid.told (IntentIs net read)
        (λ held. (input : List ℕ) → Q input → NetworkWants (WalkWants choices schedule input) (Ok net) (file_named held intent) output)
        (λ held there input q. some_map (file_named held intent) (λ text. intent_in net text ≡ read)
        (λ text. IntentWants (WalkWants choices schedule input) net (intent_in net text) output)
        (λ text is. subst (λ (r : Result Intent Refusal). IntentWants (WalkWants choices schedule input) net r output) (sym is)
        (w input q)) there) h))

    -- both files were asked for
    asks_both : (stop : Stop) → FailsBy stop (file ∷ intent ∷ []) f → g ≡ files_left_by stop (asked_for intent mid)
        → Asks (walk_spec file intent choices schedule) stop f g
    asks_both stop fails seen =
        asks_all (walk_spec file intent choices schedule) stop (file ∷ intent ∷ []) f g (front_whole (file ∷ intent ∷ [])) fails
        (names_ok net f.told judged.0) (seen ∙ ap (λ (files : FilesSeen). files_left_by stop (asked_for intent files)) judged.1)

    -- the intent was refused, wasn't read, or memory was wanting
    pub walk_halted_at_intent : (halt : Halt) → JudgesFile (intent_in net) intent (Err halt) mid g
        → Commands (walk_spec file intent choices schedule) (Err halt) (outside f s o e) (outside g s o e)
    walk_halted_at_intent (halts.Refused refusal) h = refused_commands (walk_spec file intent choices schedule) refusal f g s s o
        (wants_intent (Err refusal) (λ input. Unit {0}) (refused refusal) h.0 (any_input s.left) (λ input _. refl))
        (inr (inl refl)) (takes_unread Never f g s (asks_both Never tt h.1) refl
        (unread_early f.told s (listless_early net (Err refusal) f.told (λ none. none) judged.0
        (of_first (IntentIs net (Err refusal)) h.0)))) e
    walk_halted_at_intent (halts.Failed failures.Fault) h = files_fault (walk_spec file intent choices schedule) f g s o
        (takes_unread AtFiles f g s (asks_both AtFiles (subst (FailsAt intent) judged.1 h.0) h.1) refl (unread_files f.told s)) e
    walk_halted_at_intent (halts.Failed failures.NoMemory) h = memory_wants (walk_spec file intent choices schedule) f g s s o
        (takes_unread Elsewhere f g s (asks_front (walk_spec file intent choices schedule) (file ∷ h.names) f g
        (front_after file (intent ∷ []) h.names h.front)
        (each_map f.told (λ held. names_of (walk_spec file intent choices schedule) held ≡ file ∷ intent ∷ [])
        (λ held. IsFrontOf (names_of (walk_spec file intent choices schedule) held) (file ∷ h.names))
        (λ held is. subst (λ (names : List (List ℕ)). IsFrontOf names (file ∷ h.names)) (sym is)
        (front_after file (intent ∷ []) h.names h.front))
        (names_ok net f.told judged.0))
        (h.seen ∙ ap (asked_for_all h.names) judged.1)) refl (unread_memory f.told s)) e

    module _ (value : Intent) (read : JudgesFile (intent_in net) intent (Ok value) mid g) where
      wants_answer : (Q : List ℕ → Type 0) (output : Output) → IfSome s.left Q
          → ((input : List ℕ) → Q input → CompiledWants (WalkWants choices schedule input) net value output)
          → WantedOf (walk_spec file intent choices schedule) f.told s.left output
      wants_answer Q output q w = wants_intent (Ok value) Q output read.0 q w

      early_intent : (¬ HasList net (Ok value)) → IfSome f.told (λ held. ¬ ReadsInput file intent held)
      early_intent none = listless_early net (Ok value) f.told none judged.0 (of_first (IntentIs net (Ok value)) read.0)

      -- the network isn't flat, or memory was wanting
      pub walk_halted_at_start : (halt : Halt) → StartsAs net value (Err halt)
          → Commands (walk_spec file intent choices schedule) (Err halt) (outside f s o e) (outside g s o e)
      walk_halted_at_start (halts.Refused refusal) h = refused_commands (walk_spec file intent choices schedule) refusal f g s s o
          (wants_answer (λ input. Unit {0}) (refused refusal) (any_input s.left) (λ input _. (Err h.0, h.1, h.2, h.3)))
          (inr (inl refl)) (takes_unread Never f g s (asks_both Never tt read.1) refl
          (unread_early f.told s (early_intent (none_has_list net value (refused refusal) h)))) e
      walk_halted_at_start (halts.Failed failures.Fault) h = absurd h
      walk_halted_at_start (halts.Failed failures.NoMemory) h = memory_wants (walk_spec file intent choices schedule) f g s s o
          (takes_unread Elsewhere f g s (asks_both Elsewhere tt read.1) refl (unread_memory f.told s)) e

      -- there is no list
      pub walk_without_list : (line : Text) (told : Conclusion) → StartsAs net value (Ok (starts.NoList line))
          → told.line ≡ line → told.status ≡ statuses.NoAnswer
          → Commands (walk_spec file intent choices schedule) (Ok told) (outside f s o e) (outside g s o e)
      walk_without_list line told h is status =
          pieces_whole (walk_spec file intent choices schedule) [] (outside f s o e) (outside g s o e) told refl
          (rw (is, status) (wants_answer (λ input. Unit {0}) (no_list (bytes_of_text line)) (any_input s.left)
          (λ input _. (Err h.0, h.1, h.2, h.3))))
          (rw status refl) (inr (inr (inl status))) (takes_unread Never f g s (asks_both Never tt read.1) refl
          (unread_early f.told s (early_intent (none_has_list net value (no_list (bytes_of_text line)) h))))
          (λ done. cc (sym status ∙ done))

      module _ (headend : Headend) (begins : StartsAs net value (Ok (starts.List headend))) (network : IsNetwork net)
          (byte : value.hop_limit < 2 ^ 8) (some : 0 < length choices) where
        -- so the input is read
        has_list : (told : Option Held) → IfSome told (DescriptionIs (Ok net)) → IfSome told (IntentIs net (Ok value))
            → IfSome told (ReadsInput file intent)
        has_list None h r = tt
        has_list (Some held) h r = some_map (file_named held file) (λ text. network_in text ≡ Ok net)
            (λ text. HasListIn (network_in text) (file_named held intent))
            (λ text is. subst (λ (j : Result Network Refusal). HasListIn j (file_named held intent)) (sym is)
            (some_map (file_named held intent) (λ text. intent_in net text ≡ Ok value) (λ text. HasList net (intent_in net text))
            (λ text is'. subst (HasList net) (sym is') (begins.0, begins.1)) r)) h

        unread : IfSome f.told (λ held. (¬ ReadsInput file intent held) → t ≡ s)
        unread = each_map f.told (ReadsInput file intent) (λ held. (¬ ReadsInput file intent held) → t ≡ s)
            (λ held has none. absurd (none has)) (has_list f.told judged.0 (of_first (IntentIs net (Ok value)) read.0))

        takes : (stop : Stop) → FailsBy stop (file ∷ intent ∷ []) f → g ≡ files_left_by stop (asked_for intent mid) → Reads stop s t
            → ReadsAs stop s t → Takes (walk_spec file intent choices schedule) stop f g s t
        takes stop fails seen reads whole = record {
          asks = asks_both stop fails seen;
          reads = reads;
          unread = unread;
          reads_none = λ no. cc;
          reads_its = reads_its_whole (walk_spec file intent choices schedule) f.told stop s t whole;
        }

        -- what is wanted of an input
        wants_list : (Q : List ℕ → Type 0) (output : Output) → IfSome s.left Q
            → ((input : List ℕ) → Q input → output ≡ walk_output net headend choices schedule input)
            → WantedOf (walk_spec file intent choices schedule) f.told s.left output
        wants_list Q output q w = wants_answer Q output q
            (λ input h. (
              Ok begins.0,
              begins.1,
              begins.2,
              (
                w input h ∙ ap (λ (h : Headend). walk_output net h choices schedule input) begins.3,
                walks_keep net value begins.0 choices network byte begins.1 some,
              ),
            ))

        -- the input was refused, wasn't read, or memory was wanting
        pub walk_halted_at_input : (halt : Halt) → JudgesInput packets_in (Err halt) s t
            → Commands (walk_spec file intent choices schedule) (Err halt) (outside f s o e) (outside g t o e)
        walk_halted_at_input (halts.Refused refusal) h = refused_commands (walk_spec file intent choices schedule) refusal f g s t o
            (wants_list (λ input. packets_in input ≡ Err refusal) (refused refusal) h.0 (λ input bad. rw bad refl))
            (inr (inl refl)) (takes Never tt read.1 (inr h.1) h.1) e
        walk_halted_at_input (halts.Failed failures.Fault) h = input_fault (walk_spec file intent choices schedule) f g s t o
            (takes AtInput tt read.1 h tt) e
        walk_halted_at_input (halts.Failed failures.NoMemory) h = memory_wants (walk_spec file intent choices schedule) f g s t o
            (takes Elsewhere tt read.1 (inr (inr h)) tt) e

        module _ (packets : Packets) (drawn : JudgesInput packets_in (Ok packets) s t) (p q : SinkSeen) where
          abbrev before : List Piece
          before = walk_pieces net headend choices schedule (reading_of packets).frames

          wanted : WantedOf (walk_spec file intent choices schedule) f.told s.left (walked net headend choices schedule packets)
          wanted = wants_list (λ input. packets_in input ≡ Ok packets) (walked net headend choices schedule packets) drawn.0
              (λ input good. rw good refl)

          reads : ReadsWhole s t
          reads = inl drawn.1

          takes_how : (sink : Which) (how : Option How) → Takes (walk_spec file intent choices schedule) (stop_at sink how) f g s t
          takes_how sink None = takes Elsewhere tt read.1 (inr (inl reads)) tt
          takes_how sink (Some how) = takes (At sink how) tt read.1 (inr reads) reads

          -- the packets' pieces didn't go out whole
          cut_by : (fault : Option Refusal) (failure : Failure)
              → WantedOf (walk_spec file intent choices schedule) f.told s.left (ended_by before fault)
              → WroteInGroups (ending_of_failure failure) before (sinks_of o e) (sinks_of p q)
              → Commands (walk_spec file intent choices schedule) (Err (halts.Failed failure)) (outside f s o e) (outside g t p q)
          cut_by None failure w wrote = pieces_cut (walk_spec file intent choices schedule) before (outside f s o e) (outside g t p q)
              failure [] statuses.Done refl wrote w takes_how
          cut_by (Some refusal) failure w wrote =
              pieces_cut (walk_spec file intent choices schedule) before (outside f s o e) (outside g t p q)
              failure (refusal_line refusal) statuses.Refused refl wrote w takes_how

          pub walk_halted_at_pieces : (failure : Failure) → WroteInGroups (ending_of_failure failure) before (sinks_of o e) (sinks_of p q)
              → Commands (walk_spec file intent choices schedule) (Err (halts.Failed failure)) (outside f s o e) (outside g t p q)
          walk_halted_at_pieces failure wrote = cut_by (fault_of (reading_of packets)) failure wanted wrote

          -- they did, and nothing is after the frames
          pub walk_done : (told : Conclusion) → None ≡ fault_of (reading_of packets) → bytes_of_text told.line ≡ []
              → told.status ≡ statuses.Done → sinks_of p q ≡ gone before (sinks_of o e)
              → Commands (walk_spec file intent choices schedule) (Ok told) (outside f s o e) (outside g t p q)
          walk_done told whole line status went =
              let none : WantedOf (walk_spec file intent choices schedule) f.told s.left (ended_by before None) =
              subst (λ (fault : Option Refusal). WantedOf (walk_spec file intent choices schedule) f.told s.left (ended_by before fault))
              (sym whole) wanted in
              pieces_whole (walk_spec file intent choices schedule) before (outside f s o e) (outside g t p q) told went
              (rw (line, status) none) (rw status refl) (inl status) (takes Never tt read.1 (inr reads) reads) (λ _ _. drawn.1.1)

          -- something is, which is refused
          pub walk_refused : (refusal : Refusal) → Some refusal ≡ fault_of (reading_of packets)
              → sinks_of p q ≡ gone before (sinks_of o e)
              → Commands (walk_spec file intent choices schedule) (Err (halts.Refused refusal)) (outside f s o e) (outside g t p q)
          walk_refused refusal more went = pieces_refused (walk_spec file intent choices schedule) before (outside f s o e)
              (outside g t p q) refusal went
              (subst (λ (fault : Option Refusal). WantedOf (walk_spec file intent choices schedule) f.told s.left (ended_by before fault))
              (sym more) wanted)
              (inr (inl refl)) (takes Never tt read.1 (inr reads) reads)
