-- What `update` leaves, by where it ends.
use Rattle.std.proofs.Common.{◌≡◌, inl, inr, ℕ, false, List, [], ◌∷◌, Option, None, Some, IfSome, Result, Ok, Err, refl, sym, ap, ◌∙◌, subst}
use Rattle.std.specs.Prelude.{if◌then◌else◌}
use Rattle.srx_edge.specs.Edge.{file_named}
use Rattle.srx_edge.specs.FilesRead.{FilesSeen, FailsAt, asked_for}
use Rattle.srx_edge.specs.Sources.{SourceSeen}
use Rattle.srx_edge.specs.Sinks.{SinkSeen}
use Rattle.srx_edge.specs.CallSteps.{How}
use Rattle.net_model.specs.Network.{Network}
use Rattle.update_plan.specs.UpdateState.{Plan}
use Rattle.command_output.specs.declared.halt.Failure.{Failure}
use Rattle.command_output.specs.declared.halt.Failure.TheVariants as failures
use Rattle.command_output.specs.declared.halt.Halt.{Halt}
use Rattle.command_output.specs.declared.halt.Halt.TheVariants as halts
use Rattle.command_output.specs.declared.refusal.Refusal.{Refusal}
use Rattle.command_output.specs.declared.status.Status.TheVariants as statuses
use Rattle.command_output.specs.declared.conclusion.Text.{Text}
use Rattle.command_output.specs.declared.conclusion.Conclusion.{Conclusion}
use Rattle.command_output.specs.CommandAnswers.{ending_of_failure, JudgesFile, JudgesInput, Commands}
use Rattle.command_output.specs.Outputs.{refused, ended_by}
use Rattle.command_output.specs.OutputLines.{refusal_line}
use Rattle.command_output.specs.OutputLinesTerms.{bytes_of_text}
use Rattle.command_output.specs.Outside.{outside, FailsBy, IsFrontOf, Asks, Reads, ReadsAs, ReadsWhole, asked_for_all, files_left_by}
use Rattle.command_output.specs.GatheredTerms.{WroteInGroups}
use Rattle.command_output.specs.OutputPieces.{Piece, Output, Which, Stop, Never, AtFiles, AtInput, At, Elsewhere, gone}
use Rattle.command_output.specs.OutputPiecesTerms.{sinks_of, stop_at}
use Rattle.command_output.specs.Endings.{Takes, ReadsIts}
use Rattle.command_output.specs.CommandSpec.{Held, CommandSpec, goes_on_with, names_of, texts_with, WantedOf}
use Rattle.command_output.proofs.PublicLaws.{each, each_map, some_map, front_whole, front_longer, front_after, asks_all, asks_fault, asks_front, is_at_input, reads_its_early, reads_its_whole, reads_nothing, refused_commands, files_fault, input_fault, memory_wants, pieces_whole, pieces_refused, pieces_cut}
use Rattle.command_inputs.specs.declared.file_judge.BothIntents.{BothIntents}
use Rattle.command_inputs.specs.declared.input_packets.Packets.{Packets}
use Rattle.command_inputs.specs.Judgements.{network_in, intents_in}
use Rattle.command_inputs.specs.InputPackets.{packets_in, reading_of, fault_of}
use Rattle.walk_commands.specs.WalkCommand.{no_list}
use Rattle.update_driver.specs.Events.{update_pieces}
use Rattle.update_driver.specs.Moving.{Sides}
use Rattle.update_commands.specs.declared.update_opening.UpdateStart.TheVariants as starts
use Rattle.update_commands.specs.UpdateCommand.{BothWant, HasLists, IfJudged, IntentWants, NewWants, OldWants, ReadsInput, WithJudged, asks_behind_networks, update_output, update_spec, updated}
use Rattle.update_commands.specs.UpdateCommandTerms.{UpdateStartsAs}
use Rattle.update_commands.proofs.Families.{one_family}
use Rattle.update_commands.proofs.Held.{all_told, any_input, both_told}
use Rattle.update_commands.proofs.NoLists.{GivesText, all_of_both, no_lists_always, none_of_both, none_of_new, none_of_old}
use Rattle.update_commands.proofs.WholeStarting.{Begins, lists_want}

module _ (one two three events : List ℕ) where
  abbrev spec : CommandSpec
  spec = update_spec one two three events

  abbrev OldIs : Result Network Refusal → Held → Type 0
  OldIs judged held = GivesText network_in judged (file_named held one)

  abbrev NewIs : Result Network Refusal → Held → Type 0
  NewIs judged held = GivesText network_in judged (file_named held two)

  abbrev IntentIs : Network → Network → Result BothIntents Refusal → Held → Type 0
  IntentIs old new judged held = GivesText (intents_in old new) judged (file_named held three)

  -- ---- the names that are asked for, by the judgements of the descriptions

  abbrev behind : Option (List ℕ) → Option (List ℕ) → List (List ℕ)
  behind o p = if goes_on_with asks_behind_networks (texts_with [] o) p then three ∷ [] else []

  abbrev after_old : Option (List ℕ) → Option (List ℕ) → List (List ℕ)
  after_old o p = if goes_on_with asks_behind_networks [] o then two ∷ behind o p else []

  abbrev names_in : Held → List (List ℕ)
  names_in held = one ∷ after_old (file_named held one) (file_named held two)

  after_refused : (refusal : Refusal) (o p : Option (List ℕ)) → GivesText network_in (Err refusal) o → after_old o p ≡ []
  after_refused refusal None p h = absurd h
  after_refused refusal (Some text) p h = rw h refl

  after_net : (old : Network) (o p : Option (List ℕ)) → GivesText network_in (Ok old) o → after_old o p ≡ two ∷ behind o p
  after_net old None p h = absurd h
  after_net old (Some text) p h = rw h refl

  behind_refused : (old : Network) (refusal : Refusal) (o p : Option (List ℕ)) → GivesText network_in (Ok old) o
      → GivesText network_in (Err refusal) p → behind o p ≡ []
  behind_refused old refusal None p h i = absurd h
  behind_refused old refusal (Some text) None h i = absurd i
  behind_refused old refusal (Some text) (Some next) h i = rw i refl

  behind_net : (old new : Network) (o p : Option (List ℕ)) → GivesText network_in (Ok old) o → GivesText network_in (Ok new) p
      → behind o p ≡ three ∷ []
  behind_net old new None p h i = absurd h
  behind_net old new (Some text) None h i = absurd i
  behind_net old new (Some text) (Some next) h i = rw i refl

  names_one : (refusal : Refusal) (told : Option Held) → IfSome told (OldIs (Err refusal)) → IfSome told (λ held. names_in held ≡ one ∷ [])
  names_one refusal told h = each_map told (OldIs (Err refusal)) (λ held. names_in held ≡ one ∷ [])
      (λ held is. ap (λ (more : List (List ℕ)). one ∷ more) (after_refused refusal (file_named held one) (file_named held two) is)) h

  names_two : (old : Network) (refusal : Refusal) (told : Option Held) → IfSome told (OldIs (Ok old)) → IfSome told (NewIs (Err refusal))
      → IfSome told (λ held. names_in held ≡ one ∷ two ∷ [])
  names_two old refusal told h i = both_told told (OldIs (Ok old)) (NewIs (Err refusal)) (λ held. names_in held ≡ one ∷ two ∷ [])
      (λ held is more. ap (λ (rest : List (List ℕ)). one ∷ rest) (after_net old (file_named held one) (file_named held two) is)
      ∙ ap (λ (rest : List (List ℕ)). one ∷ two ∷ rest)
      (behind_refused old refusal (file_named held one) (file_named held two) is more)) h i

  names_three : (old new : Network) (told : Option Held) → IfSome told (OldIs (Ok old)) → IfSome told (NewIs (Ok new))
      → IfSome told (λ held. names_in held ≡ one ∷ two ∷ three ∷ [])
  names_three old new told h i = both_told told (OldIs (Ok old)) (NewIs (Ok new)) (λ held. names_in held ≡ one ∷ two ∷ three ∷ [])
      (λ held is more. ap (λ (rest : List (List ℕ)). one ∷ rest) (after_net old (file_named held one) (file_named held two) is)
      ∙ ap (λ (rest : List (List ℕ)). one ∷ two ∷ rest)
      (behind_net old new (file_named held one) (file_named held two) is more)) h i

  -- ---- an output that is wanted, by the judgements

  abbrev Wants : Held → List ℕ → Output → Type 0
  Wants held input output = OldWants events input (file_named held one) (file_named held two) (file_named held three) output

  wanted : (Q : List ℕ → Type 0) (told : Option Held) (left : Option (List ℕ)) (output : Output) → IfSome left Q
      → IfSome told (λ held. (input : List ℕ) → Q input → Wants held input output) → WantedOf spec told left output
  wanted Q None left output q w = tt
  wanted Q (Some held) None output q w = tt
  wanted Q (Some held) (Some input) output q w = w input q

  wants_old : (judged : Result Network Refusal) (held : Held) (input : List ℕ) (output : Output) → OldIs judged held
      → WithJudged judged (λ old. NewWants old events input (file_named held two) (file_named held three)) output → Wants held input output
  wants_old judged held input output h w = some_map (file_named held one) (λ text. network_in text ≡ judged)
      (λ text. WithJudged (network_in text) (λ old. NewWants old events input (file_named held two) (file_named held three)) output)
      (λ text is. subst (λ (j : Result Network Refusal).
      WithJudged j (λ old. NewWants old events input (file_named held two) (file_named held three)) output) (sym is) w) h

  wants_new : (old : Network) (judged : Result Network Refusal) (held : Held) (input : List ℕ) (output : Output) → OldIs (Ok old) held
      → NewIs judged held → WithJudged judged (λ new. IntentWants old new events input (file_named held three)) output
      → Wants held input output
  wants_new old judged held input output h i w = wants_old (Ok old) held input output h
      (some_map (file_named held two) (λ text. network_in text ≡ judged)
      (λ text. WithJudged (network_in text) (λ new. IntentWants old new events input (file_named held three)) output)
      (λ text is. subst (λ (j : Result Network Refusal).
      WithJudged j (λ new. IntentWants old new events input (file_named held three)) output) (sym is) w) i)

  wants_both : (old new : Network) (judged : Result BothIntents Refusal) (held : Held) (input : List ℕ) (output : Output)
      → OldIs (Ok old) held → NewIs (Ok new) held → IntentIs old new judged held
      → ((text : List ℕ) → intents_in old new text ≡ judged → WithJudged judged (λ both. BothWant old new both events input) output)
      → Wants held input output
  wants_both old new judged held input output h i k w = wants_new old (Ok new) held input output h i
      (some_map (file_named held three) (λ text. intents_in old new text ≡ judged)
      (λ text. WithJudged (intents_in old new text) (λ both. BothWant old new both events input) output)
      (λ text is. subst (λ (j : Result BothIntents Refusal). WithJudged j (λ both. BothWant old new both events input) output)
      (sym is) (w text is)) k)

  -- ---- the input as it was

  abbrev Reading : Held → Type 0
  Reading held = ReadsInput (file_named held one) (file_named held two) (file_named held three)

  takes_unread : (stop : Stop) (f g : FilesSeen) (s : SourceSeen) → Asks spec stop f g → is_at_input stop ≡ false
      → ReadsIts spec f.told stop s s → Takes spec stop f g s s
  takes_unread stop f g s asks other its = record {
    asks = asks;
    reads = reads_nothing stop s other;
    unread = each f.told (λ held. (¬ Reading held) → s ≡ s) (λ held _. refl);
    reads_none = λ _. refl;
    reads_its = its;
  }

  -- the call ended before the input, of which what is told says so; or it stopped before that

  unread_early : (told : Option Held) (s : SourceSeen) → IfSome told (λ held. ¬ Reading held) → ReadsIts spec told Never s s
  unread_early told s early = reads_its_early spec told Never s s refl early

  unread_files : (told : Option Held) (s : SourceSeen) → ReadsIts spec told AtFiles s s
  unread_files told s = reads_its_whole spec told AtFiles s s tt

  unread_memory : (told : Option Held) (s : SourceSeen) → ReadsIts spec told Elsewhere s s
  unread_memory told s = reads_its_whole spec told Elsewhere s s tt

  -- ---- the old description was refused, wasn't read, or memory was wanting
  pub halted_at_old : (f g : FilesSeen) (s : SourceSeen) (o e : SinkSeen) (halt : Halt) → JudgesFile network_in one (Err halt) f g
      → Commands spec (Err halt) (outside f s o e) (outside g s o e)
  halted_at_old f g s o e (halts.Refused refusal) h = refused_commands spec refusal f g s s o
      (wanted (λ input. Unit {0}) f.told s.left (refused refusal) (any_input s.left)
      (each_map f.told (OldIs (Err refusal)) (λ held. (input : List ℕ) → Unit {0} → Wants held input (refused refusal))
      (λ held is input _. wants_old (Err refusal) held input (refused refusal) is refl) h.0))
      (inr (inl refl))
      (takes_unread Never f g s (asks_all spec Never (one ∷ []) f g (record { rest = two ∷ three ∷ []; whole = refl }) tt
      (names_one refusal f.told h.0) h.1) refl
      (unread_early f.told s (each_map f.told (OldIs (Err refusal)) (λ held. ¬ Reading held)
      (λ held is. none_of_old refusal (file_named held one) (file_named held two) (file_named held three) is) h.0))) e
  halted_at_old f g s o e (halts.Failed failures.Fault) h = files_fault spec f g s o
      (takes_unread AtFiles f g s (asks_fault spec (one ∷ []) f g (record { rest = two ∷ three ∷ []; whole = refl }) h.0
      (each f.told (λ held. IsFrontOf (names_of spec held) (one ∷ []))
      (λ held. record { rest = after_old (file_named held one) (file_named held two); whole = refl })) h.1) refl (unread_files f.told s)) e
  halted_at_old f g s o e (halts.Failed failures.NoMemory) h = memory_wants spec f g s s o
      (takes_unread Elsewhere f g s (asks_front spec h.names f g (front_longer (one ∷ []) h.names (two ∷ three ∷ []) h.front)
      (each f.told (λ held. IsFrontOf (names_of spec held) h.names)
      (λ held. front_longer (one ∷ []) h.names (after_old (file_named held one) (file_named held two)) h.front)) h.seen) refl
      (unread_memory f.told s)) e

  -- ---- the new one was, where the old one was read
  module _ (f mid g : FilesSeen) (s : SourceSeen) (o e : SinkSeen) (old : Network) (first : JudgesFile network_in one (Ok old) f mid) where
    -- what is told is told of the files as they were
    of_mid : (P : Held → Type 0) → IfSome mid.told P → IfSome f.told P
    of_mid P h = subst (λ (files : FilesSeen). IfSome files.told P) first.1 h

    -- as many names as these are asked for, at least
    front_two : (more : List (List ℕ)) → IsFrontOf (two ∷ []) more → IfSome f.told (λ held. IsFrontOf (names_in held) (one ∷ more))
    front_two more front = each_map f.told (OldIs (Ok old)) (λ held. IsFrontOf (names_in held) (one ∷ more))
        (λ held is. let rest = behind (file_named held one) (file_named held two) in
        subst (λ (all : List (List ℕ)). IsFrontOf (one ∷ all) (one ∷ more))
        (sym (after_net old (file_named held one) (file_named held two) is))
        (front_after one (two ∷ rest) more (front_longer (two ∷ []) more rest front))) first.0

    pub halted_at_new : (halt : Halt) → JudgesFile network_in two (Err halt) mid g
        → Commands spec (Err halt) (outside f s o e) (outside g s o e)
    halted_at_new (halts.Refused refusal) h = refused_commands spec refusal f g s s o
        (wanted (λ input. Unit {0}) f.told s.left (refused refusal) (any_input s.left)
        (both_told f.told (OldIs (Ok old)) (NewIs (Err refusal)) (λ held. (input : List ℕ) → Unit {0} → Wants held input (refused refusal))
        (λ held is more input _. wants_new old (Err refusal) held input (refused refusal) is more refl) first.0
        (of_mid (NewIs (Err refusal)) h.0)))
        (inr (inl refl))
        (takes_unread Never f g s (asks_all spec Never (one ∷ two ∷ []) f g (record { rest = three ∷ []; whole = refl }) tt
        (names_two old refusal f.told first.0 (of_mid (NewIs (Err refusal)) h.0))
        (h.1 ∙ ap (λ (files : FilesSeen). asked_for two files) first.1)) refl
        (unread_early f.told s (both_told f.told (OldIs (Ok old)) (NewIs (Err refusal)) (λ held. ¬ Reading held)
        (λ held is more. none_of_new old refusal (file_named held one) (file_named held two) (file_named held three) is more) first.0
        (of_mid (NewIs (Err refusal)) h.0)))) e
    halted_at_new (halts.Failed failures.Fault) h = files_fault spec f g s o
        (takes_unread AtFiles f g s (asks_fault spec (one ∷ two ∷ []) f g (record { rest = three ∷ []; whole = refl })
        (subst (FailsAt two) first.1 h.0) (front_two (two ∷ []) (front_whole (two ∷ [])))
        (h.1 ∙ ap (λ (files : FilesSeen). files_left_by AtFiles (asked_for two files)) first.1)) refl (unread_files f.told s)) e
    halted_at_new (halts.Failed failures.NoMemory) h = memory_wants spec f g s s o
        (takes_unread Elsewhere f g s (asks_front spec (one ∷ h.names) f g
        (front_after one (two ∷ three ∷ []) h.names (front_longer (two ∷ []) h.names (three ∷ []) h.front))
        (front_two h.names h.front) (h.seen ∙ ap (asked_for_all h.names) first.1)) refl (unread_memory f.told s)) e

  -- ---- the intent was, or what follows, where both descriptions were read
  module _ (f mid last g : FilesSeen) (s t : SourceSeen) (o e : SinkSeen) (old : Network) (first : JudgesFile network_in one (Ok old) f mid)
      (new : Network) (second : JudgesFile network_in two (Ok new) mid last) where
    told_new : IfSome f.told (NewIs (Ok new))
    told_new = of_mid f mid g s o e old first (NewIs (Ok new)) second.0

    last_is : last ≡ asked_for_all (one ∷ two ∷ []) f
    last_is = second.1 ∙ ap (λ (files : FilesSeen). asked_for two files) first.1

    of_last : (P : Held → Type 0) → IfSome last.told P → IfSome f.told P
    of_last P h = subst (λ (files : FilesSeen). IfSome files.told P) last_is h

    -- all three files were asked for
    asks_three : (stop : Stop) → FailsBy stop (one ∷ two ∷ three ∷ []) f → g ≡ files_left_by stop (asked_for three last)
        → Asks spec stop f g
    asks_three stop fails seen = asks_all spec stop (one ∷ two ∷ three ∷ []) f g (front_whole (one ∷ two ∷ three ∷ [])) fails
        (names_three old new f.told first.0 told_new)
        (seen ∙ ap (λ (files : FilesSeen). files_left_by stop (asked_for three files)) last_is)

    wants_judged : (judged : Result BothIntents Refusal) (Q : List ℕ → Type 0) (output : Output)
        → IfSome last.told (IntentIs old new judged)
        → IfSome s.left Q → ((text input : List ℕ) → intents_in old new text ≡ judged → Q input
        → WithJudged judged (λ both. BothWant old new both events input) output)
        → WantedOf spec f.told s.left output
    wants_judged judged Q output h q w = wanted Q f.told s.left output q
        (all_told f.told (OldIs (Ok old)) (NewIs (Ok new)) (IntentIs old new judged)
        (λ held. (input : List ℕ) → Q input → Wants held input output)
        (λ held is more intent input q. wants_both old new judged held input output is more intent (λ text given. w text input given q))
        first.0 told_new
        (of_last (IntentIs old new judged) h))

    early_judged : (judged : Result BothIntents Refusal) → (IfJudged judged (HasLists old new) → ⊥)
        → IfSome last.told (IntentIs old new judged) → IfSome f.told (λ held. ¬ Reading held)
    early_judged judged none h = all_told f.told (OldIs (Ok old)) (NewIs (Ok new)) (IntentIs old new judged) (λ held. ¬ Reading held)
        (λ held is more intent. none_of_both old new judged (file_named held one) (file_named held two) (file_named held three) none
        is more intent) first.0 told_new (of_last (IntentIs old new judged) h)

    pub halted_at_intent : (halt : Halt) → JudgesFile (intents_in old new) three (Err halt) last g
        → Commands spec (Err halt) (outside f s o e) (outside g s o e)
    halted_at_intent (halts.Refused refusal) h = refused_commands spec refusal f g s s o
        (wants_judged (Err refusal) (λ input. Unit {0}) (refused refusal) h.0 (any_input s.left) (λ text input is _. refl))
        (inr (inl refl)) (takes_unread Never f g s (asks_three Never tt h.1) refl
        (unread_early f.told s (early_judged (Err refusal) (λ none. none) h.0))) e
    halted_at_intent (halts.Failed failures.Fault) h = files_fault spec f g s o
        (takes_unread AtFiles f g s (asks_three AtFiles (subst (FailsAt three) last_is h.0) h.1) refl (unread_files f.told s)) e
    halted_at_intent (halts.Failed failures.NoMemory) h = memory_wants spec f g s s o
        (takes_unread Elsewhere f g s (asks_front spec (one ∷ two ∷ h.names) f g
        (front_after one (two ∷ three ∷ []) (two ∷ h.names) (front_after two (three ∷ []) h.names h.front))
        (each_map f.told (λ held. names_in held ≡ one ∷ two ∷ three ∷ []) (λ held. IsFrontOf (names_in held) (one ∷ two ∷ h.names))
        (λ held is. subst (λ (all : List (List ℕ)). IsFrontOf all (one ∷ two ∷ h.names)) (sym is)
        (front_after one (two ∷ three ∷ []) (two ∷ h.names) (front_after two (three ∷ []) h.names h.front)))
        (names_three old new f.told first.0 told_new))
        (h.seen ∙ ap (asked_for_all h.names) last_is)) refl (unread_memory f.told s)) e

    module _ (both : BothIntents) (third : JudgesFile (intents_in old new) three (Ok both) last g) where
      -- a description isn't flat, there is no plan, or memory was wanting
      pub halted_at_start : (halt : Halt) → UpdateStartsAs old new both (Err halt)
          → Commands spec (Err halt) (outside f s o e) (outside g s o e)
      halted_at_start (halts.Refused refusal) h = refused_commands spec refusal f g s s o
          (wants_judged (Ok both) (λ input. Unit {0}) (refused refusal) third.0 (any_input s.left) (λ text input is _. h events input))
          (inr (inl refl)) (takes_unread Never f g s (asks_three Never tt third.1) refl
          (unread_early f.told s (early_judged (Ok both) (no_lists_always old new both (refused refusal) (λ done. cc) h) third.0))) e
      halted_at_start (halts.Failed failures.Fault) h = absurd h
      halted_at_start (halts.Failed failures.NoMemory) h = memory_wants spec f g s s o
          (takes_unread Elsewhere f g s (asks_three Elsewhere tt third.1) refl (unread_memory f.told s)) e

      -- a list is wanting
      pub without_list : (line : Text) (told : Conclusion) → UpdateStartsAs old new both (Ok (starts.NoList line)) → told.line ≡ line
          → told.status ≡ statuses.NoAnswer → Commands spec (Ok told) (outside f s o e) (outside g s o e)
      without_list line told h is status = pieces_whole spec [] (outside f s o e) (outside g s o e) told refl
          (rw (is, status) (wants_judged (Ok both) (λ input. Unit {0}) (no_list (bytes_of_text line)) third.0 (any_input s.left)
          (λ text input is _. h events input)))
          (rw status refl) (inr (inr (inl status))) (takes_unread Never f g s (asks_three Never tt third.1) refl
          (unread_early f.told s
          (early_judged (Ok both) (no_lists_always old new both (no_list (bytes_of_text line)) (λ done. cc) h) third.0)))
          (λ done. cc (sym status ∙ done))

      -- ---- there are both lists, so the input is read
      module _ (plan : Plan) (sides : Sides) (begins : Begins old new both plan sides) where
        has_lists : IfSome f.told Reading
        has_lists = all_told f.told (OldIs (Ok old)) (NewIs (Ok new)) (IntentIs old new (Ok both)) Reading
            (λ held is more intent. all_of_both old new (Ok both) (file_named held one) (file_named held two) (file_named held three)
            (begins.planned, (begins.before, begins.compiled_before), (begins.after, begins.compiled_after)) is more intent)
            first.0 told_new (of_last (IntentIs old new (Ok both)) third.0)

        unread : IfSome f.told (λ held. (¬ Reading held) → t ≡ s)
        unread = each_map f.told Reading (λ held. (¬ Reading held) → t ≡ s) (λ held has none. absurd (none has)) has_lists

        takes : (stop : Stop) → FailsBy stop (one ∷ two ∷ three ∷ []) f → g ≡ files_left_by stop (asked_for three last) → Reads stop s t
            → ReadsAs stop s t → Takes spec stop f g s t
        takes stop fails seen reads whole = record {
          asks = asks_three stop fails seen;
          reads = reads;
          unread = unread;
          reads_none = λ no. cc;
          reads_its = reads_its_whole spec f.told stop s t whole;
        }

        -- what is wanted of an input
        wants_lists : (Q : List ℕ → Type 0) (output : Output) → IfSome s.left Q
            → ((input : List ℕ) → Q input → output ≡ update_output old sides plan events input) → WantedOf spec f.told s.left output
        wants_lists Q output q w = wants_judged (Ok both) Q output third.0 q
            (λ text input is h.
            lists_want old new both plan sides begins (one_family old new text both is) events input output (w input h))

        -- the input was refused, wasn't read, or memory was wanting
        pub halted_at_input : (halt : Halt) → JudgesInput packets_in (Err halt) s t
            → Commands spec (Err halt) (outside f s o e) (outside g t o e)
        halted_at_input (halts.Refused refusal) h = refused_commands spec refusal f g s t o
            (wants_lists (λ input. packets_in input ≡ Err refusal) (refused refusal) h.0 (λ input bad. rw bad refl))
            (inr (inl refl)) (takes Never tt third.1 (inr h.1) h.1) e
        halted_at_input (halts.Failed failures.Fault) h = input_fault spec f g s t o (takes AtInput tt third.1 h tt) e
        halted_at_input (halts.Failed failures.NoMemory) h = memory_wants spec f g s t o
            (takes Elsewhere tt third.1 (inr (inr h)) tt) e

        module _ (packets : Packets) (drawn : JudgesInput packets_in (Ok packets) s t) (p q : SinkSeen) where
          abbrev before : List Piece
          before = update_pieces old sides plan (reading_of packets).frames events

          all_wanted : WantedOf spec f.told s.left (updated old sides plan events packets)
          all_wanted = wants_lists (λ input. packets_in input ≡ Ok packets) (updated old sides plan events packets) drawn.0
              (λ input good. rw good refl)

          reads : ReadsWhole s t
          reads = inl drawn.1

          takes_how : (sink : Which) (how : Option How) → Takes spec (stop_at sink how) f g s t
          takes_how sink None = takes Elsewhere tt third.1 (inr (inl reads)) tt
          takes_how sink (Some how) = takes (At sink how) tt third.1 (inr reads) reads

          -- the pieces didn't go out whole
          cut_by : (fault : Option Refusal) (failure : Failure) → WantedOf spec f.told s.left (ended_by before fault)
              → WroteInGroups (ending_of_failure failure) before (sinks_of o e) (sinks_of p q)
              → Commands spec (Err (halts.Failed failure)) (outside f s o e) (outside g t p q)
          cut_by None failure w wrote = pieces_cut spec before (outside f s o e) (outside g t p q)
              failure [] statuses.Done refl wrote w takes_how
          cut_by (Some refusal) failure w wrote = pieces_cut spec before (outside f s o e) (outside g t p q)
              failure (refusal_line refusal) statuses.Refused refl wrote w takes_how

          pub halted_at_pieces : (failure : Failure) → WroteInGroups (ending_of_failure failure) before (sinks_of o e) (sinks_of p q)
              → Commands spec (Err (halts.Failed failure)) (outside f s o e) (outside g t p q)
          halted_at_pieces failure wrote = cut_by (fault_of (reading_of packets)) failure all_wanted wrote

          -- they did, and nothing is after the frames
          pub update_done : (told : Conclusion) → None ≡ fault_of (reading_of packets) → bytes_of_text told.line ≡ []
              → told.status ≡ statuses.Done → sinks_of p q ≡ gone before (sinks_of o e)
              → Commands spec (Ok told) (outside f s o e) (outside g t p q)
          update_done told whole line status went =
              let none : WantedOf spec f.told s.left (ended_by before None) =
              subst (λ (fault : Option Refusal). WantedOf spec f.told s.left (ended_by before fault)) (sym whole) all_wanted in
              pieces_whole spec before (outside f s o e) (outside g t p q) told went
              (rw (line, status) none) (rw status refl) (inl status) (takes Never tt third.1 (inr reads) reads) (λ _ _. drawn.1.1)

          -- something is, which is refused
          pub update_refused : (refusal : Refusal) → Some refusal ≡ fault_of (reading_of packets)
              → sinks_of p q ≡ gone before (sinks_of o e)
              → Commands spec (Err (halts.Refused refusal)) (outside f s o e) (outside g t p q)
          update_refused refusal more went = pieces_refused spec before (outside f s o e) (outside g t p q) refusal went
              (subst (λ (fault : Option Refusal). WantedOf spec f.told s.left (ended_by before fault)) (sym more) all_wanted)
              (inr (inl refl)) (takes Never tt third.1 (inr reads) reads)
