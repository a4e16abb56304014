-- What `gen` leaves, and what it has to write of a summary.
use Rattle.std.proofs.Common.{◌≡◌, inl, inr, ℕ, false, List, [], Option, None, Some, Result, Ok, Err, refl, sym, ap, subst, ◌∙◌}
use Rattle.srx_edge.specs.FilesRead.{FilesSeen}
use Rattle.srx_edge.specs.Sources.{SourceSeen}
use Rattle.srx_edge.specs.Sinks.{SinkSeen, sent}
use Rattle.srx_edge.specs.CallSteps.{How}
use Rattle.srx_edge.specs.CallStepsTerms.{Wrote}
use Rattle.net_model.specs.Network.{Network}
use Rattle.net_flatness.specs.declared.not_flat.NotFlat.{NotFlat}
use Rattle.net_generator.specs.Networks.{net_text}
use Rattle.net_generator.specs.Intents.{intent_text}
use Rattle.intent_reader.specs.declared.intent.Intent.{Intent}
use Rattle.list_pack.specs.declared.types.Solution.{Solution}
use Rattle.path_compiler.specs.declared.compiled.Compiled.{Compiled}
use Rattle.path_compiler.specs.declared.compiled.CompileFault.TheVariants as faults
use Rattle.generate_commands.specs.declared.gen_command.Generated.{Generated}
use Rattle.generate_commands.specs.declared.gen_command.Generated.TheVariants as generates
use Rattle.generate_commands.specs.declared.gen_command.Made.{Made}
use Rattle.generate_commands.specs.declared.gen_command.Made.TheVariants as mades
use Rattle.generate_commands.specs.declared.gen_command.TheConstants.{PACKETS}
use Rattle.command_output.specs.declared.halt.Failure.{Failure}
use Rattle.command_output.specs.declared.halt.Failure.TheVariants as failures
use Rattle.command_output.specs.declared.halt.Halt.{Halt}
use Rattle.command_output.specs.declared.halt.Halt.TheVariants as halts
use Rattle.command_output.specs.declared.refusal.Refusal.{Refusal}
use Rattle.command_output.specs.declared.status.Status.TheVariants as statuses
use Rattle.generate_commands.specs.declared.summed.Summary.{Summary}
use Rattle.command_output.specs.declared.conclusion.Text.{Text}
use Rattle.command_output.specs.declared.conclusion.Conclusion.{Conclusion}
use Rattle.command_output.specs.CommandAnswers.{CommandsOut, JudgesText, ending_of_failure}
use Rattle.walk_commands.specs.WalkLists.{CompiledWants, IntentWants, NetworkWants, hop_limit_line, none_line, too_long_line}
use Rattle.command_output.specs.Halts.{flat_refusal}
use Rattle.generate_commands.specs.GenCommand.{GenWants, SumWants, gen_spec, summary_lines}
use Rattle.generate_commands.specs.GenCommandTerms.{Generates}
use Rattle.walk_commands.specs.WalkCommand.{no_list}
use Rattle.command_inputs.specs.Judgements.{network_in, intent_in}
use Rattle.command_output.specs.Outputs.{refused}
use Rattle.command_output.specs.OutputLinesTerms.{bytes_of_text}
use Rattle.command_output.specs.Outside.{AsksAs, FailsBy, files_left_by, outside}
use Rattle.command_output.specs.OutputPieces.{Stop, Never, At, Elsewhere, ToOut}
use Rattle.command_output.specs.OutputPiecesTerms.{stop_at}
use Rattle.command_output.specs.Endings.{Takes}
use Rattle.command_output.specs.CommandSpec.{names_of}
use Rattle.generate_commands.specs.SummaryTerms.{SummaryAnswers}
use Rattle.command_output.proofs.PublicLaws.{each, is_at_input, reads_its_none, reads_nothing, memory_first, pieces_whole, refused_commands, written_cut, written_whole}

-- what is to be written of a summary, or of the compiler's answer where there is none

module _ (net : Network) (intent : Intent) where
  pub summed_lines : (s : Summary) (lines : Text) → SummaryAnswers net intent PACKETS (Ok s) → bytes_of_text lines ≡ summary_lines s
      → Generates (CompiledWants SumWants net intent) (Ok (generates.Report lines))
  summed_lines s lines answers is = (Ok answers.0, answers.1, answers.2, rw (is, answers.3) refl)

  pub summed_flat : (why : NotFlat) (refusal : Refusal) → SummaryAnswers net intent PACKETS (Err (faults.NotFlat why))
      → refusal ≡ flat_refusal net why → Generates (CompiledWants SumWants net intent) (Err (halts.Refused refusal))
  summed_flat why refusal answers is = (Err (faults.NotFlat why), answers.0, answers.1, ap refused is)

  pub summed_none : (s : Solution) (line : Text) → SummaryAnswers net intent PACKETS (Err (faults.NoList s))
      → bytes_of_text line ≡ none_line
      → Generates (CompiledWants SumWants net intent) (Ok (generates.NoList line))
  summed_none s line answers is = (Err (faults.NoList s), answers.0, answers.1, ap no_list is)

  pub summed_long : (c : Compiled) (line : Text) → SummaryAnswers net intent PACKETS (Err (faults.TooLong c))
      → bytes_of_text line ≡ too_long_line c.containers → Generates (CompiledWants SumWants net intent) (Ok (generates.NoList line))
  summed_long c line answers is = (Err (faults.TooLong c), answers.0, answers.1, ap no_list is)

  pub summed_over : (c : Compiled) (line : Text) → SummaryAnswers net intent PACKETS (Err (faults.HopLimit c))
      → bytes_of_text line ≡ hop_limit_line c.need → Generates (CompiledWants SumWants net intent) (Ok (generates.NoList line))
  summed_over c line answers is = (Err (faults.HopLimit c), answers.0, answers.1, ap no_list is)

-- what was judged well is wanted as it is, and what was refused has its refusal

pub generates_intent : (net : Network) (intent : Intent) (text : List ℕ) (answer : Result Generated Halt) → intent_in net text ≡ Ok intent
    → Generates (CompiledWants SumWants net intent) answer → Generates (IntentWants SumWants net (intent_in net text)) answer
generates_intent net intent text answer is gives =
    subst (λ (judged : Result Intent Refusal). Generates (IntentWants SumWants net judged) answer) (sym is) gives

pub intent_halts : (net : Network) (text : List ℕ) (halt : Halt) → JudgesText (intent_in net) text (Err halt)
    → Generates (IntentWants SumWants net (intent_in net text)) (Err halt)
intent_halts net text (halts.Refused refusal) is = rw is refl
intent_halts net text (halts.Failed failures.Fault) none = none
intent_halts net text (halts.Failed failures.NoMemory) is = tt

pub generates_network : (net : Network) (n : ℕ) (answer : Result Generated Halt) → network_in (net_text n) ≡ Ok net
    → Generates (IntentWants SumWants net (intent_in net (intent_text n))) answer → Generates (GenWants n mades.Sum) answer
generates_network net n answer is gives =
    subst (λ (judged : Result Network Refusal). Generates (NetworkWants SumWants judged (Some (intent_text n))) answer) (sym is) gives

pub network_halts : (n : ℕ) (halt : Halt) → JudgesText network_in (net_text n) (Err halt) → Generates (GenWants n mades.Sum) (Err halt)
network_halts n (halts.Refused refusal) is = rw is refl
network_halts n (halts.Failed failures.Fault) none = none
network_halts n (halts.Failed failures.NoMemory) is = tt

pub ruleset summaries =
    (summed_lines, summed_flat, summed_none, summed_long, summed_over, generates_intent, intent_halts, generates_network, network_halts)

-- what the command leaves

module _ (n : ℕ) (made : Made) (f : FilesSeen) (s : SourceSeen) where
  -- no file is asked for
  takes : (stop : Stop) → AsksAs stop [] [] → f ≡ files_left_by stop f → FailsBy stop [] f → is_at_input stop ≡ false
      → Takes (gen_spec n made) stop f f s s
  takes stop those seen fails other = record {
    asks = record {
      names = [];
      in_order = record { rest = []; whole = refl };
      those = each f.told (λ held. AsksAs stop (names_of (gen_spec n made) held) []) (λ held. those);
      fails = fails;
      seen = seen;
    };
    reads = reads_nothing stop s other;
    unread = each f.told (λ held. Unit {0} → s ≡ s) (λ held _. refl);
    reads_none = λ _. refl;
    reads_its = reads_its_none (gen_spec n made) f.told stop s s refl;
  }

  takes_how : (how : Option How) → Takes (gen_spec n made) (stop_at ToOut how) f f s s
  takes_how None = takes Elsewhere (record { rest = []; whole = refl }) refl tt refl
  takes_how (Some how) = takes (At ToOut how) refl refl tt refl

  -- nothing was made
  pub gen_halted : (halt : Halt) (o : SinkSeen) → Generates (GenWants n made) (Err halt)
      → CommandsOut (gen_spec n made) (Err halt) f f s s o o
  gen_halted (halts.Refused refusal) o h =
      refused_commands (gen_spec n made) refusal f f s s o h (inr (inl refl)) (takes Never refl refl tt refl)
  gen_halted (halts.Failed failures.Fault) o none = absurd none
  gen_halted (halts.Failed failures.NoMemory) o h = memory_first (gen_spec n made) f s o

  module _ (text : Text) (h : Generates (GenWants n made) (Ok (generates.Report text))) (o p : SinkSeen) where
    -- the text didn't go out whole
    pub gen_cut : (failure : Failure) → Wrote (ending_of_failure failure) (bytes_of_text text) o p
        → CommandsOut (gen_spec n made) (Err (halts.Failed failure)) f f s s o p
    gen_cut failure wrote = written_cut (gen_spec n made) failure (bytes_of_text text) [] statuses.Done f f s s o p wrote h takes_how

    -- it did
    pub gen_done : (told : Conclusion) → bytes_of_text told.line ≡ [] → told.status ≡ statuses.Done → p ≡ sent (bytes_of_text text) o
        → CommandsOut (gen_spec n made) (Ok told) f f s s o p
    gen_done told line status went = written_whole (gen_spec n made) told (bytes_of_text text) f f s s o p went
        (rw (line, status) h) (rw status refl) (inl status) (takes Never refl refl tt refl) (λ _ no. cc)

  -- there is no list, and nothing is written but its line
  pub gen_without_list : (line : Text) (told : Conclusion) (o : SinkSeen) → Generates (GenWants n made) (Ok (generates.NoList line))
      → told.line ≡ line → told.status ≡ statuses.NoAnswer → CommandsOut (gen_spec n made) (Ok told) f f s s o o
  gen_without_list line told o h is status = λ err. pieces_whole (gen_spec n made) [] (outside f s o err) (outside f s o err) told refl
      (rw (is, status) h) (rw status refl) (inr (inr (inl status))) (takes Never refl refl tt refl) (λ done. cc (sym status ∙ done))
