-- What words leave that are no command.
use Rattle.std.proofs.Common.{◌≡◌, inl, ℕ, List, [], ◌∷◌, Result, Ok, Err, refl, ap, ap₂, subst}
use Rattle.srx_edge.specs.FilesRead.{FilesSeen}
use Rattle.srx_edge.specs.Sources.{SourceSeen}
use Rattle.srx_edge.specs.Sinks.{SinkSeen}
use Rattle.command_output.specs.declared.halt.Halt.{Halt}
use Rattle.command_output.specs.declared.status.Status.{Status}
use Rattle.command_output.specs.declared.status.Status.TheVariants as statuses
use Rattle.command_output.specs.declared.conclusion.Conclusion.{Conclusion}
use Rattle.command_output.specs.CommandAnswers.{CommandsOut}
use Rattle.command_output.specs.Endings.{ending_of_status, Takes}
use Rattle.command_output.specs.OutputLinesTerms.{bytes_of_text}
use Rattle.command_output.specs.Outside.{Asks}
use Rattle.command_output.specs.OutputPieces.{ForErr, Never}
use Rattle.command_output.proofs.PublicLaws.{each, reads_its_none}
use Rattle.srv6_cli.specs.Commands.{spec_of, usage_line, usage_spec}
use Rattle.srv6_cli.specs.CommandsTerms.{UsageTold}
use Rattle.srv6_cli.specs.CommandWords.{Command, Unknown}

-- words that are no command

usage_asks : (f : FilesSeen) → Asks usage_spec Never f f
usage_asks f = record {
  names = [];
  in_order = record { rest = []; whole = refl };
  those = each f.told (λ held. [] ≡ []) (λ held. refl);
  fails = tt;
  seen = refl;
}

usage_takes : (f : FilesSeen) (s : SourceSeen) → Takes usage_spec Never f f s s
usage_takes f s = record {
  asks = usage_asks f;
  reads = inl refl;
  unread = each f.told (λ held. Unit {0} → s ≡ s) (λ held _. refl);
  reads_none = λ _. refl;
  reads_its = reads_its_none usage_spec f.told Never s s refl;
}

usage_told : (told : Conclusion) (f : FilesSeen) (s : SourceSeen) (o : SinkSeen) → bytes_of_text told.line ≡ usage_line
    → told.status ≡ statuses.Usage
    → CommandsOut usage_spec (Ok told) f f s s o o
usage_told told f s o line status = λ err. record {
  stop = Never;
  ending = refl;
  output = record { pieces = ForErr (bytes_of_text told.line) ∷ []; status = told.status };
  wanted = ap₂ (λ (l : List ℕ) (t : Status). record { pieces = ForErr l ∷ []; status = t }) line status;
  went = record { before = []; is = refl; went = refl; whole = ap ending_of_status status };
  lines_last = λ _. tt;
  status_own = inl status;
  takes = usage_takes f s;
  read_to_end = λ _ none. cc;
}

usage_answer : (answer : Result Conclusion Halt) (f : FilesSeen) (s : SourceSeen) (o : SinkSeen) → UsageTold answer
    → CommandsOut usage_spec answer f f s s o o
usage_answer (Ok told) f s o h = usage_told told f s o h.0 h.1
usage_answer (Err halt) f s o h = absurd h

pub usage_commands : (command : Command) (answer : Result Conclusion Halt) (f : FilesSeen) (s : SourceSeen) (o : SinkSeen) → Unknown ≡ command
    → UsageTold answer
    → CommandsOut (spec_of command) answer f f s s o o
usage_commands command answer f s o is h =
    subst (λ (k : Command). CommandsOut (spec_of k) answer f f s s o o) is (usage_answer answer f s o h)
