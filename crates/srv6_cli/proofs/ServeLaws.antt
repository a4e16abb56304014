-- From what a command leaves, and its last line, to what `serve` leaves.
use Rattle.std.proofs.Common.{◌≡◌, inr, ℕ, true, List, [], ◌∷◌, ◌++◌, Option, None, Some, IfSome, IfOk, Result, Ok, Err, refl, sym, ap, ◌∙◌, subst, append-nil, inl}
use Rattle.std.specs.List.{flat_map}
use Rattle.srx_edge.specs.FilesRead.{FilesSeen}
use Rattle.srx_edge.specs.Sources.{SourceSeen, drained}
use Rattle.srx_edge.specs.Sinks.{SinkSeen, sent}
use Rattle.srx_edge.specs.CallSteps.{Ending, Whole, Fault, Memory, How, Failing, Wanting}
use Rattle.srx_edge.specs.CallStepsTerms.{Cut as CutBytes, Wrote}
use Rattle.command_output.specs.declared.halt.Failure.TheVariants as failures
use Rattle.command_output.specs.declared.halt.Halt.{Halt}
use Rattle.command_output.specs.declared.halt.Halt.TheVariants as halts
use Rattle.command_output.specs.declared.status.Status.{Status}
use Rattle.command_output.specs.declared.status.Status.TheVariants as statuses
use Rattle.command_output.specs.declared.conclusion.Conclusion.{Conclusion}
use Rattle.command_output.specs.CommandAnswers.{EndsWith, Commands, Tells, Concludes}
use Rattle.srv6_cli.specs.Commands.{spec_of}
use Rattle.srv6_cli.specs.CommandWords.{Command}
use Rattle.command_output.specs.Gathered.{InGroups, gathered}
use Rattle.command_output.specs.OutputLines.{refusal_line}
use Rattle.command_output.specs.OutputLinesTerms.{bytes_of_text}
use Rattle.command_output.specs.Outside.{Outside, AsksAs, Reads, asked_for_all, files_left_by, FailsBy}
use Rattle.command_output.specs.OutputPieces.{ForErr, ToErr, Output, Sinks, Stop, Never, AtFiles, AtInput, At, Elsewhere, ending_by, gone}
use Rattle.command_output.specs.OutputPiecesTerms.{stop_at}
use Rattle.command_output.specs.Endings.{ending_of_status, OnWhole, OrNothing, LinesLast, Takes, ReadsIts}
use Rattle.srv6_cli.specs.Serves.{Serves}
use Rattle.command_output.specs.CommandSpec.{CommandSpec, names_of, WantedOf, IsOneOf, Held}
use Rattle.command_output.proofs.PublicLaws.{gone_append, ending_by_stop_at, in_groups, went_cut, reads_its_whole}
use Rattle.srv6_cli.proofs.Completing.{completes}

-- the sinks, and what is outside, with another `err`
abbrev pub with_err : SinkSeen → Outside → Outside
with_err err outside = record outside { sinks = record outside.sinks { err = err } }

on_whole : (ending : Ending) (P : Type 0) → (ending ≡ Whole → P) → OnWhole ending P
on_whole Whole P f = f refl
on_whole Fault P f = tt
on_whole Memory P f = tt

-- a stop at the last line: what was done before was all that there is

asks_as : (how : Option How) (wanted names : List (List ℕ)) → names ≡ wanted → AsksAs (stop_at ToErr how) wanted names
asks_as None wanted names e = record { rest = []; whole = append-nil names ∙ e }
asks_as (Some how) wanted names e = e

asks_told : (spec : CommandSpec) (how : Option How) (names : List (List ℕ)) (told : Option (List (List ℕ × List ℕ)))
    → IfSome told (λ held. AsksAs Never (names_of spec held) names)
    → IfSome told (λ held. AsksAs (stop_at ToErr how) (names_of spec held) names)
asks_told spec how names None h = tt
asks_told spec how names (Some held) h = asks_as how (names_of spec held) names h

files_left : (how : Option How) (files : FilesSeen) → files_left_by (stop_at ToErr how) files ≡ files
files_left None files = refl
files_left (Some how) files = refl

reads_on : (how : Option How) (old new : SourceSeen) → Reads Never old new → Reads (stop_at ToErr how) old new
reads_on None old new (inl same) = inl same
reads_on None old new (inr whole) = inr (inl whole)
reads_on (Some how) old new h = h

reads_its_on : (spec : CommandSpec) (how : Option How) (told : Option Held) (old new : SourceSeen) → ReadsIts spec told Never old new
    → ReadsIts spec told (stop_at ToErr how) old new
reads_its_on spec None told old new h = reads_its_whole spec told Elsewhere old new tt
reads_its_on spec (Some how) told old new h = h

fails_on : (how : Option How) (names : List (List ℕ)) (files : FilesSeen) → FailsBy (stop_at ToErr how) names files
fails_on None names files = tt
fails_on (Some how) names files = tt

takes_on : (spec : CommandSpec) (how : Option How) (f g : FilesSeen) (s t : SourceSeen) → Takes spec Never f g s t
    → Takes spec (stop_at ToErr how) f g s t
takes_on spec how f g s t takes = record {
  asks = record {
    names = takes.asks.names;
    in_order = takes.asks.in_order;
    those = asks_told spec how takes.asks.names f.told takes.asks.those;
    fails = fails_on how takes.asks.names f;
    seen = takes.asks.seen ∙ sym (files_left how (asked_for_all takes.asks.names f));
  };
  reads = reads_on how s t takes.reads;
  unread = takes.unread;
  reads_none = takes.reads_none;
  reads_its = reads_its_on spec how f.told s t takes.reads_its;
}

or_nothing : (how : Option How) (output : Output) (P : Type 0) → P → OrNothing (stop_at ToErr how) output P
or_nothing None output P p = inr p
or_nothing (Some how) output P p = p

lines_last_law : (how : Option How) (old new : Sinks) → LinesLast (stop_at ToErr how) old new
lines_last_law None old new = tt
lines_last_law (Some how) old new = tt

-- all that a command leaves where it ended whole, but for its last line
record Ended (command : Command) (last : List ℕ) (own : Status) (old mid : Outside) : Type 0 where
  output : Output
  wanted : WantedOf (spec_of command) old.files.told old.input.left output
  ends : EndsWith last own output old.sinks mid.sinks
  status_own : IsOneOf (spec_of command).statuses own
  takes : Takes (spec_of command) Never old.files mid.files old.input mid.input
  read_to_end : own ≡ statuses.Done → (spec_of command).reads ≡ true → mid.input ≡ drained old.input

-- the line went out whole
line_whole : (command : Command) (last : List ℕ) (own status : Status) (old mid : Outside) (err : SinkSeen) → Ended command last own old mid
    → ending_of_status status ≡ Whole → status ≡ own → err ≡ sent last mid.sinks.err → Serves command status old (with_err err mid)
line_whole command last own status old mid err e whole is went = record {
  stop = Never;
  ending = sym whole;
  output = e.output;
  wanted = e.wanted;
  went = in_groups Never e.output.pieces old.sinks (record mid.sinks { err = err })
      (ap (λ (s : SinkSeen). record mid.sinks { err = s }) went
      ∙ (ap (gone (ForErr last ∷ [])) e.ends.went ∙ (sym (gone_append e.ends.before (ForErr last ∷ []) old.sinks)
      ∙ ap (λ (o : Output). gone o.pieces old.sinks) (sym e.ends.is))));
  lines_last = λ _. tt;
  status_wanted = on_whole (ending_of_status status) (e.output.status ≡ status) (λ _. ap (λ (o : Output). o.status) e.ends.is ∙ sym is);
  status_own = on_whole (ending_of_status status) (IsOneOf (spec_of command).statuses status)
      (λ _. subst (IsOneOf (spec_of command).statuses) (sym is) e.status_own);
  takes = e.takes;
  read_to_end = λ done. e.read_to_end (sym is ∙ done);
  complete = λ sure fault. cc (sym whole ∙ ap ending_of_status fault);
}

-- only a front of it did, or none
line_cut : (command : Command) (last : List ℕ) (own status : Status) (old mid : Outside) (err : SinkSeen) (ending : Ending)
    → Ended command last own old mid
    → ending_of_status status ≡ ending → (ending ≡ Whole → ⊥) → CutBytes ending last mid.sinks.err err
    → Serves command status old (with_err err mid)
line_cut command last own status old mid err ending e is early cut = record {
  stop = stop_at ToErr cut.how;
  ending = ends;
  output = e.output;
  wanted = or_nothing cut.how e.output (WantedOf (spec_of command) old.files.told old.input.left e.output) e.wanted;
  went = went;
  lines_last = λ _. lines_last_law cut.how old.sinks (record mid.sinks { err = err });
  status_wanted = on_whole (ending_of_status status) (e.output.status ≡ status) (λ whole. absurd (early (sym is ∙ whole)));
  status_own = on_whole (ending_of_status status) (IsOneOf (spec_of command).statuses status) (λ whole. absurd (early (sym is ∙ whole)));
  takes = takes;
  read_to_end = λ done. absurd (early (sym is ∙ ap ending_of_status done));
  complete = completes (spec_of command) status (stop_at ToErr cut.how) (flat_map gathered went.groups) old (with_err err mid) ends takes
      went.went;
}
  where
    ends : ending_by (stop_at ToErr cut.how) ≡ ending_of_status status
    ends = ending_by_stop_at ToErr cut.how ∙ (cut.ends ∙ sym is)

    went : InGroups (stop_at ToErr cut.how) e.output.pieces old.sinks (record mid.sinks { err = err })
    went = subst (λ (o : Output). InGroups (stop_at ToErr cut.how) o.pieces old.sinks (record mid.sinks { err = err })) (sym e.ends.is)
        (in_groups (stop_at ToErr cut.how) (e.ends.before ++ ForErr last ∷ []) old.sinks (record mid.sinks { err = err })
        (went_cut ToErr ending e.ends.before [] last old.sinks mid.sinks err e.ends.went cut))

    takes : Takes (spec_of command) (stop_at ToErr cut.how) old.files mid.files old.input mid.input
    takes = takes_on (spec_of command) cut.how old.files mid.files old.input mid.input e.takes

line_ends : (command : Command) (last : List ℕ) (own status : Status) (old mid : Outside) (err : SinkSeen) (ending : Ending)
    → Ended command last own old mid
    → ending_of_status status ≡ ending → Wrote ending last mid.sinks.err err → OnWhole ending (status ≡ own)
    → Serves command status old (with_err err mid)
line_ends command last own status old mid err Whole e is wrote own' = line_whole command last own status old mid err e is own' wrote
line_ends command last own status old mid err Fault e is wrote own' =
    line_cut command last own status old mid err Fault e is (λ no. cc) wrote
line_ends command last own status old mid err Memory e is wrote own' =
    line_cut command last own status old mid err Memory e is (λ no. cc) wrote

-- a step wasn't done, so nothing more is written
failed_serves : (command : Command) (status : Status) (old mid : Outside) (stop : Stop) (output : Output)
    → ending_by stop ≡ ending_of_status status
    → (ending_of_status status ≡ Whole → ⊥) → OrNothing stop output (WantedOf (spec_of command) old.files.told old.input.left output)
    → InGroups stop output.pieces old.sinks mid.sinks → ((spec_of command).lines_last ≡ true → LinesLast stop old.sinks mid.sinks)
    → Takes (spec_of command) stop old.files mid.files old.input mid.input → Serves command status old mid
failed_serves command status old mid stop output is early wanted went last takes = record {
  stop = stop;
  ending = is;
  output = output;
  wanted = wanted;
  went = went;
  lines_last = last;
  status_wanted = on_whole (ending_of_status status) (output.status ≡ status) (λ whole. absurd (early whole));
  status_own = on_whole (ending_of_status status) (IsOneOf (spec_of command).statuses status) (λ whole. absurd (early whole));
  takes = takes;
  read_to_end = λ done. absurd (early (ap ending_of_status done));
  complete = completes (spec_of command) status stop (flat_map gathered went.groups) old mid is takes went.went;
}

-- with the stop's own facts, of which only those of a whole call can be
line_serves : (command : Command) (last : List ℕ) (own status : Status) (old mid : Outside) (err : SinkSeen) (stop : Stop) (output : Output)
    → ending_by stop ≡ Whole → OrNothing stop output (WantedOf (spec_of command) old.files.told old.input.left output)
    → EndsWith last own output old.sinks mid.sinks → IsOneOf (spec_of command).statuses own
    → Takes (spec_of command) stop old.files mid.files old.input mid.input
    → (own ≡ statuses.Done → (spec_of command).reads ≡ true → mid.input ≡ drained old.input)
    → Tells last own status mid.sinks.err err → Serves command status old (with_err err mid)
line_serves command last own status old mid err Never output is wanted ends own' takes read tells =
    line_ends command last own status old mid err (ending_of_status status)
    (record { output = output; wanted = wanted; ends = ends; status_own = own'; takes = takes; read_to_end = read })
    refl tells.wrote tells.whole
line_serves command last own status old mid err AtFiles output is wanted ends own' takes read tells = cc
line_serves command last own status old mid err AtInput output is wanted ends own' takes read tells = cc
line_serves command last own status old mid err (At sink Failing) output is wanted ends own' takes read tells = cc
line_serves command last own status old mid err (At sink Wanting) output is wanted ends own' takes read tells = cc
line_serves command last own status old mid err Elsewhere output is wanted ends own' takes read tells = cc

-- what a command leaves, and then its end, is what `serve` leaves
pub serves : (command : Command) (answer : Result Conclusion Halt) (status : Status) (old mid : Outside) (err : SinkSeen)
    → Commands (spec_of command) answer old mid → Concludes answer status mid.sinks.err err → Serves command status old (with_err err mid)
serves command (Ok told) status old mid err c tells =
    line_serves command (bytes_of_text told.line) told.status status old mid err
    c.stop c.output c.ending c.wanted c.went c.status_own c.takes c.read_to_end tells
serves command (Err (halts.Refused refusal)) status old mid err c tells =
    line_serves command (refusal_line refusal) statuses.Refused status old mid err
    c.stop c.output c.ending c.wanted c.went c.status_own c.takes c.read_to_end tells
serves command (Err (halts.Failed failures.Fault)) status old mid err c is =
    subst (λ (s : Status). Serves command s old (with_err err mid)) (sym is.0)
    (subst (λ (e : SinkSeen). Serves command statuses.OutsideFault old (with_err e mid)) (sym is.1)
    (failed_serves command statuses.OutsideFault old mid c.stop c.output c.ending (λ no. cc) c.wanted c.went c.lines_last c.takes))
serves command (Err (halts.Failed failures.NoMemory)) status old mid err c is =
    subst (λ (s : Status). Serves command s old (with_err err mid)) (sym is.0)
    (subst (λ (e : SinkSeen). Serves command statuses.NoMemory old (with_err e mid)) (sym is.1)
    (failed_serves command statuses.NoMemory old mid c.stop c.output c.ending (λ no. cc) c.wanted c.went c.lines_last c.takes))

-- the status of a command's line is one of a whole call
pub told_whole : (command : Command) (answer : Result Conclusion Halt) (old mid : Outside) → Commands (spec_of command) answer old mid
    → IfOk answer (λ told. ending_of_status told.status ≡ Whole)
told_whole command (Ok told) old mid c = c.went.whole
told_whole command (Err halt) old mid c = tt
