-- What a command leaves where it ends before anything is written, by how it ends.
use Rattle.std.proofs.Common.{◌≡◌, inl, inr, ℕ, true, false, List, [], ◌∷◌, ◌++◌, Option, None, Some, Ok, Err, refl, ap, ◌∙◌}
use Rattle.srx_edge.specs.FilesRead.{FilesSeen}
use Rattle.srx_edge.specs.Sources.{SourceSeen, drained}
use Rattle.srx_edge.specs.Sinks.{SinkSeen, sent}
use Rattle.srx_edge.specs.CallSteps.{Whole, How}
use Rattle.srx_edge.specs.CallStepsTerms.{Cut as CutBytes, Wrote}
use Rattle.command_output.specs.declared.halt.Failure.{Failure}
use Rattle.command_output.specs.declared.halt.Failure.TheVariants as failures
use Rattle.command_output.specs.declared.halt.Halt.TheVariants as halts
use Rattle.command_output.specs.declared.refusal.Refusal.{Refusal}
use Rattle.command_output.specs.declared.status.Status.{Status}
use Rattle.command_output.specs.declared.status.Status.TheVariants as statuses
use Rattle.command_output.specs.declared.conclusion.Conclusion.{Conclusion}
use Rattle.command_output.specs.CommandAnswers.{ending_of_failure, Commands, CommandsOut}
use Rattle.command_output.specs.Outputs.{refused}
use Rattle.command_output.specs.GatheredTerms.{StopsInGroups, WroteInGroups}
use Rattle.command_output.specs.OutputLines.{refusal_line}
use Rattle.command_output.specs.OutputLinesTerms.{bytes_of_text}
use Rattle.command_output.specs.Outside.{Outside, IsFrontOf}
use Rattle.command_output.specs.OutputPieces.{Piece, ForOut, ForErr, Which, ToOut, Output, Never, AtFiles, AtInput, Elsewhere, gone}
use Rattle.command_output.specs.OutputPiecesTerms.{sinks_of, stop_at}
use Rattle.command_output.specs.Endings.{ending_of_status, OrNothing, LinesLast, Takes}
use Rattle.command_output.specs.CommandSpec.{CommandSpec, names_of, WantedOf, IsOneOf}
use Rattle.command_output.proofs.Asking.{each, reads_its_whole}
use Rattle.command_output.proofs.OutputPieceLemmas.{ending_by_stop_at, went_cut}
use Rattle.command_output.proofs.Gathering.{in_groups, stopped_longer}

-- nothing is written

abbrev pub nothing : Output
nothing = record { pieces = []; status = statuses.OutsideFault }

-- the command is refused before anything is written
pub refused_commands : (spec : CommandSpec) (refusal : Refusal) (f g : FilesSeen) (s t : SourceSeen) (o : SinkSeen)
    → WantedOf spec f.told s.left (refused refusal) → IsOneOf spec.statuses statuses.Refused
    → Takes spec Never f g s t → CommandsOut spec (Err (halts.Refused refusal)) f g s t o o
refused_commands spec refusal f g s t o wanted own takes = λ err. record {
  stop = Never;
  ending = refl;
  output = refused refusal;
  wanted = wanted;
  went = record { before = []; is = refl; went = refl; whole = refl };
  lines_last = λ _. tt;
  status_own = own;
  takes = takes;
  read_to_end = λ done. cc;
}

-- a step wasn't done before anything is written: a fault of the files, one of the input, or a want of memory

pub files_fault : (spec : CommandSpec) (f g : FilesSeen) (s : SourceSeen) (o : SinkSeen) → Takes spec AtFiles f g s s
    → CommandsOut spec (Err (halts.Failed failures.Fault)) f g s s o o
files_fault spec f g s o takes = λ err. record {
  stop = AtFiles;
  ending = refl;
  output = nothing;
  wanted = inl refl;
  went = in_groups AtFiles [] (sinks_of o err) (sinks_of o err) refl;
  lines_last = λ _. tt;
  status_own = tt;
  takes = takes;
  read_to_end = tt;
}

pub input_fault : (spec : CommandSpec) (f g : FilesSeen) (s t : SourceSeen) (o : SinkSeen) → Takes spec AtInput f g s t
    → CommandsOut spec (Err (halts.Failed failures.Fault)) f g s t o o
input_fault spec f g s t o takes = λ err. record {
  stop = AtInput;
  ending = refl;
  output = nothing;
  wanted = inl refl;
  went = in_groups AtInput [] (sinks_of o err) (sinks_of o err) refl;
  lines_last = λ _. tt;
  status_own = tt;
  takes = takes;
  read_to_end = tt;
}

pub memory_wants : (spec : CommandSpec) (f g : FilesSeen) (s t : SourceSeen) (o : SinkSeen) → Takes spec Elsewhere f g s t
    → CommandsOut spec (Err (halts.Failed failures.NoMemory)) f g s t o o
memory_wants spec f g s t o takes = λ err. record {
  stop = Elsewhere;
  ending = refl;
  output = nothing;
  wanted = inl refl;
  went = in_groups Elsewhere [] (sinks_of o err) (sinks_of o err) (record { first = []; rest = []; whole = refl; sinks = refl });
  lines_last = λ _. tt;
  status_own = tt;
  takes = takes;
  read_to_end = tt;
}

-- memory was wanting before anything was read
pub memory_first : (spec : CommandSpec) (f : FilesSeen) (s : SourceSeen) (o : SinkSeen)
    → CommandsOut spec (Err (halts.Failed failures.NoMemory)) f f s s o o
memory_first spec f s o = memory_wants spec f f s s o (record {
  asks = record {
    names = [];
    in_order = record { rest = spec.files; whole = refl };
    those = each f.told (λ held. IsFrontOf (names_of spec held) [])
        (λ held. record { rest = names_of spec held; whole = refl });
    fails = tt;
    seen = refl;
  };
  reads = inl refl;
  unread = each f.told (λ held. spec.leaves_input held → s ≡ s) (λ held _. refl);
  reads_none = λ _. refl;
  reads_its = reads_its_whole spec f.told Elsewhere s s tt;
})

-- a command that writes bytes on `out`, and then a line

abbrev pub written : List ℕ → List ℕ → Status → Output
written bytes last status = record { pieces = ForOut bytes ∷ ForErr last ∷ []; status = status }

-- all of the bytes went out
pub written_whole : (spec : CommandSpec) (told : Conclusion) (bytes : List ℕ) (f g : FilesSeen) (s t : SourceSeen) (o p : SinkSeen)
    → p ≡ sent bytes o
    → WantedOf spec f.told s.left (written bytes (bytes_of_text told.line) told.status)
    → ending_of_status told.status ≡ Whole → IsOneOf spec.statuses told.status → Takes spec Never f g s t
    → (told.status ≡ statuses.Done → spec.reads ≡ true → t ≡ drained s) → CommandsOut spec (Ok told) f g s t o p
written_whole spec told bytes f g s t o p went wanted whole own takes read = λ err. record {
  stop = Never;
  ending = refl;
  output = written bytes (bytes_of_text told.line) told.status;
  wanted = wanted;
  went = record { before = ForOut bytes ∷ []; is = refl; went = ap (λ (q : SinkSeen). record { out = q; err = err }) went; whole = whole };
  lines_last = λ _. tt;
  status_own = own;
  takes = takes;
  read_to_end = read;
}

-- a stop at `out` is one after the files and the input

out_last : (how : Option How) (err : SinkSeen) (o p : SinkSeen)
    → LinesLast (stop_at ToOut how) (record { out = o; err = err }) (record { out = p; err = err })
out_last None err o p = tt
out_last (Some how) err o p = refl

out_wanted : (how : Option How) (output : Output) (P : Type 0) → P → OrNothing (stop_at ToOut how) output P
out_wanted None output P p = inr p
out_wanted (Some how) output P p = p

-- only a front of the bytes went out, or none
written_cut_law : (spec : CommandSpec) (failure : Failure) (bytes last : List ℕ) (status : Status)
    (f g : FilesSeen) (s t : SourceSeen) (o p : SinkSeen)
    → CutBytes (ending_of_failure failure) bytes o p → WantedOf spec f.told s.left (written bytes last status)
    → ((how : Option How) → Takes spec (stop_at ToOut how) f g s t)
    → CommandsOut spec (Err (halts.Failed failure)) f g s t o p
written_cut_law spec failure bytes last status f g s t o p cut wanted takes = λ err. record {
  stop = stop_at ToOut cut.how;
  ending = ending_by_stop_at ToOut cut.how ∙ cut.ends;
  output = written bytes last status;
  wanted = out_wanted cut.how (written bytes last status) (WantedOf spec f.told s.left (written bytes last status)) wanted;
  went = in_groups (stop_at ToOut cut.how) (ForOut bytes ∷ ForErr last ∷ []) (sinks_of o err) (sinks_of p err)
      (went_cut ToOut (ending_of_failure failure) [] (ForErr last ∷ []) bytes (sinks_of o err) (sinks_of o err) p refl cut);
  lines_last = λ _. out_last cut.how err o p;
  status_own = tt;
  takes = takes cut.how;
  read_to_end = tt;
}

pub written_cut : (spec : CommandSpec) (failure : Failure) (bytes last : List ℕ) (status : Status)
    (f g : FilesSeen) (s t : SourceSeen) (o p : SinkSeen)
    → Wrote (ending_of_failure failure) bytes o p → WantedOf spec f.told s.left (written bytes last status)
    → ((how : Option How) → Takes spec (stop_at ToOut how) f g s t)
    → CommandsOut spec (Err (halts.Failed failure)) f g s t o p
written_cut spec failures.Fault bytes last status f g s t o p wrote =
    written_cut_law spec failures.Fault bytes last status f g s t o p wrote
written_cut spec failures.NoMemory bytes last status f g s t o p wrote =
    written_cut_law spec failures.NoMemory bytes last status f g s t o p wrote

-- a command that writes pieces for both sinks, and then a line

module _ (spec : CommandSpec) (before : List Piece) (old new : Outside) where
  abbrev with_last : List ℕ → Status → Output
  with_last last status = record { pieces = before ++ ForErr last ∷ []; status = status }

  -- all of them went out
  pub pieces_whole : (told : Conclusion) → new.sinks ≡ gone before old.sinks
      → WantedOf spec old.files.told old.input.left (with_last (bytes_of_text told.line) told.status)
      → ending_of_status told.status ≡ Whole → IsOneOf spec.statuses told.status
      → Takes spec Never old.files new.files old.input new.input
      → (told.status ≡ statuses.Done → spec.reads ≡ true → new.input ≡ drained old.input)
      → Commands spec (Ok told) old new
  pieces_whole told went wanted whole own takes read = record {
    stop = Never;
    ending = refl;
    output = with_last (bytes_of_text told.line) told.status;
    wanted = wanted;
    went = record { before = before; is = refl; went = went; whole = whole };
    lines_last = λ _. tt;
    status_own = own;
    takes = takes;
    read_to_end = read;
  }

  -- and then the command is refused
  pub pieces_refused : (refusal : Refusal) → new.sinks ≡ gone before old.sinks
      → WantedOf spec old.files.told old.input.left (with_last (refusal_line refusal) statuses.Refused)
      → IsOneOf spec.statuses statuses.Refused
      → Takes spec Never old.files new.files old.input new.input
      → Commands spec (Err (halts.Refused refusal)) old new
  pieces_refused refusal went wanted own takes = record {
    stop = Never;
    ending = refl;
    output = with_last (refusal_line refusal) statuses.Refused;
    wanted = wanted;
    went = record { before = before; is = refl; went = went; whole = refl };
    lines_last = λ _. tt;
    status_own = own;
    takes = takes;
    read_to_end = λ done. cc;
  }

  stop_wanted : (sink : Which) (how : Option How) (output : Output) (P : Type 0) → P → OrNothing (stop_at sink how) output P
  stop_wanted sink None output P p = inr p
  stop_wanted sink (Some how) output P p = p

  -- only a front of them went out
  pieces_cut_law : (failure : Failure) (last : List ℕ) (status : Status) → spec.lines_last ≡ false
      → StopsInGroups (ending_of_failure failure) (before ++ ForErr last ∷ []) old.sinks new.sinks
      → WantedOf spec old.files.told old.input.left (with_last last status)
      → ((sink : Which) (how : Option How) → Takes spec (stop_at sink how) old.files new.files old.input new.input)
      → Commands spec (Err (halts.Failed failure)) old new
  pieces_cut_law failure last status between s wanted takes = record {
    stop = stop_at s.sink s.how;
    ending = ending_by_stop_at s.sink s.how ∙ s.ends;
    output = with_last last status;
    wanted = stop_wanted s.sink s.how (with_last last status)
        (WantedOf spec old.files.told old.input.left (with_last last status)) wanted;
    went = s.went;
    lines_last = λ last. cc;
    status_own = tt;
    takes = takes s.sink s.how;
    read_to_end = tt;
  }

  pub pieces_cut : (failure : Failure) (last : List ℕ) (status : Status) → spec.lines_last ≡ false
      → WroteInGroups (ending_of_failure failure) before old.sinks new.sinks
      → WantedOf spec old.files.told old.input.left (with_last last status)
      → ((sink : Which) (how : Option How) → Takes spec (stop_at sink how) old.files new.files old.input new.input)
      → Commands spec (Err (halts.Failed failure)) old new
  pieces_cut failures.Fault last status between wrote wanted takes = pieces_cut_law failures.Fault last status between
      (stopped_longer before (ForErr last ∷ []) failures.Fault old.sinks new.sinks wrote) wanted takes
  pieces_cut failures.NoMemory last status between wrote wanted takes = pieces_cut_law failures.NoMemory last status between
      (stopped_longer before (ForErr last ∷ []) failures.NoMemory old.sinks new.sinks wrote) wanted takes
