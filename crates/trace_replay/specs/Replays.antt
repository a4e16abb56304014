-- A trace that is run again: which line of it is the first that is wrong, and what should stand there.
use Rattle.std.specs.Prelude.{ℕ, zero, suc, ◌+◌, ◌-◌, max, Bool, if◌then◌else◌, bytes_eq, count_by, List, [], ◌∷◌, length, drop, codes, nat_eq, Option, Some, None, Result, Ok, Err}
use Rattle.std.specs.List.{find, range_with_len, starts_with}
use Rattle.srv6_rules.specs.Packet.{Content, entered}
use Rattle.net_model.specs.Network.{Network}
use Rattle.walk_rules.specs.declared.place.How.TheVariants.{Arrived}
use Rattle.walk_rules.specs.declared.place.Place.{Place}
use Rattle.walk_rules.specs.WalkLaws.{hops_at}
use Rattle.walk_rules.specs.Treatment.{Gave, step_of}
use Rattle.walk_rules.specs.Walk.{next_place}
use Rattle.walk_rules.specs.declared.limits.TheConstants.{MAX_STAGES}
use Rattle.trace_replay.specs.declared.state.ReplayState.{ReplayState}
use Rattle.trace_replay.specs.declared.state.ReplayState.TheVariants as states
use Rattle.trace_replay.specs.declared.line.Line.{Line}
use Rattle.trace_replay.specs.declared.line.Line.TheVariants as lines
use Rattle.trace_replay.specs.declared.verdict.Replayed.{Replayed}
use Rattle.trace_replay.specs.TraceGrammar.{line_read}
use Rattle.trace_replay.specs.TraceLines.{stage_text, stages_text}

-- a line is the one of what a choice gives
abbrev pub is_given : Network → Place → Content → List ℕ → ℕ → Bool
is_given net place content line choice = bytes_eq line (stage_text net (step_of net place content choice))

-- how many choices there are: as many as equal next hops, and one where there are none
abbrev pub choices_at : Network → Place → Content → ℕ
choices_at net place content = max 1 (length (hops_at net place content))

-- the first choice that gives a line
unfoldable pub choice_given : Network → Place → Content → List ℕ → Option ℕ
choice_given net place content line = find (is_given net place content line) (range_with_len 0 (choices_at net place content))

-- what there is of a packet where it stands after a stage, if it goes on, with so many stages left
abbrev pub going : Option Place → Content → ℕ → ReplayState
going None content left = states.Ended
going (Some place) content zero = states.Stopped
going (Some place) content (suc left) = states.Going place content left

abbrev pub after_stage : Network → Place → ℕ → Gave → ReplayState
after_stage net place left gave = going (next_place net place gave.outcome) gave.after left

-- a line is right where a choice gives it; else the one for choice 0 should stand there
abbrev pub by_choice : Network → Place → Content → ℕ → Option ℕ → Result ReplayState (List ℕ)
by_choice net place content left None = Err (stage_text net (step_of net place content 0))
by_choice net place content left (Some choice) = Ok (after_stage net place left (step_of net place content choice))

-- what comes of a line: what there is of a packet after it or, where the line is wrong, what should stand there

unfoldable pub ended_text : List ℕ
ended_text = codes "ended"

-- after a packet's end another packet may begin, or the trace ends
abbrev pub by_line : Option Line → Result ReplayState (List ℕ)
by_line None = Err ended_text
by_line (Some (lines.Packet family node packet)) =
    Ok (states.Going (record { node = node; how = Arrived 0; family = family }) (entered family packet) (MAX_STAGES - 1))
by_line (Some lines.Stage) = Err ended_text
by_line (Some lines.Stages) = Err ended_text
by_line (Some lines.End) = Ok states.Ended

abbrev pub line_judged : Network → ReplayState → List ℕ → Result ReplayState (List ℕ)
line_judged net states.Ended line = by_line (line_read net line)
line_judged net (states.Going place content left) line = by_choice net place content left (choice_given net place content line)
line_judged net states.Stopped line = if bytes_eq line stages_text then Ok states.Ended else Err stages_text

-- a line that is wrong, by its number from 1, and what should stand there
pub record Wrong : Type 0 where
  pub line : ℕ
  pub expected : List ℕ

abbrev pub wrong_by : ℕ → (ReplayState → Option Wrong) → Result ReplayState (List ℕ) → Option Wrong
wrong_by n rest (Ok state) = rest state
wrong_by n rest (Err expected) = Some (record { line = n; expected = expected })

-- the first of lines from a number on that is wrong
abbrev pub wrong_from : Network → ReplayState → ℕ → List (List ℕ) → Option Wrong
wrong_from net state n [] = None
wrong_from net state n (line ∷ more) = wrong_by n (λ next. wrong_from net next (n + 1) more) (line_judged net state line)

-- the first line is the head
abbrev pub first_wrong : Network → List (List ℕ) → Option Wrong
first_wrong net lines = wrong_from net states.Ended 2 (drop 1 lines)

-- a trace's packets, and its lines but for the first and the last
abbrev pub begins_packet : List ℕ → Bool
begins_packet line = starts_with nat_eq line (codes "packet ")

abbrev pub counts_of : List (List ℕ) → Replayed
counts_of lines = record { packets = count_by begins_packet lines; lines = length lines - 2 }
