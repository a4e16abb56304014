-- Need not be believed: helps proofs and other laws.
-- A stage's line, judged by what each choice gives.
use Rattle.std.specs.Prelude.{◌≡◌, ℕ, List, Option, Some, None, string_bytes}
use Rattle.srv6_rules.specs.Packet.{Content}
use Rattle.net_model.specs.Network.{Network}
use Rattle.walk_rules.specs.declared.place.Outcome.{Outcome}
use Rattle.walk_rules.specs.declared.place.Place.{Place}
use Rattle.walk_rules.specs.Treatment.{step_of}
use Rattle.trace_replay.specs.declared.line_judge.Given.{Given}
use Rattle.trace_replay.specs.declared.line_judge.GivenLine.{GivenLine}
use Rattle.trace_replay.specs.declared.line_judge.LineVerdict.{LineVerdict}
use Rattle.trace_replay.specs.declared.line_judge.LineVerdict.TheVariants as judges
use Rattle.trace_replay.specs.TraceLines.{stage_text}
use Rattle.trace_replay.specs.Replays.{choice_given}

-- a choice gives this outcome and leaves this, and this is its line
pub record IsGiven (net : Network) (place : Place) (content : Content) (choice : ℕ) (given : GivenLine) (after : Content)
    : Type 0 where
  pub gives : (step_of net place content choice).outcome ≡ given.outcome
  pub leaves : (step_of net place content choice).after ≡ after
  pub text : string_bytes given.text ≡ stage_text net (step_of net place content choice)

-- the choice that gives a line gives this outcome and leaves this
pub record IsRight (net : Network) (place : Place) (content : Content) (line : List ℕ) (outcome : Outcome) (after : Content)
    : Type 0 where
  pub choice : ℕ
  pub given : choice_given net place content line ≡ Some choice
  pub gives : (step_of net place content choice).outcome ≡ outcome
  pub leaves : (step_of net place content choice).after ≡ after

-- no choice gives the line, and this is the one for choice 0
pub record IsWrong (net : Network) (place : Place) (content : Content) (line expected : List ℕ) : Type 0 where
  pub given : choice_given net place content line ≡ None
  pub told : expected ≡ stage_text net (step_of net place content 0)

-- what the first choice that gives a line gives, if one gives it
abbrev pub IsFound : Network → Place → Content → List ℕ → Option Given → Type 0
IsFound net place content line None = choice_given net place content line ≡ None
IsFound net place content line (Some given) = IsRight net place content line given.outcome given.after

abbrev pub JudgesStage : Network → Place → Content → List ℕ → LineVerdict → Content → Type 0
JudgesStage net place content line (judges.Right outcome) after = IsRight net place content line outcome after
JudgesStage net place content line (judges.Wrong expected) after = IsWrong net place content line (string_bytes expected)
