-- Need not be believed: helps proofs and other laws.
-- Terms beside those of `specs/TraceLaws.antt`.
use Rattle.std.specs.Prelude.{◌≡◌, ℕ, List, [], ◌∷◌, Option, Some, None, Result, Ok, Err}
use Rattle.srv6_rules.specs.Packet.{Content, Packet, bytes_of}
use Rattle.icmp6_errors.specs.Answer.{error_bytes}
use Rattle.net_model.specs.Network.{Network}
use Rattle.walk_rules.specs.declared.place.Outcome.{Outcome}
use Rattle.walk_rules.specs.declared.place.Place.{Place}
use Rattle.walk_rules.specs.Relation.{IsStage}
use Rattle.walk_rules.specs.Treatment.{step_of}
use Rattle.trace_replay.specs.declared.state.ReplayState.{ReplayState}
use Rattle.trace_replay.specs.TraceLines.{outcome_text, stage_text}
use Rattle.trace_replay.specs.Replays.{line_judged}

-- a line is the one of an outcome that there is at a place
pub record IsOutcomeLine (net : Network) (place : Place) (content : Content) (line : List ℕ) : Type 0 where
  pub outcome : Outcome
  pub after : Content
  pub error : Option Packet
  pub there : IsStage net place content outcome after error
  pub is_line : line ≡ outcome_text net outcome (bytes_of after) (error_bytes error)

-- a line is the one of what some choice gives
pub record IsChoiceLine (net : Network) (place : Place) (content : Content) (line : List ℕ) : Type 0 where
  pub choice : ℕ
  pub is_line : line ≡ stage_text net (step_of net place content choice)

-- what there is of a packet after lines, where none of them is wrong

abbrev pub state_by : (ReplayState → Option ReplayState) → Result ReplayState (List ℕ) → Option ReplayState
state_by rest (Ok state) = rest state
state_by rest (Err expected) = None

abbrev pub state_behind : Network → ReplayState → List (List ℕ) → Option ReplayState
state_behind net state [] = Some state
state_behind net state (line ∷ more) = state_by (λ next. state_behind net next more) (line_judged net state line)
