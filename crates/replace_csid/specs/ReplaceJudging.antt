-- Need not be believed: helps proofs and other laws.
-- What is judged of a segment routing header (RFC 9800 section 4.2).
use Rattle.std.specs.Prelude.{◌≡◌, ℕ, ◌<◌}
use Rattle.srv6_rules.specs.Packet.{Packet}
use Rattle.srv6_rules.specs.CompressedSteps.{Move, ReplaceStep, Moved, AtEnd, Dropped, moved}
use Rattle.ip6_headers.specs.Items.{fault_of}
use Rattle.replace_csid.specs.declared.replace_judge.Step.{Step}
use Rattle.replace_csid.specs.declared.replace_judge.ListMove.{ListMove}
use Rattle.replace_csid.specs.declared.replace_judge.ListMove.TheVariants as judgements

abbrev pub step_view : Step → Move
step_view s = record { segments_left = s.segments_left; destination = s.destination.value; ended = s.end }

-- what is judged is what comes of the header, and a move's hop limit can be lowered
abbrev pub IsListMove : Packet → ℕ → ReplaceStep → ListMove → Type 0
IsListMove p at step (judgements.Move s) = (step ≡ Moved (moved p at (step_view s)) s.end) × (1 < p.hop_limit)
IsListMove p at step judgements.End = step ≡ AtEnd
IsListMove p at step (judgements.Refuse fault) = step ≡ Dropped (fault_of fault)
